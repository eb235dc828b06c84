-- A place of a row that lies within it is that of the planes (`cell`).
-- Assumes nothing.
use mathlib.Core.Path.{ap, sym, ◌∙◌}
use Rattle.trits.specs.Trit.{number}
use Rattle.grid.proofs.Cells.{cell}
use Rattle.draw_walk.proofs.places.cell.Goals as goal

pub returns : goal.returns
returns c =
    let a = c.args in
    c.trit_at.ensures ∙ ap number (sym (cell a.w a.a.ones.now a.a.twos.now a.i a.q c.requires.place))
