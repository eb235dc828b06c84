-- A row's place is a place of the planes (`cell`).
-- Assumes nothing.
use mathlib.Core.Path.{ap, sym, ◌∙◌}
use Rattle.trits.specs.Trit.{number}
use Rattle.grid.proofs.Cells.{cell}
use Rattle.pivoting.proofs.search.number_of.Goals as goal

pub returns : goal.returns
returns c =
    let a = c.args in
    c.number_at.ensures ∙ ap number (sym (cell a.w a.m.ones.now a.m.twos.now a.i a.q c.requires.column))
