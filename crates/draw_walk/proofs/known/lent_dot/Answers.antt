-- Both rows are lent as rows of their own, and the product is over their words.
-- Assumes nothing.
use mathlib.Core.Path.{refl, ◌∙◌}
use Rattle.draw_walk.proofs.known.lent_dot.Goals as goal

pub returns : goal.returns
returns c =
    let x = c.row_of.ensures in
    let y = c.row_of-2.ensures in
    c.dot.ensures ∙ rw (x.trits, y.trits, x.size) refl
