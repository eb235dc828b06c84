-- Each turn gives one row more its product (`products_turn`); row e, which is past them, is read as it was.
-- Assumes nothing.
use Prim.Native.Nat.{◌*◌}
use Rattle.trits.specs.Rows.{matrix_at}
use Rattle.grid.specs.Steps.{Grid}
use Rattle.draw_walk.specs.Walks.{with_products}
use Rattle.draw_walk.proofs.known.put_products.Given as goal

abbrev pub invariant-loop-i : goal.invariant-loop-i
invariant-loop-i l =
    Grid l.ones l.twos l.rows l.w
    (with_products l.i l.m (64 * l.w) (matrix_at l.w l.h.ones.now l.h.twos.now) ((matrix_at l.w l.initial.ones l.initial.twos) l.e)
    (matrix_at l.w l.initial.ones l.initial.twos))
