-- Each turn walks one position more (`supply_turn`); a position passed over finds a trit (`supply_room`).
-- Assumes nothing.
use Rattle.trits.specs.Planes.{trit_at}
use Rattle.trits.specs.Rows.{matrix_at}
use Rattle.matrix.specs.Linear.{range}
use Rattle.draw_walk.specs.Walks.{firsts_of}
use Rattle.draw_walk.proofs.Supplied.{Walking}
use Rattle.draw_walk.proofs.walk.supply.Given as goal

abbrev pub invariant-loop-i : goal.invariant-loop-i
invariant-loop-i l =
    Walking l.rows l.w l.r l.t (matrix_at l.w l.initial.ones l.initial.twos)
    (firsts_of l.r (matrix_at l.w l.initial.ones l.initial.twos) l.order l.i (trit_at l.v.ones.now l.v.twos.now)
    ((matrix_at l.w l.initial.ones l.initial.twos) l.x)
    ((matrix_at l.w l.initial.ones l.initial.twos) l.t)) (range l.i) l.c l.ones l.twos
