-- Each turn puts the value of one place more of the last part (`last_turn`); row ev is not the row that changes.
-- Assumes nothing.
use Rattle.draw_walk.proofs.Filled.{forced_at}
use Rattle.grid.specs.Steps.{Grid, put_row}
use Rattle.matrix.specs.Linear.{fill}
use Rattle.trits.specs.Rows.{matrix_at}
use Rattle.trits.specs.Planes.{trit_at}
use lib.ListN.{take, drop}
use Rattle.draw_walk.proofs.parts.supply_forced.Given as goal

abbrev pub invariant-loop-i : goal.invariant-loop-i
invariant-loop-i l =
    Grid l.ones l.twos l.rows l.w (put_row l.e (fill (take l.i (drop l.from l.order))
    (forced_at l.order (matrix_at l.w l.initial.ones l.initial.twos) l.from l.ev (trit_at l.b.ones.now l.b.twos.now) (trit_at l.c.ones.now l.c.twos.now)
    (trit_at l.u.ones.now l.u.twos.now) l.g)
    ((matrix_at l.w l.initial.ones l.initial.twos) l.e)) (matrix_at l.w l.initial.ones l.initial.twos))
