-- Each turn puts the difference at one place more of the last part (`last_turn`); row x is not the row that changes, nor was the place put yet (`less_value`).
-- Assumes nothing.
use lib.ListN.{take, drop}
use Rattle.trits.specs.Rows.{matrix_at}
use Rattle.matrix.specs.Linear.{fill}
use Rattle.grid.specs.Steps.{Grid, put_row}
use Rattle.draw_walk.proofs.Filled.{less_at}
use Rattle.draw_walk.proofs.parts.take_last.Given as goal

abbrev pub invariant-loop-q : goal.invariant-loop-q
invariant-loop-q l =
    Grid l.ones l.twos l.rows l.w
    (put_row l.e (fill (take l.q-index (drop l.from l.order)) (less_at l.order (matrix_at l.w l.initial.ones l.initial.twos) l.from l.x l.e)
    ((matrix_at l.w l.initial.ones l.initial.twos) l.e))
    (matrix_at l.w l.initial.ones l.initial.twos))
