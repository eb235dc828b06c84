-- Each turn puts what stands at one position more (`fill_turn`); row t is not the row that changes.
-- Assumes nothing.
use lib.ListN.{take}
use Rattle.trits.specs.Rows.{matrix_at}
use Rattle.matrix.specs.Linear.{fill}
use Rattle.grid.specs.Steps.{Grid, put_row}
use Rattle.draw_walk.proofs.parts.place_back.Given as goal

abbrev pub invariant-loop-i : goal.invariant-loop-i
invariant-loop-i l =
    Grid l.ones l.twos l.rows l.w
    (put_row l.e (fill (take l.i l.order) ((matrix_at l.w l.initial.ones l.initial.twos) l.t) ((matrix_at l.w l.initial.ones l.initial.twos) l.e))
    (matrix_at l.w l.initial.ones l.initial.twos))
