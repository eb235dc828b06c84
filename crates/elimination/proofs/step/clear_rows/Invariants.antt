-- Each turn clears one row more (`rows_turn`); none of them is the pivot's.
-- Assumes nothing.
use Rattle.trits.specs.Rows.{matrix_at}
use Rattle.grid.specs.Steps.{Grid, taken_out}
use Rattle.elimination.proofs.step.clear_rows.Given as goal

abbrev pub invariant-loop-i : goal.invariant-loop-i
invariant-loop-i l =
    Grid l.ones l.twos l.rows l.w (taken_out l.from l.i l.at l.c (matrix_at l.w l.initial.ones l.initial.twos))
