-- Each turn clears one row more (`taken_more`); the tables stay as they are.
-- Assumes nothing.
use Rattle.trits.specs.Rows.{matrix_at}
use Rattle.grid.specs.Steps.{Rows}
use Rattle.tables.specs.Tables.{Taken}
use Rattle.tables.proofs.tables.take_rows.Given as goal

abbrev pub invariant-loop-i : goal.invariant-loop-i
invariant-loop-i l =
    Rows l.ones l.twos l.rows l.w × Taken l.r l.c l.a l.i (matrix_at l.w l.initial.ones l.initial.twos) (matrix_at l.w l.ones l.twos)
