-- Each turn clears one row of the block more (`join_turn`); none of them is the one that joins.
-- Assumes nothing.
use Rattle.trits.specs.Rows.{matrix_at}
use Rattle.grid.specs.Steps.{Rows}
use Rattle.pivoting.specs.Steps.{JoinedRows}
use Rattle.pivoting.proofs.pivot.join.Given as goal

abbrev pub invariant-loop-j : goal.invariant-loop-j
invariant-loop-j l =
    Rows l.ones l.twos l.rows l.w × JoinedRows l.r l.k l.c l.j (matrix_at l.w l.initial.ones l.initial.twos) (matrix_at l.w l.ones l.twos)
