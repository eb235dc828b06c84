-- Every word of row i from word f to word v - 1 becomes what the operation makes of it and that of row j; elsewhere row j is 0 (`Making`).
-- Assumes nothing.
use Rattle.trits.specs.Trit.{zip_v}
use Rattle.trits.specs.Rows.{matrix_at}
use Rattle.grid.proofs.Words.{Making}
use Rattle.grid.proofs.two_rows.join_rows.Given as goal

abbrev pub invariant-loop-k : goal.invariant-loop-k
invariant-loop-k g l =
    Making (zip_v g.O.Operation.op (matrix_at l.w l.initial.ones l.initial.twos l.i) (matrix_at l.w l.initial.ones l.initial.twos l.j)) l.rows l.w l.i l.k
    l.initial.ones l.initial.twos l.ones l.twos
