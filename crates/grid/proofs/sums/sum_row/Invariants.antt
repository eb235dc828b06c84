-- Each of the words f to v - 1 of row d becomes the sum of those of rows a and b (`within_more`).
-- Assumes nothing.
use Rattle.trits.specs.Trit.{add_t, zip_v}
use Rattle.trits.specs.Rows.{matrix_at}
use Rattle.grid.proofs.Words.{MakingWithin}
use Rattle.grid.proofs.sums.sum_row.Given as goal

abbrev pub invariant-loop-k : goal.invariant-loop-k
invariant-loop-k l =
    MakingWithin (zip_v add_t (matrix_at l.w l.initial.ones l.initial.twos l.a) (matrix_at l.w l.initial.ones l.initial.twos l.b)) l.rows l.w l.f l.v l.d
    l.k l.initial.ones l.initial.twos l.ones l.twos
