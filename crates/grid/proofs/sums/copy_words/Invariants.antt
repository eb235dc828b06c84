-- Each of the words f to v - 1 of row d becomes that of row i (`within_more`).
-- Assumes nothing.
use Rattle.trits.specs.Rows.{matrix_at}
use Rattle.grid.proofs.Words.{MakingWithin}
use Rattle.grid.proofs.sums.copy_words.Given as goal

abbrev pub invariant-loop-k : goal.invariant-loop-k
invariant-loop-k l =
    MakingWithin (matrix_at l.w l.initial.ones l.initial.twos l.i) l.rows l.w l.f l.v l.d l.k l.initial.ones l.initial.twos l.ones l.twos
