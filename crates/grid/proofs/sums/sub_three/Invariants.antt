-- Each of the words f to v - 1 of row i becomes the difference of it and those of rows a, b and c (`within_more`).
-- Assumes nothing.
use Rattle.trits.specs.Rows.{matrix_at}
use Rattle.grid.specs.Steps.{less_three}
use Rattle.grid.proofs.Words.{MakingWithin}
use Rattle.grid.proofs.sums.sub_three.Given as goal

abbrev pub invariant-loop-k : goal.invariant-loop-k
invariant-loop-k l =
    MakingWithin (less_three (matrix_at l.w l.initial.ones l.initial.twos) l.i l.a l.b l.c) l.rows l.w l.f l.v l.i l.k l.initial.ones l.initial.twos l.ones
    l.twos
