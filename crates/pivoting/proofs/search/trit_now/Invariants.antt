-- Each turn takes one row of the block more from the trit, by numbers (`now_turn`).
-- Assumes nothing.
use Prim.Native.Nat.{◌+◌}
use mathlib.Core.Path.{◌≡◌}
use Rattle.trits.specs.Trit.{number}
use Rattle.trits.specs.Rows.{matrix_at}
use Rattle.matrix.specs.Blocks.{less_of, basis, from}
use Rattle.pivoting.proofs.search.trit_now.Given as goal

abbrev pub invariant-loop-j : goal.invariant-loop-j
invariant-loop-j l =
    let A = matrix_at l.w l.m.ones.now l.m.twos.now in
    l.t ≡ number (less_of l.j (from l.c) (basis l.r A) (A l.i) (l.c + l.k))
