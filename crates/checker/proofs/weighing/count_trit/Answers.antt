-- Of 0, 1 and 2, the one that is odd is 1, and the one whose half is 1 is 2 (`odd_one`, `half_two`).
-- Assumes nothing.
use Prim.Native.Nat.{ℕ, ◌+◌}
use mathlib.Core.Path.{ap, ◌∙◌}
use Rattle.trits.proofs.Counted.{same_counts, odd_one, half_two}
use Rattle.checker.proofs.weighing.count_trit.Goals as goal

pub returns : goal.returns
returns c =
    let a = c.args in
    same_counts (ap (λ (x : ℕ). a.counts.ones + x) (c.from.ensures ∙ odd_one a.t c.requires.1))
    (ap (λ (x : ℕ). a.counts.twos + x) (c.from-2.ensures ∙ half_two a.t c.requires.1))
