-- Ones and twos worked out once more. Assumes nothing.
use mathlib.Core.Path.{◌≡◌, sym, ap, ◌∙◌}
use mathlib.Core.List.{List}
use Prim.Native.Nat.{ℕ, zero, suc, ◌+◌, ◌≤◌}
use native.Mathlib.Numerals.{add-one}
use native.Mathlib.Omega.{arith}
use Rattle.trits.specs.Trit.{Trit, sum_of}
use Rattle.trits.specs.declared.Counts.{Counts}
use Rattle.held_key.specs.declared.state.Held.{Held}
use Rattle.held_key.specs.Steps.{Whole}
use Rattle.check_tests.specs.Check.{held_counts}
use Rattle.checker.proofs.Weighed.{few_counts}
use Rattle.bench_check.specs.{after}

-- what was worked out once more
pub after_turn : (i : ℕ) {x y : Counts} → y ≡ x → y ≡ after (i + 1) x
unfolding after
after_turn i {x} e = e ∙ ap (λ (k : ℕ). after k x) (sym (add-one i))

-- under one state as under another that is the same
pub after_alike : {h k : Held} {c : Counts} (n : ℕ) (ones twos : List ℕ) (y s : ℕ → Trit) → c ≡ after n (held_counts h ones twos y s) → h ≡ k
    → c ≡ after n (held_counts k ones twos y s)
after_alike n ones twos y s e same = e ∙ ap (λ (h : Held). after n (held_counts h ones twos y s)) same

-- they are at most n
pub after_few : {h : Held} {ones twos : List ℕ} {c : Counts} (n : ℕ) (y s : ℕ → Trit) → Whole h ones twos → c ≡ after n (held_counts h ones twos y s)
    → sum_of c ≤ 16384
unfolding after
after_few zero y s w e = omega (arith, ap sum_of e)
after_few (suc n) y s w e = few_counts y s w e
