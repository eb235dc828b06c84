-- A check refuses, and says yes, as it did when it answered the weight alone: ones and twos add up to the weight. Assumes nothing.
use mathlib.Core.Path.{◌≡◌, refl, sym, ◌∙◌}
use Prim.Native.Nat.{ℕ, zero, suc, ◌+◌}
use native.Mathlib.Nat.{add-zero}
use native.Mathlib.Omega.{arith}
use borrow.Author.Tests.{ne_eqb}
use Rattle.trits.specs.Trit.{Trit, weight_v, counts_v, sum_of}
use Rattle.trits.specs.declared.Counts.{Counts}
use Rattle.trits.proofs.Counting.{counts_weight}
use Rattle.verdict.specs.Verdict.{full_counts}
use Rattle.held_key.specs.Held.{row_trits}
use Rattle.check_tests.specs.Check.{Check, PackedCheck, check_refusal, check_packed_refusal, held_counts_under, answered, check_answer, check_answer_under}
use Rattle.check_tests.specs.Check.{check_packed_answer, check_packed_answer_under}
use Rattle.check_tests.specs.AsBefore.{weight_alone, check_word, check_packed_word, check_by, check_packed_by, SameVerdict}

-- an answer looks at the sum of its two numbers alone
by_sum : (r : ℕ) (a b : Counts) (w : ℕ) → sum_of a ≡ sum_of b → SameVerdict (answered r a w) (answered r b w)
unfolding answered
by_sum zero a b w e = record { same_refusal = refl; same_yes = rw e; same_sum = e }
by_sum (suc r) a b w e = let refused = ne_eqb (suc r) 0 (λ z. omega arith) in record { same_refusal = rw refused; same_yes = rw refused; same_sum = rw refused }

-- the answer is that by `counts_v`
pub check_counts_apart : (c : Check) → check_answer c ≡ check_by counts_v c
unfolding check_answer_under held_counts_under full_counts
check_counts_apart c = refl

pub check_packed_counts_apart : (c : PackedCheck) → check_packed_answer c ≡ check_packed_by counts_v c
unfolding check_packed_answer_under held_counts_under full_counts
check_packed_counts_apart c = refl

-- and as it was by the weight
apart : (r : ℕ) (v : ℕ → Trit) (m w : ℕ) → SameVerdict (answered r (counts_v v m) w) (answered r (weight_alone v m) w)
apart r v m w = by_sum r (counts_v v m) (weight_alone v m) w (counts_weight v m ∙ sym (add-zero (weight_v v m)))

pub check_as_before : (c : Check) → SameVerdict (check_answer c) (check_by weight_alone c)
check_as_before c = rw (check_counts_apart c) (apart (check_refusal c) (check_word c) (row_trits c.held + c.held.k) c.held.w)

pub check_packed_as_before : (c : PackedCheck) → SameVerdict (check_packed_answer c) (check_packed_by weight_alone c)
check_packed_as_before c = rw (check_packed_counts_apart c) (apart (check_packed_refusal c) (check_packed_word c) (row_trits c.held + c.held.k) c.held.w)
