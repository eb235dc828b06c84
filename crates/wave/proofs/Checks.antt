-- A check that is not refused says yes exactly when some word of weight w that has the syndrome extends s, and no two words do. Assumes nothing.
use mathlib.Core.Path.{◌≡◌}
use mathlib.Core.Logic.{◌↔◌}
use Prim.Native.Nat.{ℕ, ◌<◌}
use native.Mathlib.Decide.{ℕ_discrete}
use borrow.Author.Tests.{ne_eqb}
use Rattle.trits.specs.Planes.{trit_at}
use Rattle.trits.specs.declared.Counts.{Counts}
use Rattle.packed.specs.Packed.{packed_row}
use Rattle.syndrome.specs.Syndrome.{hashed_row}
use Rattle.matrix.specs.Linear.{Vector}
use Rattle.held_key.specs.Held.{row_trits}
use Rattle.check_tests.specs.Check.{Check, PackedCheck, check_refusal, check_packed_refusal, answered, check_answer, check_answer_under, check_packed_answer}
use Rattle.check_tests.specs.Check.{check_packed_answer_under}
use Rattle.check_tests.proofs.Passed.{check_passed, check_packed_passed}
use Rattle.check_text.specs.TextCheck.{TextCheck, check_text_refusal, check_text_answer}
use Rattle.check_text.proofs.Verdicts.{text_verdict, text_once}
use Rattle.checker.proofs.Verdicts.{check_verdict, check_packed_verdict, found_once}
use Rattle.wave.specs.Verifier.{HeldExtending, HeldFound}

-- the number that an answer tells
answered_number : (r : ℕ) (counts : Counts) (w : ℕ) → (answered r counts w).refusal ≡ 0 → r ≡ 0
unfolding answered
answered_number r counts w e = by (ℕ_discrete r 0)
  where
    by : Dec (r ≡ 0) → r ≡ 0
    by (yes q) = q
    by (no f) = rw (ne_eqb r 0 f) at e

-- ---- in planes

module _ (c : Check) (r : (check_answer c).refusal ≡ 0) where
  pub not_refused : check_refusal c ≡ 0
  unfolding check_answer_under
  not_refused = answered_number (check_refusal c) _ _ r

  pub check_says_yes : ((check_answer c).yes ≡ 1) ↔ HeldFound c.held c.ones c.twos (trit_at c.y_ones c.y_twos) (trit_at c.s_ones c.s_twos)
  check_says_yes = check_verdict c not_refused

  pub one_word : (y s e f : Vector) → HeldExtending c.held c.ones c.twos y s e → HeldExtending c.held c.ones c.twos y s f → (q : ℕ)
      → q < c.held.n → e q ≡ f q
  one_word y s e f = found_once c.held c.ones c.twos y s e f (check_passed c not_refused).0.is_sound

-- ---- packed

module _ (c : PackedCheck) (r : (check_packed_answer c).refusal ≡ 0) where
  pub packed_not_refused : check_packed_refusal c ≡ 0
  unfolding check_packed_answer_under
  packed_not_refused = answered_number (check_packed_refusal c) _ _ r

  pub packed_says_yes : ((check_packed_answer c).yes ≡ 1)
      ↔ HeldFound c.held c.ones c.twos (packed_row c.y) (packed_row c.s)
  packed_says_yes = check_packed_verdict c packed_not_refused

  pub packed_one_word : (y s e f : Vector) → HeldExtending c.held c.ones c.twos y s e
      → HeldExtending c.held c.ones c.twos y s f → (q : ℕ)
      → q < c.held.n → e q ≡ f q
  packed_one_word y s e f = found_once c.held c.ones c.twos y s e f (check_packed_passed c packed_not_refused).0.is_sound

-- ---- a salt and a text

module _ (c : TextCheck) (r : (check_text_answer c).refusal ≡ 0) where
  text_not_refused : check_text_refusal c ≡ 0
  unfolding check_text_answer
  text_not_refused = answered_number (check_text_refusal c) _ _ r

  pub text_says_yes : ((check_text_answer c).yes ≡ 1)
      ↔ HeldFound c.held c.ones c.twos (hashed_row (row_trits c.held) c.salt c.text) (packed_row c.s)
  text_says_yes = text_verdict c text_not_refused

  pub text_one_word : (y s e f : Vector) → HeldExtending c.held c.ones c.twos y s e
      → HeldExtending c.held c.ones c.twos y s f → (q : ℕ)
      → q < c.held.n → e q ≡ f q
  text_one_word = text_once c text_not_refused
