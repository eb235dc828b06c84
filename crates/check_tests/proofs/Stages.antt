-- Request C-20 at a check: its answer is the old one, or 4 for 3 where the first buffer refused for its contents has both faults. Assumes nothing.
use mathlib.Core.Path.{◌≡◌, sym, ap, ◌∙◌}
use mathlib.Core.Bool.{Bool, true}
use mathlib.Core.Logic.{◌⊎◌, inl, inr, ◌≢◌}
use Prim.Native.Nat.{ℕ}
use native.Mathlib.Omega.{arith}
use lib.ListN.{length}
use Rattle.std.specs.Prelude.{Err}
use Rattle.trits.specs.Refusal.{first, PlanesTest}
use Rattle.trits.specs.declared.Counts.{Counts}
use Rattle.trits.specs.declared.refusal.Refusal.TheVariants.{BothPlanes, PastEnd}
use Rattle.trits.specs.Stages.{both_first, decided, first_has_both, FourForThree}
use Rattle.trits.proofs.Stages.{last_stage, stages_four_for_three}
use Rattle.packed.specs.Packed.{packed_refusal}
use Rattle.held_key.specs.Held.{most_key_number, row_trits}
use Rattle.check_tests.specs.declared.Checked.{Checked}
use Rattle.check_tests.specs.Check.{Check, PackedCheck, call_refusal, planes_lengths, planes_contents_under, packed_lengths, packed_contents_under}
use Rattle.check_tests.specs.Check.{check_refusal_under, check_packed_refusal_under, told, answered, check_counts, check_packed_counts}
use Rattle.check_tests.specs.Check.{check_answer, check_answer_under, check_packed_answer, check_packed_answer_under}
use Rattle.check_tests.specs.Stages.{check_stages, check_packed_stages}

-- ---- the refusals, in stages

pub check_stages_law : (test : PlanesTest) (c : Check) → check_refusal_under most_key_number test c ≡ decided test (check_stages c)
unfolding check_refusal_under planes_contents_under decided check_stages
check_stages_law test c =
    let h = c.held in
    ap (first (call_refusal h c.number (length c.ones) (length c.twos) (length c.work_ones) (length c.work_twos)))
    (ap (first (planes_lengths h (length c.y_ones) (length c.y_twos) (length c.s_ones) (length c.s_twos)))
    (ap (first (test c.ones c.twos h.k (row_trits h)))
    (ap (first (test c.y_ones c.y_twos 1 (row_trits h)))
    (last_stage (test c.s_ones c.s_twos 1 h.k)))))

pub check_packed_stages_law : (test : PlanesTest) (c : PackedCheck) → check_packed_refusal_under most_key_number test c ≡ decided test (check_packed_stages c)
unfolding check_packed_refusal_under packed_contents_under decided check_packed_stages
check_packed_stages_law test c =
    let h = c.held in
    ap (first (call_refusal h c.number (length c.ones) (length c.twos) (length c.work_ones) (length c.work_twos)))
    (ap (first (packed_lengths h (length c.y) (length c.s)))
    (ap (first (test c.ones c.twos h.k (row_trits h)))
    (ap (first (packed_refusal (row_trits h) c.y))
    (last_stage (packed_refusal h.k c.s)))))

-- ---- the answers

-- those of a check that is refused 3, and 4
abbrev AnswersFourForThree : Checked → Checked → Bool → Type 0
AnswersFourForThree old new there = FourForThree Checked (told (Err BothPlanes)) (told (Err PastEnd)) old new there

module _ {old new : ℕ} {there : Bool} (h : FourForThree ℕ 3 4 old new there) (counts : Counts) (w : ℕ) where
  answered_four_for_three : AnswersFourForThree (answered old counts w) (answered new counts w) there
  unfolding answered
  answered_four_for_three = record { either = by h.either; differ = λ t. apart h.either t; only = λ f. h.only (λ e. f (rw e)) }
    where
      by : (old ≡ new) ⊎ ((old ≡ 3) × (new ≡ 4))
          → (answered old counts w ≡ answered new counts w)
          ⊎ ((answered old counts w ≡ told (Err BothPlanes)) × (answered new counts w ≡ told (Err PastEnd)))
      by (inl e) = inl (rw e)
      by (inr (e, f)) = inr (rw e, rw f)

      apart : (old ≡ new) ⊎ ((old ≡ 3) × (new ≡ 4)) → there ≡ true → answered old counts w ≢ answered new counts w
      apart (inl e) t g = h.differ t e
      apart (inr (e, f)) t g =
          let number : ℕ → ℕ = λ r. (answered r counts w).refusal in
          let k : ◌≡◌ {A = ℕ} 3 4 = sym (ap number e) ∙ (ap (λ (c : Checked). c.refusal) g ∙ ap number f) in
          omega arith

pub check_four_for_three : (c : Check) →
    AnswersFourForThree (check_answer_under most_key_number both_first c) (check_answer c) (first_has_both (check_stages c))
unfolding check_answer_under
check_four_for_three c =
    answered_four_for_three
    (stages_four_for_three (λ (test : PlanesTest). check_refusal_under most_key_number test c) (check_stages c) (λ test. check_stages_law test c))
    (check_counts c) c.held.w

pub check_packed_four_for_three : (c : PackedCheck)
    → AnswersFourForThree (check_packed_answer_under most_key_number both_first c) (check_packed_answer c) (first_has_both (check_packed_stages c))
unfolding check_packed_answer_under
check_packed_four_for_three c =
    answered_four_for_three
    (stages_four_for_three (λ (test : PlanesTest). check_packed_refusal_under most_key_number test c) (check_packed_stages c) (λ test.
    check_packed_stages_law test c))
    (check_packed_counts c) c.held.w
