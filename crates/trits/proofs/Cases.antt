-- Computed: 4 and 3 in planes, in the order of request C-20 and in the old one; the working space at the ends that the paper lists. Assumes nothing.
use mathlib.Core.Path.{◌≡◌, refl}
use mathlib.Core.Bool.{true, false}
use mathlib.Core.List.{List, [], ◌∷◌}
use Prim.Native.Nat.{ℕ}
use Rattle.trits.specs.Trit.{any_to}
use Rattle.trits.specs.Planes.{bit, bit_at, tabulate, zero_words, both_set, past_end}
use Rattle.trits.specs.Rows.{row_part, rows_past_end}
use Rattle.trits.specs.Refusal.{first, space_exit, PlanesTest, planes_refusal}
use Rattle.trits.specs.Stages.{both_first, Stage, planes_stage, other_stage, decided, first_has_both}

-- ---- two rows of two trits each, whose words are these

abbrev rows : PlanesTest → ℕ → ℕ → ℕ → ℕ → ℕ
rows test o1 o2 t1 t2 = test (o1 ∷ o2 ∷ []) (t1 ∷ t2 ∷ []) 2 2

-- a bit past the length is 4: in either row, in either plane, in both planes; and beside a bit in both planes, in the same row or in the other
past : (rows planes_refusal 4 0 0 0 ≡ 4) × (rows planes_refusal 0 0 0 4 ≡ 4) × (rows planes_refusal 0 4 0 4 ≡ 4) × (rows planes_refusal 5 0 1 0 ≡ 4)
    × (rows planes_refusal 4 1 0 1 ≡ 4) × (rows planes_refusal 1 0 1 4 ≡ 4)
unfolding planes_refusal rows_past_end row_part past_end any_to bit_at bit both_set
past = (refl, refl, refl, refl, refl, refl)

-- a bit in both planes alone is 3, and neither is 0
both : (rows planes_refusal 1 0 1 0 ≡ 3) × (rows planes_refusal 0 2 0 2 ≡ 3) × (rows planes_refusal 1 2 2 1 ≡ 0)
unfolding planes_refusal rows_past_end row_part past_end any_to bit_at bit both_set
both = (refl, refl, refl)

-- where both are, it was 3
before : (rows both_first 0 4 0 4 ≡ 3) × (rows both_first 5 0 1 0 ≡ 3) × (rows both_first 4 1 0 1 ≡ 3) × (rows both_first 1 0 1 4 ≡ 3)
    × (rows both_first 4 0 0 0 ≡ 4)
unfolding both_first rows_past_end row_part past_end any_to bit_at bit both_set
before = (refl, refl, refl, refl, refl)

-- ---- a call that tests two rows of two trits, one word each, and then has something else to refuse

abbrev two : ℕ → ℕ → ℕ → ℕ → ℕ → List Stage
two o1 t1 o2 t2 r = planes_stage (o1 ∷ []) (t1 ∷ []) 1 2 ∷ planes_stage (o2 ∷ []) (t2 ∷ []) 1 2 ∷ other_stage r ∷ []

-- 3 of the first before 4 of the second: nothing changed
first_decides : (decided both_first (two 1 1 5 1 8) ≡ 3) × (decided planes_refusal (two 1 1 5 1 8) ≡ 3) × (first_has_both (two 1 1 5 1 8) ≡ false)
unfolding decided first_has_both first both_first planes_refusal rows_past_end row_part past_end any_to bit_at bit both_set
first_decides = (refl, refl, refl)

-- both of the second, where the first has nothing: 3 became 4
second_has_both : (decided both_first (two 1 2 5 1 8) ≡ 3) × (decided planes_refusal (two 1 2 5 1 8) ≡ 4) × (first_has_both (two 1 2 5 1 8) ≡ true)
unfolding decided first_has_both first both_first planes_refusal rows_past_end row_part past_end any_to bit_at bit both_set
second_has_both = (refl, refl, refl)

-- something else before them decides
other_decides : (decided both_first (other_stage 2 ∷ two 5 1 5 1 0) ≡ 2) × (decided planes_refusal (other_stage 2 ∷ two 5 1 5 1 0) ≡ 2)
    × (first_has_both (other_stage 2 ∷ two 5 1 5 1 0) ≡ false)
unfolding decided first_has_both first both_first planes_refusal rows_past_end row_part past_end any_to bit_at bit both_set
other_decides = (refl, refl, refl)

-- ---- the working space

-- two words of a plane after an end with this number
abbrev left : ℕ → List ℕ
left answer = space_exit answer (5 ∷ 6 ∷ [])

-- untouched after 1 to 8, 11, 15 and 20 to 22
after_1 : left 1 ≡ 5 ∷ 6 ∷ []
unfolding space_exit
after_1 = refl

after_8 : left 8 ≡ 5 ∷ 6 ∷ []
unfolding space_exit
after_8 = refl

after_11 : left 11 ≡ 5 ∷ 6 ∷ []
unfolding space_exit
after_11 = refl

after_15 : left 15 ≡ 5 ∷ 6 ∷ []
unfolding space_exit
after_15 = refl

after_20 : left 20 ≡ 5 ∷ 6 ∷ []
unfolding space_exit
after_20 = refl

after_22 : left 22 ≡ 5 ∷ 6 ∷ []
unfolding space_exit
after_22 = refl

-- all zero after success and every other refusal
after_0 : left 0 ≡ 0 ∷ 0 ∷ []
unfolding space_exit zero_words tabulate
after_0 = refl

after_9 : left 9 ≡ 0 ∷ 0 ∷ []
unfolding space_exit zero_words tabulate
after_9 = refl

after_10 : left 10 ≡ 0 ∷ 0 ∷ []
unfolding space_exit zero_words tabulate
after_10 = refl

after_12 : left 12 ≡ 0 ∷ 0 ∷ []
unfolding space_exit zero_words tabulate
after_12 = refl

after_14 : left 14 ≡ 0 ∷ 0 ∷ []
unfolding space_exit zero_words tabulate
after_14 = refl
