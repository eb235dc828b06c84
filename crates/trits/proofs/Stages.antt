-- Request C-20, of any call: its answer is the old one, or 4 for 3, exactly where the first buffer refused for its contents has both faults;
-- and no lent buffer is another at exit. Assumes nothing.
use mathlib.Core.Path.{◌≡◌, refl, sym, ap, ◌∙◌}
use mathlib.Core.Bool.{Bool, true, false, ◌&&◌, ◌||◌, cond, true≢false}
use mathlib.Core.Logic.{◌⊎◌, inl, inr, ◌≢◌}
use mathlib.Core.List.{List, [], ◌∷◌, ◌++◌}
use Prim.Native.Nat.{ℕ, zero, suc, ◌<◌}
use native.Mathlib.Omega.{arith}
use borrow.Author.Tests.{ne_eqb}
use lib.Dec.{eqb}
use Rattle.trits.specs.Planes.{both_set}
use Rattle.trits.specs.Rows.{rows_past_end}
use Rattle.trits.specs.Refusal.{refuse, demand, first, at_exit, space_exit, PlanesTest, planes_refusal}
use Rattle.trits.specs.Stages.{both_first, Stage, planes_stage, other_stage, decided, first_has_both, FourForThree}

-- ---- a chain of tests in stages

module _ (t : Bool) (k : ℕ) (h : 0 < k) {rest stages : ℕ} (e : rest ≡ stages) where
  pub refuse_stage : refuse t k rest ≡ first (refuse t k 0) stages
  unfolding first
  refuse_stage = by t
    where
      by : (t : Bool) → refuse t k rest ≡ first (refuse t k 0) stages
      by true = rw (ne_eqb k 0 (λ z. omega arith))
      by false = e

  pub demand_stage : demand t k rest ≡ first (demand t k 0) stages
  unfolding first
  demand_stage = by t
    where
      by : (t : Bool) → demand t k rest ≡ first (demand t k 0) stages
      by true = e
      by false = rw (ne_eqb k 0 (λ z. omega arith))

-- the last stage
pub last_stage : (a : ℕ) → a ≡ first a 0
unfolding first
last_stage zero = refl
last_stage (suc a) = rw (ne_eqb (suc a) 0 (λ z. omega arith))

-- three groups of tests, gathered either way
pub first_nested : (a b c : ℕ) → first a (first b c) ≡ first (first a b) c
unfolding first
first_nested zero b c = refl
first_nested (suc a) b c = let e = ne_eqb (suc a) 0 (λ z. omega arith) in rw (e, e)

-- stages after stages
pub decided_append : (test : PlanesTest) (a b : List Stage) → first (decided test a) (decided test b) ≡ decided test (a ++ b)
unfolding decided first
decided_append test [] b = refl
decided_append test (planes_stage ones twos rows m ∷ a) b =
    sym (first_nested (test ones twos rows m) (decided test a) (decided test b)) ∙ ap (first (test ones twos rows m)) (decided_append test a b)
decided_append test (other_stage r ∷ a) b = sym (first_nested r (decided test a) (decided test b)) ∙ ap (first r) (decided_append test a b)

-- ---- the two cases

same_answer : {A : Type 0} {three four old new : A} → old ≡ new → FourForThree A three four old new false
same_answer e = record { either = inl e; differ = λ t. absurd (true≢false (sym t)); only = λ f. absurd (f e) }

four_for_three : {A : Type 0} {three four : A} → three ≢ four → FourForThree A three four three four true
four_for_three f = record { either = inr (refl, refl); differ = λ t. f; only = λ g. refl }

-- ---- any call, by its stages

abbrev Numbers : ℕ → ℕ → Bool → Type 0
Numbers old new there = FourForThree ℕ 3 4 old new there

-- a buffer with these faults, and then the rest
after_planes : (past both : Bool) {old new : ℕ} {there : Bool} → Numbers old new there
    → Numbers (first (refuse both 3 (refuse past 4 0)) old) (first (refuse past 4 (refuse both 3 0)) new) (cond (past || both) (past && both) there)
unfolding first
after_planes true true h = four_for_three (λ e. omega arith)
after_planes true false h = same_answer refl
after_planes false true h = same_answer refl
after_planes false false h = h

-- another test, and then the rest
after_other : (r : ℕ) {old new : ℕ} {there : Bool} → Numbers old new there → Numbers (first r old) (first r new) (eqb r 0 && there)
unfolding first
after_other zero h = h
after_other (suc r) h = rw (ne_eqb (suc r) 0 (λ z. omega arith)) (same_answer refl)

decided_four_for_three : (stages : List Stage) → Numbers (decided both_first stages) (decided planes_refusal stages) (first_has_both stages)
unfolding decided first_has_both both_first planes_refusal
decided_four_for_three [] = same_answer refl
decided_four_for_three (planes_stage ones twos rows m ∷ rest) = after_planes (rows_past_end ones twos rows m) (both_set ones twos) (decided_four_for_three rest)
decided_four_for_three (other_stage r ∷ rest) = after_other r (decided_four_for_three rest)

-- a call that answers as its stages say, however planes are tested
pub stages_four_for_three : (answer : PlanesTest → ℕ) (stages : List Stage) → ((test : PlanesTest) → answer test ≡ decided test stages)
    → FourForThree ℕ 3 4 (answer both_first) (answer planes_refusal) (first_has_both stages)
stages_four_for_three answer stages e = rw (e both_first, e planes_refusal) (decided_four_for_three stages)

-- ---- the lent buffers at exit

module _ {old new : ℕ} {there : Bool} (h : FourForThree ℕ 3 4 old new there) where
  -- what is the same for 3 and for 4 is the same for both answers
  same_for_both : {A : Type 0} (f : ℕ → A) → f 3 ≡ f 4 → f old ≡ f new
  same_for_both f e = by h.either
    where
      by : (old ≡ new) ⊎ ((old ≡ 3) × (new ≡ 4)) → f old ≡ f new
      by (inl same) = ap f same
      by (inr (three, four)) = ap f three ∙ (e ∙ sym (ap f four))

  pub exit_as_before : {A : Type 0} (written lent : A) → at_exit old written lent ≡ at_exit new written lent
  exit_as_before written lent = same_for_both (λ r. at_exit r written lent) refl

  pub space_as_before : (plane : List ℕ) → space_exit old plane ≡ space_exit new plane
  unfolding space_exit
  space_as_before plane = same_for_both (λ r. space_exit r plane) refl
