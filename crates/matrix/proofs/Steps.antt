-- The steps of elimination as they are run: the search for a pivot's row, and the row operations of a step. Assumes nothing.
use mathlib.Core.Path.{◌≡◌, refl, sym, ap, ◌∙◌}
use mathlib.Core.Bool.{Bool, true, false, cond}
use Prim.Native.Nat.{ℕ, zero, suc, ◌+◌, ◌-◌, ◌≤◌, ◌<◌}
use native.Mathlib.Numerals.{add-one}
use native.Mathlib.Decide.{ℕ_discrete}
use native.Mathlib.Omega.{arith}
use borrow.Author.Tests.{eq-eqb, ne_eqb, lt-ltb, le-ltb, ltb-true, ltb-false}
use Rattle.trits.specs.Trit.{Trit, t0, t1, sub_t, mul_t, is_set}
use Rattle.trits.proofs.Arithmetic.{add_neg, unset_zero}
use Rattle.matrix.specs.Linear.{Matrix}
use Rattle.matrix.specs.Steps.{swap_rows, scale_row, pivoted, first_row, pivot_row, has_pivot, step_of}
use Rattle.matrix.proofs.Field.{mul-one, square}

-- ---- the search for a row

module _ (A : Matrix) (q : ℕ) where
  pub first_here : (r i : ℕ) → i < r → is_set (A i q) ≡ true → i ≡ first_row A q i (r - i)
  unfolding first_row
  first_here r i h e = let k : r - i ≡ suc (r - i - 1) = omega arith in rw (k, first_row, e)

  pub first_next : (r i : ℕ) → i < r → is_set (A i q) ≡ false → first_row A q i (r - i) ≡ first_row A q (i + 1) (r - (i + 1))
  unfolding first_row
  first_next r i h e =
      let k : r - i ≡ suc (r - (i + 1)) = omega arith in
      rw (k, first_row, e) (ap (λ (z : ℕ). first_row A q z (r - (i + 1))) (sym (add-one i)))

  pub first_end : (r i : ℕ) → i ≡ r → i ≡ first_row A q i (r - i)
  unfolding first_row
  first_end r i e = let k : r - i ≡ 0 = omega arith in rw (k, first_row)

  -- what the search finds
  pub record Found (at k p : ℕ) : Type 0 where
    pub above : at ≤ p
    pub within : p ≤ at + k
    pub zeros : (i : ℕ) → at ≤ i → i < p → A i q ≡ t0
    pub set : p < at + k → is_set (A p q) ≡ true

  pub first_found : (at k : ℕ) → Found at k (first_row A q at k)
  unfolding first_row
  first_found at zero = record { above = omega arith; within = omega arith; zeros = λ i h l. absurd (omega arith); set = λ l. absurd (omega arith) }
  first_found at (suc k) = by (first_found (suc at) k) (is_set (A at q)) refl
    where
      by : Found (suc at) k (first_row A q (suc at) k) → (t : Bool) → is_set (A at q) ≡ t →
          Found at (suc k) (cond (is_set (A at q)) at (first_row A q (suc at) k))
      by f true e = rw e (record { above = omega arith; within = omega arith; zeros = λ i h l. absurd (omega arith); set = λ l. e })
      by f false e =
          rw e
          (record {
            above = omega (arith, f.above);
            within = omega (arith, f.within);
            zeros = λ i h l. go i h l (ℕ_discrete i at);
            set = λ l. f.set (omega arith);
          })
        where
          go : (i : ℕ) → at ≤ i → i < first_row A q (suc at) k → Dec (i ≡ at) → A i q ≡ t0
          go i h l (yes d) = ap (λ (z : ℕ). A z q) d ∙ unset_zero (A at q) e
          go i h l (no d) = f.zeros i (omega arith) l

-- ---- a step

module _ (j q a : ℕ) (A : Matrix) where
  -- the rows above the pivot's are as they were
  pub pivoted_above : (i t : ℕ) → j ≤ a → i < j → pivoted j q a A i t ≡ A i t
  pivoted_above i t h l = rw (le-ltb j i (omega arith), ne_eqb i j (λ e. omega arith), ne_eqb i a (λ e. omega arith))

  module _ (z : is_set (A a q) ≡ true) where
    -- the pivot's row has 1 at the column
    scaled_one : scale_row j (A a q) (swap_rows j a A) j q ≡ t1
    scaled_one = rw (eq-eqb j j refl) (square (A a q) z)

    pub pivoted_one : pivoted j q a A j q ≡ t1
    pivoted_one = rw (le-ltb j j (omega arith)) scaled_one

    -- and the rows below it have 0 there
    pub pivoted_below : (i : ℕ) → j < i → pivoted j q a A i q ≡ t0
    pivoted_below i l =
        let S : Matrix = scale_row j (A a q) (swap_rows j a A) in
        rw (lt-ltb j i l)
        (ap (λ (x : Trit). sub_t (S i q) (mul_t (S i q) x)) scaled_one ∙ ap (sub_t (S i q)) (mul-one (S i q)) ∙ add_neg (S i q))

module _ (r at q : ℕ) (A : Matrix) where
  pub no_pivot : pivot_row r A q at ≡ r → (false ≡ has_pivot r at q A) × (A ≡ step_of r at q A)
  unfolding has_pivot step_of
  no_pivot e = let h = le-ltb (pivot_row r A q at) r (omega (arith, e)) in (sym h, rw h)

  pub a_pivot : pivot_row r A q at < r → (true ≡ has_pivot r at q A) × (pivoted at q (pivot_row r A q at) A ≡ step_of r at q A)
  unfolding has_pivot step_of
  a_pivot l = let h = lt-ltb (pivot_row r A q at) r l in (sym h, rw h)

-- the tests of a step
module _ (r at q : ℕ) (A : Matrix) where
  pub has_row : has_pivot r at q A ≡ true → (at ≤ pivot_row r A q at) × (pivot_row r A q at < r) × (is_set (A (pivot_row r A q at) q) ≡ true)
  unfolding has_pivot
  has_row e =
      let l = ltb-true (pivot_row r A q at) r e in
      let f = first_found A q at (r - at) in
      (f.above, l, f.set (omega arith))

  pub has_none : has_pivot r at q A ≡ false → (i : ℕ) → at ≤ i → i < r → A i q ≡ t0
  unfolding has_pivot
  has_none e i h l =
      let g = ltb-false (pivot_row r A q at) r e in
      (first_found A q at (r - at)).zeros i h (omega arith)

  pub step_has : has_pivot r at q A ≡ true → step_of r at q A ≡ pivoted at q (pivot_row r A q at) A
  unfolding step_of
  step_has e = rw e

  pub step_none : has_pivot r at q A ≡ false → step_of r at q A ≡ A
  unfolding step_of
  step_none e = rw e

  -- what a step leaves at its row and below
  pub step_one : has_pivot r at q A ≡ true → step_of r at q A at q ≡ t1
  step_one e = ap (λ (B : Matrix). B at q) (step_has e) ∙ pivoted_one at q (pivot_row r A q at) A (has_row e).2

  pub step_below : has_pivot r at q A ≡ true → (i : ℕ) → at < i → step_of r at q A i q ≡ t0
  step_below e i l = ap (λ (B : Matrix). B i q) (step_has e) ∙ pivoted_below at q (pivot_row r A q at) A (has_row e).2 i l

-- ---- what a test chose

module _ {A : Type 0} {b : Bool} (x y : A) where
  pub pick_first : b ≡ true → x ≡ cond b x y
  pick_first e = rw e

  pub pick_second : b ≡ false → y ≡ cond b x y
  pick_second e = rw e

-- a count that one column raised, or left
pub yes_count : {b : Bool} (n : ℕ) → b ≡ true → n + 1 ≡ cond b (suc n) n
yes_count n e = add-one n ∙ pick_first (suc n) n e

pub no_count : {b : Bool} (n : ℕ) → b ≡ false → n ≡ cond b (suc n) n
no_count n e = pick_second (suc n) n e
