-- The pivot's row made to have 1 at its column, and taken from other rows, one after another. Assumes nothing.
use mathlib.Core.Path.{◌≡◌, refl, sym, ap, ap₂, ◌∙◌, fun_ext}
use mathlib.Core.Logic.{◌⊎◌, inl, inr, ◌≢◌}
use mathlib.Core.Bool.{Bool, true, false, ◌&&◌, cond, and-false}
use mathlib.Core.List.{List}
use Prim.Native.Nat.{ℕ, ◌+◌, ◌≤◌, ◌<◌}
use native.Mathlib.Decide.{dec_lt, ℕ_discrete}
use native.Mathlib.Omega.{arith}
use borrow.Author.Tests.{eq-eqb, ne_eqb, lt-ltb, le-ltb, lt-leb, le-leb}
use lib.Dec.{eqb, leb}
use Rattle.trits.specs.Trit.{Trit, t0, t1, t2, add_t, sub_t, mul_t}
use Rattle.trits.specs.Rows.{matrix_at}
use Rattle.trits.proofs.Arithmetic.{add_zero_r}
use Rattle.matrix.specs.Linear.{Matrix}
use Rattle.matrix.specs.Steps.{scale_row}
use Rattle.matrix.proofs.Field.{neg_neg}
use Rattle.grid.specs.Steps.{Grid, join_row, clear_row, taken_out}
use Rattle.grid.proofs.Cells.{grid_to}

-- ---- the pivot's row

module _ (j q : ℕ) (A : Matrix) where
  pub scaled_two : A j q ≡ t2 → scale_row j t2 A ≡ scale_row j (A j q) A
  scaled_two e = ap (λ (x : Trit). scale_row j x A) (sym e)

  pub scaled_one : A j q ≡ t1 → A ≡ scale_row j (A j q) A
  scaled_one e = fun_ext (λ i. fun_ext (λ t. by i t (eqb i j))) ∙ ap (λ (x : Trit). scale_row j x A) (sym e)
    where
      by : (i t : ℕ) (b : Bool) → A i t ≡ cond b (mul_t t1 (A i t)) (A i t)
      by i t true = refl
      by i t false = refl

-- ---- one row

module _ (i j q : ℕ) (A : Matrix) where
  clear_by : (B : Matrix) → ((t : ℕ) → B i t ≡ sub_t (A i t) (mul_t (A i q) (A j t))) → ((k t : ℕ) → (k ≡ i → ⊥) → B k t ≡ A k t) → B ≡ clear_row i j q A
  clear_by B new old = fun_ext (λ k. fun_ext (λ t. by k t (ℕ_discrete k i)))
    where
      by : (k t : ℕ) → Dec (k ≡ i) → B k t ≡ clear_row i j q A k t
      by k t (yes e) = ap (λ (n : ℕ). B n t) e ∙ new t ∙ sym (rw (eq-eqb k i e) (ap (λ (n : ℕ). sub_t (A n t) (mul_t (A n q) (A j t))) e))
      by k t (no f) = old k t f ∙ rw (ne_eqb k i f)

  pub clear_one : A i q ≡ t1 → join_row sub_t i j A ≡ clear_row i j q A
  clear_one e = clear_by (join_row sub_t i j A) (λ t. rw (eq-eqb i i refl, e)) (λ k t f. rw (ne_eqb k i f))

  pub clear_two : A i q ≡ t2 → join_row add_t i j A ≡ clear_row i j q A
  clear_two e = clear_by (join_row add_t i j A) (λ t. rw (eq-eqb i i refl, e) (ap (add_t (A i t)) (sym (neg_neg (A j t))))) (λ k t f. rw (ne_eqb k i f))

  pub clear_none : A i q ≡ t0 → A ≡ clear_row i j q A
  clear_none e = clear_by A (λ t. rw e (sym (add_zero_r (A i t)))) (λ k t f. refl)

-- ---- row after row

module _ (j q : ℕ) (A : Matrix) where
  -- row k, less row j as often as its own trit at q says
  abbrev less : ℕ → ℕ → Trit
  less k t = sub_t (A k t) (mul_t (A k q) (A j t))

  module _ (a b k t : ℕ) where
    taken_in : a ≤ k → k < b → taken_out a b j q A k t ≡ sub_t (A k t) (mul_t (A k q) (A j t))
    taken_in h l = rw (le-leb a k h, lt-ltb k b l)

    taken_low : k < a → taken_out a b j q A k t ≡ A k t
    taken_low h = rw (lt-leb a k h)

    taken_high : b ≤ k → taken_out a b j q A k t ≡ A k t
    taken_high h = ap (λ (s : Bool). cond (leb a k && s) (less k t) (A k t)) (le-ltb k b h)
        ∙ ap (λ (s : Bool). cond s (less k t) (A k t)) (and-false (leb a k))

  -- row j is none of the rows from a to b
  taken_pivot : (a b t : ℕ) → (b ≤ j) ⊎ (j < a) → taken_out a b j q A j t ≡ A j t
  taken_pivot a b t (inl l) = taken_high a b j t l
  taken_pivot a b t (inr l) = taken_low a b j t l

  pub taken_none : (a : ℕ) → A ≡ taken_out a a j q A
  taken_none a = fun_ext (λ k. fun_ext (λ t. by k t (dec_lt k a)))
    where
      by : (k t : ℕ) → Dec (k < a) → A k t ≡ taken_out a a j q A k t
      by k t (yes l) = sym (taken_low a a k t l)
      by k t (no f) = sym (taken_high a a k t (omega arith))

  taken_turn : (a i : ℕ) → a ≤ i → (i ≤ j) ⊎ (j < a) → clear_row i j q (taken_out a i j q A) ≡ taken_out a (i + 1) j q A
  taken_turn a i h n = fun_ext (λ k. fun_ext (λ t. by k t (ℕ_discrete k i)))
    where
      else : (k t : ℕ) → (k ≡ i → ⊥) → Dec (k < a) → Dec (k < i) → taken_out a i j q A k t ≡ taken_out a (i + 1) j q A k t
      else k t f (yes l) d = taken_low a i k t l ∙ sym (taken_low a (i + 1) k t l)
      else k t f (no g) (yes l) = taken_in a i k t (omega arith) l ∙ sym (taken_in a (i + 1) k t (omega arith) (omega arith))
      else k t f (no g) (no l) = let m : k ≢ i = f in taken_high a i k t (omega arith) ∙ sym (taken_high a (i + 1) k t (omega arith))

      by : (k t : ℕ) → Dec (k ≡ i) → clear_row i j q (taken_out a i j q A) k t ≡ taken_out a (i + 1) j q A k t
      by k t (yes e) =
          let o : (t : ℕ) → taken_out a i j q A k t ≡ A k t = λ t. taken_high a i k t (omega arith) in
          ap (λ (s : Bool). cond s (sub_t (taken_out a i j q A k t) (mul_t (taken_out a i j q A k q) (taken_out a i j q A j t))) (taken_out a i j q A k t))
          (eq-eqb k i e)
          ∙ ap₂ sub_t (o t) (ap₂ mul_t (o q) (taken_pivot a i t n))
          ∙ sym (taken_in a (i + 1) k t (omega arith) (omega arith))
      by k t (no f) =
          ap (λ (s : Bool). cond s (sub_t (taken_out a i j q A k t) (mul_t (taken_out a i j q A k q) (taken_out a i j q A j t))) (taken_out a i j q A k t))
          (ne_eqb k i f)
          ∙ else k t f (dec_lt k a) (dec_lt k i)

-- ---- the loop over the rows

-- no row of the stretch is the pivot's, and so of a part of it
pub part_beside : {at a b i : ℕ} → (b ≤ at) ⊎ (at < a) → i < b → (i ≤ at) ⊎ (at < a)
part_beside (inl l) h = inl (omega arith)
part_beside (inr l) h = inr l

pub apart_from : {at a b i : ℕ} → (b ≤ at) ⊎ (at < a) → a ≤ i → i < b → i ≢ at
apart_from (inl l) h g e = omega arith
apart_from (inr l) h g e = omega arith

module _ {o t : List ℕ} {r w : ℕ} (j q : ℕ) (A : Matrix) (a : ℕ) {i : ℕ} (g : Grid o t r w (taken_out a i j q A)) where
  -- the pivot's row is as it was
  pub pivot_kept : (i ≤ j) ⊎ (j < a) → (p : ℕ) → matrix_at w o t j p ≡ A j p
  pivot_kept n p = ap (λ (B : Matrix). B j p) g.cells ∙ taken_pivot j q A a i p n

  pub rows_turn : {o' t' : List ℕ} → a ≤ i → (i ≤ j) ⊎ (j < a) → Grid o' t' r w (clear_row i j q (matrix_at w o t)) → Grid o' t' r w (taken_out a (i + 1) j q A)
  rows_turn h n d = grid_to d (ap (λ (B : Matrix). clear_row i j q B) g.cells ∙ taken_turn j q A a i h n)

  pub rows_done : (b : ℕ) → i ≡ b → Grid o t r w (taken_out a b j q A)
  rows_done b e = grid_to g (ap (λ (n : ℕ). taken_out a n j q A) e)
