-- A block of pivots: each pivot more is one step of the rows that are left for later (`next_later`). Assumes nothing.
use mathlib.Core.Path.{◌≡◌, refl, sym, ap, ap₂, ◌∙◌, fun_ext}
use mathlib.Core.Logic.{inl, inr}
use mathlib.Core.Bool.{Bool, true, false, cond}
use Prim.Native.Nat.{ℕ, zero, suc, ◌+◌, ◌-◌, ◌≤◌, ◌<◌}
use native.Mathlib.Omega.{arith}
use native.Mathlib.Decide.{ℕ_discrete, dec_lt}
use borrow.Author.Tests.{eq-eqb, ne_eqb, lt-ltb, le-ltb}
use lib.Dec.{eqb, ltb}
use Rattle.trits.specs.Trit.{Trit, t0, sub_t, mul_t, is_set, dot_v}
use Rattle.trits.proofs.Arithmetic.{add_zero_r, mul-zero}
use Rattle.matrix.specs.Linear.{Vector, Matrix}
use Rattle.matrix.specs.Steps.{swap_rows, scale_row, pivoted, first_row, pivot_row, has_pivot, step_of}
use Rattle.matrix.specs.Blocks.{less_of, grown, UnitAt, basis, from, pending, brought, pivot_taken, NextPivot, steps, Block, Cleared, Advanced}
use Rattle.matrix.proofs.Dots.{dot_right}
use Rattle.matrix.proofs.Less.{less_none}
use Rattle.matrix.proofs.Steps.{has_row, step_has, step_none}
use Rattle.matrix.proofs.Lazy.{Lazy, lazy_pivot}

-- ---- the rows that are left for later

pub pending_none : (at c : ℕ) (b A : Matrix) → pending at 0 c b A ≡ A
unfolding dot_v
pending_none at c b A = fun_ext (λ i. fun_ext (λ t. by i t (ltb i (at + 0))))
  where
    by : (i t : ℕ) (s : Bool) → cond s (A i t) (sub_t (A i t) t0) ≡ A i t
    by i t true = refl
    by i t false = add_zero_r (A i t)

module _ (at k c : ℕ) (b A : Matrix) where
  pub pending_done : (i : ℕ) → i < at + k → pending at k c b A i ≡ A i
  pending_done i h = fun_ext (λ t. rw (lt-ltb i (at + k) h))

  pub pending_later : (i : ℕ) → at + k ≤ i → pending at k c b A i ≡ less_of k (from c) b (A i)
  pending_later i h = fun_ext (λ t. rw (le-ltb i (at + k) h))

  stands : UnitAt k (from c) b → Lazy at (from c) k b A (pending at k c b A)
  stands u = record { done = λ i h. sym (pending_done i h); later = λ i h. sym (pending_later i h); unit = u }

-- the pivot's row is 0 where it was, if the block's rows are
pub pivot_taken_none : (at k c : ℕ) (b : Matrix) (s : ℕ) (A : Matrix) (t : ℕ) → A s t ≡ t0 → ((j : ℕ) → j < k → b j t ≡ t0)
    → pivot_taken at k c b s A (at + k) t ≡ t0
pivot_taken_none at k c b s A t z y = rw (eq-eqb (at + k) (at + k) refl, eq-eqb s s refl) (ap (mul_t x) (less_none k (from c) b (A s) t z y) ∙ mul-zero x)
  where
    x : Trit
    x = less_of k (from c) b (A s) (c + k)

-- one pivot more
module _ {r at k c : ℕ} {A B : Matrix} (n : NextPivot true r at k c A B) where
  abbrev b : Matrix
  b = basis r A

  abbrev D : Matrix
  D = pending at k c (basis r A) A

  abbrev s : ℕ
  s = pivot_row r (pending at k c (basis r A) A) (c + k) (at + k)

  has : has_pivot r (at + k) (c + k) D ≡ true
  has = sym n.answer

  found : (at + k ≤ s) × (s < r) × (is_set (D s (c + k)) ≡ true)
  found = has_row r (at + k) (c + k) D has

  own : (i : ℕ) → i < r → B i ≡ pivot_taken at k c b s A i
  own = n.front refl

  trit_now : D s (c + k) ≡ less_of k (from c) b (A s) (c + k)
  trit_now = ap (λ (v : Vector). v (c + k)) (pending_later at k c b A s found.0)

  own_row : (i : ℕ) → i < r → B i ≡ scale_row (at + k) (D s (c + k)) (swap_rows (at + k) s (brought k c b s A)) i
  own_row i h = own i h ∙ ap (λ (x : Trit). scale_row (at + k) x (swap_rows (at + k) s (brought k c b s A)) i) (sym trit_now)

  module _ (u : UnitAt k (from c) (basis r A)) where
    abbrev P : Matrix
    P = scale_row (at + k) (D s (c + k)) (swap_rows (at + k) s (brought k c b s A))

    lazy : Lazy at (from c) (suc k) (grown k (from c) b (P (at + k))) P (pivoted (at + k) (c + k) s D)
    lazy = lazy_pivot at (from c) k b A D (stands at k c b A u) s found.0 found.2

    row_in : at + k < r
    row_in = omega (arith, found.0, found.1)

    block_row : (j : ℕ) → j < suc k → basis r B j ≡ grown k (from c) b (P (at + k)) j
    block_row j h = n.block refl j h ∙ ap (λ (p : Vector). grown k (from c) b p j) (own_row (at + k) row_in)

    pub next_unit : UnitAt (suc k) (from c) (basis r B)
    next_unit j l h g = ap (λ (v : Vector). v (from c l)) (block_row j h) ∙ lazy.unit j l h g

    pub next_later : (i : ℕ) → i < r → pending at (suc k) c (basis r B) B i ≡ step_of r (at + k) (c + k) D i
    next_later i h = by (dec_lt i (at + suc k)) ∙ sym (ap (λ (M : Matrix). M i) (step_has r (at + k) (c + k) D has))
      where
        by : Dec (i < at + suc k) → pending at (suc k) c (basis r B) B i ≡ pivoted (at + k) (c + k) s D i
        by (yes l) = pending_done at (suc k) c (basis r B) B i l ∙ own_row i h ∙ lazy.done i l
        by (no f) =
            pending_later at (suc k) c (basis r B) B i (omega arith)
            ∙ fun_ext (λ t. ap (sub_t (B i t))
            (dot_right (suc k) (λ j. B i (from c j)) (λ j. basis r B j t) (λ j. grown k (from c) b (P (at + k)) j t)
            (λ j g. ap (λ (v : Vector). v t) (block_row j g))))
            ∙ ap (less_of (suc k) (from c) (grown k (from c) b (P (at + k)))) (own_row i h)
            ∙ lazy.later i (omega arith)

  -- a column that is 0 in the rows from `at` on and in the block stays so
  module _ (t : ℕ) (z : (i : ℕ) → at ≤ i → i < r → A i t ≡ t0) (y : (j : ℕ) → j < k → basis r A j t ≡ t0) where
    brought_none : (i : ℕ) → at ≤ i → i < r → brought k c b s A i t ≡ t0
    brought_none i h l = by (eqb i s)
      where
        by : (e : Bool) → cond e (less_of k (from c) b (A s) t) (A i t) ≡ t0
        by true = less_none k (from c) b (A s) t (z s (omega (arith, found.0)) found.1) y
        by false = z i h l

    moved_none : (i : ℕ) → at ≤ i → i < r → swap_rows (at + k) s (brought k c b s A) i t ≡ t0
    moved_none i h l = by (eqb i (at + k)) (eqb i s)
      where
        by : (e d : Bool) → brought k c b s A (cond e s (cond d (at + k) i)) t ≡ t0
        by true d = brought_none s (omega (arith, found.0)) found.1
        by false true = brought_none (at + k) (omega arith) (omega (arith, found.0, found.1))
        by false false = brought_none i h l

    pub next_none : (i : ℕ) → at ≤ i → i < r → B i t ≡ t0
    next_none i h l = ap (λ (v : Vector). v t) (own i l) ∙ by (eqb i (at + k))
      where
        x : Trit
        x = less_of k (from c) b (A s) (c + k)

        by : (e : Bool) → cond e (mul_t x (swap_rows (at + k) s (brought k c b s A) i t)) (swap_rows (at + k) s (brought k c b s A) i t) ≡ t0
        by true = ap (mul_t x) (moved_none i h l) ∙ mul-zero x
        by false = moved_none i h l

    pub next_block_none : (j : ℕ) → j < suc k → basis r B j t ≡ t0
    next_block_none j h = ap (λ (v : Vector). v t) (n.block refl j h) ∙ by (ℕ_discrete j k)
      where
        p : B (at + k) t ≡ t0
        p = next_none (at + k) (omega arith) (omega (arith, found.0, found.1))

        by : Dec (j ≡ k) → grown k (from c) b (B (at + k)) j t ≡ t0
        by (yes e) = rw (eq-eqb j k e) p
        by (no f) = rw (ne_eqb j k f) (ap₂ sub_t (y j (omega (arith, f))) (ap (mul_t (b j (from c k))) p ∙ mul-zero (b j (from c k))))

-- ---- a step reads the first r rows alone

module _ (r at q : ℕ) (X Y : Matrix) (e : (i : ℕ) → i < r → X i ≡ Y i) where
  first_front : (a k : ℕ) → a + k ≤ r → first_row X q a k ≡ first_row Y q a k
  unfolding first_row
  first_front a zero h = refl
  first_front a (suc k) h =
      ap₂ (λ (v : Vector) (n : ℕ). cond (is_set (v q)) a n) (e a (omega arith)) (first_front (suc a) k (omega arith))

  module _ (h : at ≤ r) where
    row_front : pivot_row r X q at ≡ pivot_row r Y q at
    row_front = first_front at (r - at) (omega arith)

    pub has_front : has_pivot r at q X ≡ has_pivot r at q Y
    unfolding has_pivot
    has_front = ap (λ (n : ℕ). ltb n r) row_front

    pub step_front : (i : ℕ) → i < r → step_of r at q X i ≡ step_of r at q Y i
    step_front i l = by (has_pivot r at q Y) refl
      where
        moved : (s : ℕ) → s < r → at < r → (i : ℕ) → i < r → swap_rows at s X i ≡ swap_rows at s Y i
        moved s g a i l = go (eqb i at) (eqb i s)
          where
            go : (b d : Bool) → X (cond b s (cond d at i)) ≡ Y (cond b s (cond d at i))
            go true d = e s g
            go false true = e at a
            go false false = e i l

        by : (b : Bool) → has_pivot r at q Y ≡ b → step_of r at q X i ≡ step_of r at q Y i
        by false f = ap (λ (M : Matrix). M i) (step_none r at q X (has_front ∙ f)) ∙ e i l ∙ sym (ap (λ (M : Matrix). M i) (step_none r at q Y f))
        by true f =
            let g = has_row r at q Y f in
            let s = pivot_row r Y q at in
            let a : at < r = omega (arith, g.0, g.1) in
            ap (λ (M : Matrix). M i) (step_has r at q X (has_front ∙ f))
            ∙ ap (λ (n : ℕ). pivoted at q n X i) row_front
            ∙ fun_ext (λ t. ap₂ (λ (x : Trit) (v : Vector × Vector). one x v t) (ap (λ (v : Vector). v q) (e s g.1))
            (ap₂ (λ (v w : Vector). (v, w)) (moved s g.1 a i l) (moved s g.1 a at a)))
            ∙ sym (ap (λ (M : Matrix). M i) (step_has r at q Y f))
          where
            one : Trit → Vector × Vector → ℕ → Trit
            one x v t =
                cond (ltb at i) (sub_t (cond (eqb i at) (mul_t x (v.0 t)) (v.0 t)) (mul_t (cond (eqb i at) (mul_t x (v.0 q)) (v.0 q))
                (cond (eqb at at) (mul_t x (v.1 t)) (v.1 t)))) (cond (eqb i at) (mul_t x (v.0 t)) (v.0 t))

-- ---- a block, pivot after pivot

pub block_none : (r at c m : ℕ) (A : Matrix) → at ≤ r → c ≤ m → Block r at c m 0 A A
unfolding steps
block_none r at c m A h l = record {
  few = omega arith;
  rows = omega arith;
  columns = omega arith;
  pivots = λ j g. absurd (omega arith);
  unit = λ j l h g. absurd (omega arith);
  later = λ i g. ap (λ (M : Matrix). M i) (pending_none at c (basis r A) A);
  rows_zero = λ t z. z;
  block_zero = λ t z j g. absurd (omega arith);
  kept = λ i g. refl;
}

-- the rows left for later have the pivots of the steps
pub block_has : {r at c m k : ℕ} {A L : Matrix} → Block r at c m k A L
    → has_pivot r (at + k) (c + k) (pending at k c (basis r L) L) ≡ has_pivot r (at + k) (c + k) (steps r at c k A)
block_has {r} {at} {c} {m} {k} {A} {L} g = has_front r (at + k) (c + k) (pending at k c (basis r L) L) (steps r at c k A) g.later g.rows

pub block_more : {r at c m k : ℕ} {A L B : Matrix} → Block r at c m k A L → k < 12 → at + k < r → c + k < m → NextPivot true r at k c L B
    → Block r at c m (suc k) A B
unfolding steps
block_more {r} {at} {c} {m} {k} {A} {L} {B} g f h l n = record {
  few = omega arith;
  rows = omega arith;
  columns = omega arith;
  pivots = λ j i. pivot j i (ℕ_discrete j k);
  unit = next_unit n g.unit;
  later = λ i j.
      next_later n g.unit i j ∙ step_front r (at + k) (c + k) (pending at k c (basis r L) L) (steps r at c k A) g.later g.rows i j;
  rows_zero = λ t z. next_none n t (g.rows_zero t z) (g.block_zero t z);
  block_zero = λ t z. next_block_none n t (g.rows_zero t z) (g.block_zero t z);
  kept = λ i j. n.kept i j ∙ g.kept i j;
}
  where
    pivot : (j : ℕ) → j < suc k → Dec (j ≡ k) → has_pivot r (at + j) (c + j) (steps r at c j A) ≡ true
    pivot j i (yes e) = rw e (sym (block_has g) ∙ sym n.answer)
    pivot j i (no e) = g.pivots j (omega (arith, e))

-- ---- a block, cleared

module _ {r at c m k : ℕ} {A M : Matrix} (g : Block r at c m k A M) where
  -- the rows below it are cleared
  pub advanced_by : {B : Matrix} → (k ≡ 0 → has_pivot r at c A ≡ false) → Cleared r k c (at + k) r M B → Advanced r at c m k A B
  advanced_by {B} n d = record {
    rows = g.rows;
    columns = g.columns;
    pivots = g.pivots;
    none = n;
    front = λ i h. row i h (dec_lt i (at + k)) ∙ g.later i h;
    kept = λ i h. d.kept i (inr (omega arith)) (inr h) ∙ g.kept i h;
  }
    where
      row : (i : ℕ) → i < r → Dec (i < at + k) → B i ≡ pending at k c (basis r M) M i
      row i h (yes l) = d.kept i (inl l) (inl h) ∙ sym (pending_done at k c (basis r M) M i l)
      row i h (no f) = d.cleared i (omega arith) h ∙ sym (pending_later at k c (basis r M) M i (omega arith))

-- there is none, and no row to clear
pub advanced_none : {r at c m k : ℕ} {A M : Matrix} → Block r at c m k A M → (k ≡ 0 → has_pivot r at c A ≡ false) → k ≡ 0 → Advanced r at c m k A M
advanced_none {r} {at} {c} {m} {k} {A} {M} g n e = record {
  rows = g.rows;
  columns = g.columns;
  pivots = g.pivots;
  none = n;
  front = λ i h. ap (λ (B : Matrix). B i) (sym same) ∙ g.later i h;
  kept = g.kept;
}
  where
    same : pending at k c (basis r M) M ≡ M
    same = rw e (pending_none at c (basis r M) M)
