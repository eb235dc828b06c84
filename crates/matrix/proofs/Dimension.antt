-- Dimension: more columns than rows are dependent; r independent columns of r rows reach everything;
-- columns that reach everything are as many as the rows, or more. Assumes nothing.
use mathlib.Core.Path.{◌≡◌, refl, sym, ap, ap₂, ◌∙◌}
use mathlib.Core.Bool.{Bool, true, false, cond}
use mathlib.Core.Logic.{◌⊎◌, inl, inr}
use Prim.Native.Nat.{ℕ, zero, suc, pred, ◌≤◌, ◌<◌}
use native.Mathlib.Omega.{arith}
use borrow.Author.Tests.{leb-true, leb-false, eqb-true, eqb-false, eq-eqb}
use lib.Dec.{eqb, leb}
use Rattle.trits.specs.Trit.{Trit, t0, t1, add_t, neg_t, sub_t, mul_t, put_v, is_set, dot_v, any_to}
use Rattle.trits.proofs.Tests.{any_some, any_none}
use Rattle.trits.proofs.Arithmetic.{add_zero_r, add_comm, mul_assoc, add_neg, mul-zero, unset_zero}
use Rattle.trits.proofs.Products.{dot_zero}
use Rattle.matrix.specs.Linear.{Vector, zeros, Matrix, column, times}
use Rattle.matrix.proofs.Field.{solved, mul_neg, square, zero_or, set_not}
use Rattle.matrix.proofs.Dots.{put_same, put_other, dot_left, dot_right, dot_zeros, dot_mul, dot_swap, dot_unit, dot_less}

-- a vector that is not 0 everywhere below m, and that the first r rows of A take to 0
pub record Dependence (r m : ℕ) (A : Matrix) : Type 0 where
  pub w : Vector
  pub place : ℕ
  pub below : place < m
  pub nonzero : is_set (w place) ≡ true
  pub vanishes : (i : ℕ) → i < r → times m A w i ≡ t0

-- a trit below r that is not 0, or none
set_below : (r : ℕ) (f : Vector) → ((i : ℕ) × (i < r) × (is_set (f i) ≡ true)) ⊎ ((i : ℕ) → i < r → f i ≡ t0)
set_below r f = by (any_to (λ i. is_set (f i)) r) refl
  where
    by : (b : Bool) → any_to (λ i. is_set (f i)) r ≡ b → ((i : ℕ) × (i < r) × (is_set (f i) ≡ true)) ⊎ ((i : ℕ) → i < r → f i ≡ t0)
    by true e = inl (any_some r (λ i. is_set (f i)) e)
    by false e = inr (λ i h. unset_zero (f i) (any_none r (λ i. is_set (f i)) e i h))

-- a vector changed past the places that are read
pub times_put : (m : ℕ) (A : Matrix) (w : Vector) (x : Trit) (i : ℕ) → times (suc m) A (put_v w m x) i ≡ add_t (times m A w i) (mul_t (A i m) x)
unfolding dot_v
times_put m A w x i = ap₂ add_t (dot_right m (A i) (put_v w m x) w (λ p h. put_other w m x p (λ z. omega arith))) (ap (mul_t (A i m)) (put_same w m x))

-- A with the multiple of row q that clears column m taken from every row, the last row standing for row q
module _ (m r q : ℕ) (A : Matrix) where
  abbrev row : ℕ → ℕ
  row i = cond (eqb i q) r i

  abbrev cleared : Matrix
  cleared i j = sub_t (A (row i) j) (mul_t (mul_t (A (row i) m) (A q m)) (A q j))

  cleared_times : (u : Vector) (i : ℕ) → times m cleared u i ≡ sub_t (times m A u (row i)) (mul_t (mul_t (A (row i) m) (A q m)) (times m A u q))
  cleared_times u i = dot_less m (mul_t (A (row i) m) (A q m)) (A (row i)) (A q) u

  -- from a vector that the cleared rows take to 0, one that the rows of A do
  lifted : Vector → Vector
  lifted u = put_v u m (neg_t (mul_t (A q m) (times m A u q)))

  lifted_pivot : (u : Vector) → is_set (A q m) ≡ true → times (suc m) A (lifted u) q ≡ t0
  unfolding lifted
  lifted_pivot u h =
      times_put m A u (neg_t (mul_t (A q m) (times m A u q))) q
      ∙ cancel (times m A u q) (A q m) (square (A q m) h)
    where
      cancel : (s x : Trit) → mul_t x x ≡ t1 → add_t s (mul_t x (neg_t (mul_t x s))) ≡ t0
      cancel s x e = rw (mul_neg, ← mul_assoc x x s, e) (add_neg s)

  lifted_row : (u : Vector) (i : ℕ) → times m cleared u i ≡ t0 → times (suc m) A (lifted u) (row i) ≡ t0
  unfolding lifted
  lifted_row u i e =
      times_put m A u (neg_t (mul_t (A q m) (times m A u q))) (row i)
      ∙ simp (mul_neg, ← mul_assoc) (sym (cleared_times u i) ∙ e)

pub dependent : (m r : ℕ) (A : Matrix) → r < m → Dependence r m A
dependent zero r A h = absurd (omega arith)
dependent (suc m) r A h = go (dependent m) (set_below r (column A m))
  where
    go : ((r : ℕ) (A : Matrix) → r < m → Dependence r m A) → ((i : ℕ) × (i < r) × (is_set (A i m) ≡ true)) ⊎ ((i : ℕ) → i < r → A i m ≡ t0)
        → Dependence r (suc m) A
    go ih (inr z) =
        record {
          w = put_v zeros m t1;
          place = m;
          below = omega arith;
          nonzero = ap is_set (put_same zeros m t1);
          vanishes = λ i k. times_put m A zeros t1 i ∙ rw (dot_zeros m (A i), z i k);
        }
    go ih (inl (q, k, a)) =
        let r' = pred r in
        let d = ih r' (cleared m r' q A) (omega arith) in
        let ne : (j : ℕ) → j < m → lifted m r' q A d.w j ≡ d.w j = unfold lifted in λ j b. put_other d.w m _ j (λ z. omega arith) in
        record {
          w = lifted m r' q A d.w;
          place = d.place;
          below = omega arith;
          nonzero = rw (ne d.place d.below) d.nonzero;
          vanishes = λ i l. cases d i l (eqb i q) refl (eqb i r') refl;
        }
      where
        cases : (d : Dependence (pred r) m (cleared m (pred r) q A)) (i : ℕ) → i < r → (t : Bool) → eqb i q ≡ t → (u : Bool) → eqb i (pred r) ≡ u
            → times (suc m) A (lifted m (pred r) q A d.w) i ≡ t0
        cases d i l true e u f = rw (eqb-true i q e) (lifted_pivot m (pred r) q A d.w a)
        cases d i l false e false f =
            let low : i < pred r = omega (arith, eqb-false i (pred r) f) in
            rw e at (lifted_row m (pred r) q A d.w i (d.vanishes i low))
        cases d i l false e true f =
            let low : q < pred r = omega (arith, eqb-false i q e, eqb-true i (pred r) f) in
            let here : times (suc m) A (lifted m (pred r) q A d.w) (row m (pred r) q A q) ≡ t0 = lifted_row m (pred r) q A d.w q (d.vanishes q low) in
            rw (eqb-true i (pred r) f) (rw (eq-eqb q q refl) at here)

-- one more column
pub times_column : (m : ℕ) (A : Matrix) (v w : Vector) (i : ℕ) → times (suc m) (λ i. put_v (A i) m (v i)) w i ≡ add_t (times m A w i) (mul_t (v i) (w m))
unfolding dot_v
times_column m A v w i =
    ap₂ add_t (dot_left m (put_v (A i) m (v i)) (A i) w (λ p h. put_other (A i) m (v i) p (λ z. omega arith)))
    (ap (λ (x : Trit). mul_t x (w m)) (put_same (A i) m (v i)))

-- only the vector of zeros is taken to 0 by the first r rows
abbrev pub Injective : ℕ → ℕ → Matrix → Type 0
Injective r m A = (w : Vector) → ((i : ℕ) → i < r → times m A w i ≡ t0) → (j : ℕ) → j < m → w j ≡ t0

abbrev pub Reaches : ℕ → ℕ → Matrix → Type 0
Reaches r m A = (v : Vector) → (w : Vector) × ((i : ℕ) → i < r → times m A w i ≡ v i)

pub injective_few : (r m : ℕ) (A : Matrix) → Injective r m A → m ≤ r
injective_few r m A a = go (leb m r) refl
  where
    go : (t : Bool) → leb m r ≡ t → m ≤ r
    go true e = leb-true m r e
    go false e =
        let d = dependent m r A (leb-false m r e) in
        absurd (set_not d.nonzero (a d.w d.vanishes d.place d.below))

pub injective_reaches : (r : ℕ) (A : Matrix) → Injective r r A → Reaches r r A
injective_reaches r A a v = go (zero_or (d.w r))
  where
    d : Dependence r (suc r) (λ i. put_v (A i) r (v i))
    d = dependent (suc r) r (λ i. put_v (A i) r (v i)) (omega arith)

    sums : (i : ℕ) → i < r → add_t (times r A d.w i) (mul_t (v i) (d.w r)) ≡ t0
    sums i h = sym (times_column r A v d.w i) ∙ d.vanishes i h

    short : (s y : Trit) → add_t s (mul_t y (d.w r)) ≡ t0 → d.w r ≡ t0 → s ≡ t0
    short s y h e = sym (add_zero_r s) ∙ sym (ap (add_t s) (ap (mul_t y) e ∙ mul-zero y)) ∙ h

    last : ((j : ℕ) → j < r → d.w j ≡ t0) → (j : ℕ) → j < suc r → d.w r ≡ t0 → (t : Bool) → eqb j r ≡ t → d.w j ≡ t0
    last low j h e true q = rw (eqb-true j r q) e
    last low j h e false q = low j (omega (arith, eqb-false j r q))

    go : (d.w r ≡ t0) ⊎ (is_set (d.w r) ≡ true) → (w : Vector) × ((i : ℕ) → i < r → times r A w i ≡ v i)
    go (inl e) =
        let low : (j : ℕ) → j < r → d.w j ≡ t0 = a d.w (λ i h. short (times r A d.w i) (v i) (sums i h) e) in
        absurd (set_not d.nonzero (last low d.place d.below e (eqb d.place r) refl))
    go (inr e) = (
      (λ j. mul_t (neg_t (d.w r)) (d.w j)),
      λ i h. dot_mul r (neg_t (d.w r)) (A i) d.w
          ∙ solved (times r A d.w i) (d.w r) (v i) (square (d.w r) e) (add_comm (mul_t (v i) (d.w r)) (times r A d.w i) ∙ sums i h),
    )

pub reaches_many : (r m : ℕ) (A : Matrix) → Reaches r m A → r ≤ m
reaches_many r m A s = go (leb r m) refl
  where
    B : Matrix
    B j i = (s (put_v zeros i t1)).0 j

    -- A takes B u to u
    back : (u : Vector) (i : ℕ) → i < r → dot_v (A i) (times r B u) m ≡ u i
    back u i h = dot_swap m r (A i) u B ∙ dot_left r (λ k. dot_v (A i) (λ j. B j k) m) (λ k. put_v zeros k t1 i) u (λ k l. (s (put_v zeros k t1)).1 i h)
        ∙ dot_unit r i u h

    go : (t : Bool) → leb r m ≡ t → r ≤ m
    go true e = leb-true r m e
    go false e =
        let d = dependent r m B (leb-false r m e) in
        absurd (set_not d.nonzero (sym (back d.w d.place d.below)
        ∙ dot_zero m (A d.place) (times r B d.w) (λ j h. ap (mul_t (A d.place j)) (d.vanishes j h) ∙ mul-zero (A d.place j))))
