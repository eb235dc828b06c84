-- Row operations leave what the rows span, and rows of the same span take the same vectors alike. Assumes nothing.
use mathlib.Core.Path.{◌≡◌, refl, sym, ap, ap₂, ◌∙◌, subst}
use mathlib.Core.Bool.{Bool, true, false, cond}
use mathlib.Core.Logic.{◌↔◌}
use Prim.Native.Nat.{ℕ, zero, suc, ◌≤◌, ◌<◌}
use native.Mathlib.Omega.{arith}
use borrow.Author.Tests.{eq-eqb, eqb-true, le-ltb}
use lib.Dec.{eqb, ltb}
use Rattle.trits.specs.Trit.{Trit, t0, t1, add_t, neg_t, sub_t, mul_t, put_v, is_set, dot_v}
use Rattle.trits.proofs.Arithmetic.{add_zero_r, mul_assoc}
use Rattle.trits.proofs.Products.{dot_zero}
use Rattle.matrix.specs.Linear.{Vector, zeros, Matrix, column, times}
use Rattle.matrix.specs.Passes.{Combines, SameSpan}
use Rattle.matrix.specs.Steps.{swap_rows, scale_row, take_below, take_above}
use Rattle.matrix.proofs.Field.{square, sub_add, neg_mul}
use Rattle.matrix.proofs.Dots.{dot_comm, dot_left, dot_right, dot_add, dot_mul, dot_swap, dot_unit}

-- ---- combinations

module _ (r n : ℕ) (A : Matrix) where
  -- each row by itself
  pub combine_row : (i : ℕ) → i < r → Combines r n A (A i)
  combine_row i h = ((λ j. put_v zeros j t1 i), λ q l. dot_unit r i (column A q) h)

  -- a multiple of a combination
  combine_mul : (v : Vector) (a : Trit) → Combines r n A v → Combines r n A (λ q. mul_t a (v q))
  combine_mul v a (y, g) = (
    (λ j. mul_t a (y j)),
    λ q l. dot_comm r (λ j. mul_t a (y j)) (column A q) ∙ dot_mul r a (column A q) y ∙ ap (mul_t a) (dot_comm r (column A q) y ∙ g q l),
  )

  -- one combination and a multiple of another
  combine_add : (u v : Vector) (a : Trit) → Combines r n A u → Combines r n A v → Combines r n A (λ q. add_t (u q) (mul_t a (v q)))
  unfolding combine_mul
  combine_add u v a (x, f) (y, g) = (
    (λ j. add_t (x j) (mul_t a (y j))),
    λ q l. dot_comm r (λ j. add_t (x j) (mul_t a (y j))) (column A q)
        ∙ dot_add r (column A q) x (λ j. mul_t a (y j))
        ∙ ap₂ add_t (dot_comm r (column A q) x ∙ f q l)
        (dot_comm r (column A q) (λ j. mul_t a (y j)) ∙ (combine_mul v a (y, g)).1 q l),
  )

  combine_cong : (u v : Vector) → ((q : ℕ) → u q ≡ v q) → Combines r n A u → Combines r n A v
  combine_cong u v e (x, f) = (x, λ q l. f q l ∙ e q)

  -- a combination of combinations
  combine_twice : (B : Matrix) (v : Vector) → ((i : ℕ) → i < r → Combines r n A (B i)) → Combines r n B v → Combines r n A v
  unfolding dot_v
  combine_twice B v c (x, f) = let s = upto r (omega arith) in (s.0, λ q l. s.1 q l ∙ f q l)
    where
      upto : (m : ℕ) → m ≤ r → Combines r n A (λ q. dot_v x (column B q) m)
      upto zero h = (zeros, λ q l. dot_zero r zeros (column A q) (λ i k. refl))
      upto (suc m) h = combine_add (λ q. dot_v x (column B q) m) (B m) (x m) (upto m (omega arith)) (c m h)

-- ---- the span

pub span_refl : (r n : ℕ) (A : Matrix) → SameSpan r n A A
span_refl r n A = record { forth = λ i h. combine_row r n A i (omega arith); back = λ i h. combine_row r n A i (omega arith) }

pub span_trans : (r n : ℕ) (A B C : Matrix) → SameSpan r n A B → SameSpan r n B C → SameSpan r n A C
span_trans r n A B C f g = record {
  forth = λ i h. combine_twice r n A B (C i) f.forth (g.forth i h);
  back = λ i h. combine_twice r n C B (A i) g.back (f.back i h);
}

-- ---- the row operations

module _ (a b : ℕ) where
  -- the row that stands at i when rows a and b have changed places
  abbrev other : ℕ → ℕ
  other i = cond (eqb i a) b (cond (eqb i b) a i)

  other_other : (i : ℕ) → other (other i) ≡ i
  other_other i = go (eqb i a) refl (eqb i b) refl
    where
      go : (s : Bool) → eqb i a ≡ s → (t : Bool) → eqb i b ≡ t → other (other i) ≡ i
      go true e t f = rw e (at (eqb b a) refl)
        where
          at : (u : Bool) → eqb b a ≡ u → cond (eqb b a) b (cond (eqb b b) a b) ≡ i
          at true g = rw g (eqb-true b a g ∙ sym (eqb-true i a e))
          at false g = rw (g, eq-eqb b b refl) (sym (eqb-true i a e))
      go false e true f = rw (e, f, eq-eqb a a refl) (sym (eqb-true i b f))
      go false e false f = rw (e, f, e, f)

  other_below : (r i : ℕ) → a < r → b < r → i < r → other i < r
  other_below r i ha hb h = go (eqb i a) (eqb i b)
    where
      go : (s t : Bool) → cond s b (cond t a i) < r
      go true t = hb
      go false true = ha
      go false false = h

  pub span_swap : (r n : ℕ) (A : Matrix) → a < r → b < r → SameSpan r n A (swap_rows a b A)
  span_swap r n A ha hb = record {
    forth = λ i h. combine_row r n A (other i) (other_below r i ha hb h);
    back = λ i h.
        subst (λ (k : ℕ). Combines r n (swap_rows a b A) (A k)) (other_other i)
        (combine_row r n (swap_rows a b A) (other i) (other_below r i ha hb h));
  }

-- row j is multiplied with a trit that is not 0
pub span_scale : (r n j : ℕ) (x : Trit) (A : Matrix) → is_set x ≡ true → SameSpan r n A (scale_row j x A)
span_scale r n j x A z = record { forth = λ i h. forth' i h (eqb i j) refl; back = λ i h. back' i h (eqb i j) refl }
  where
    forth' : (i : ℕ) → i < r → (t : Bool) → eqb i j ≡ t → Combines r n A (scale_row j x A i)
    forth' i h true e = combine_cong r n A (λ q. mul_t x (A i q)) (scale_row j x A i) (λ q. rw e) (combine_mul r n A (A i) x (combine_row r n A i h))
    forth' i h false e = combine_cong r n A (A i) (scale_row j x A i) (λ q. rw e) (combine_row r n A i h)

    back' : (i : ℕ) → i < r → (t : Bool) → eqb i j ≡ t → Combines r n (scale_row j x A) (A i)
    back' i h true e =
        combine_cong r n (scale_row j x A) (λ q. mul_t x (scale_row j x A i q)) (A i)
        (λ q. rw e (sym (mul_assoc x x (A i q)) ∙ ap (λ (y : Trit). mul_t y (A i q)) (square x z)))
        (combine_mul r n (scale_row j x A) (scale_row j x A i) x (combine_row r n (scale_row j x A) i h))
    back' i h false e = combine_cong r n (scale_row j x A) (scale_row j x A i) (A i) (λ q. rw e) (combine_row r n (scale_row j x A) i h)

-- row j is taken from each row i as often as f i says, and from itself not at all
module _ (r n j : ℕ) (A B : Matrix) (f : Vector) (h : j < r) (own : f j ≡ t0) (each : (i q : ℕ) → B i q ≡ sub_t (A i q) (mul_t (f i) (A j q))) where
  span_less : SameSpan r n A B
  span_less = record {
    forth = λ i l.
        combine_cong r n A (λ q. add_t (A i q) (mul_t (neg_t (f i)) (A j q))) (B i)
        (λ q. ap (add_t (A i q)) (neg_mul (f i) (A j q)) ∙ sym (each i q))
        (combine_add r n A (A i) (A j) (neg_t (f i)) (combine_row r n A i l) (combine_row r n A j h));
    back = λ i l.
        combine_cong r n B (λ q. add_t (B i q) (mul_t (f i) (B j q))) (A i)
        (λ q. ap₂ (λ (x y : Trit). add_t x (mul_t (f i) y)) (each i q) (stays q) ∙ sub_add (A i q) (mul_t (f i) (A j q)))
        (combine_add r n B (B i) (B j) (f i) (combine_row r n B i l) (combine_row r n B j h));
  }
    where
      stays : (q : ℕ) → B j q ≡ A j q
      stays q = each j q ∙ ap (λ (x : Trit). sub_t (A j q) (mul_t x (A j q))) own ∙ add_zero_r (A j q)

module _ (r n j q : ℕ) (A : Matrix) (h : j < r) where
  -- as often as a test says
  often : (ℕ → Bool) → Vector
  often test i = cond (test i) (A i q) t0

  often_each : (test : ℕ → Bool) (i t : ℕ) → cond (test i) (sub_t (A i t) (mul_t (A i q) (A j t))) (A i t) ≡ sub_t (A i t) (mul_t (often test i) (A j t))
  unfolding often
  often_each test i t = by (test i)
    where
      by : (b : Bool) → cond b (sub_t (A i t) (mul_t (A i q) (A j t))) (A i t) ≡ sub_t (A i t) (mul_t (cond b (A i q) t0) (A j t))
      by true = refl
      by false = sym (add_zero_r (A i t))

  pub span_below : SameSpan r n A (take_below j q A)
  unfolding often
  span_below = span_less r n j A (take_below j q A) (often (λ i. ltb j i)) h (rw (le-ltb j j (omega arith))) (often_each (λ i. ltb j i))

  pub span_above : SameSpan r n A (take_above j q A)
  unfolding often
  span_above = span_less r n j A (take_above j q A) (often (λ i. ltb i j)) h (rw (le-ltb j j (omega arith))) (often_each (λ i. ltb i j))

-- ---- rows of the same span take the same vectors alike

abbrev pub Same : ℕ → ℕ → Matrix → Vector → Vector → Type 0
Same r n H u v = (i : ℕ) → i < r → times n H u i ≡ times n H v i

abbrev pub Alike : ℕ → ℕ → Matrix → Matrix → Type 0
Alike r n H A = (u v : Vector) → Same r n H u v ↔ Same r n A u v

pub span_alike : (r n : ℕ) (H A : Matrix) → SameSpan r n H A → Alike r n H A
span_alike r n H A s u v = (over H A s.forth, over A H s.back)
  where
    -- a combination of rows is multiplied as its rows are
    value : (H : Matrix) (x w f : Vector) → ((q : ℕ) → q < n → dot_v x (column H q) r ≡ w q) → dot_v w f n ≡ dot_v x (times n H f) r
    value H x w f e = dot_left n w (λ q. dot_v x (column H q) r) f (λ q l. sym (e q l)) ∙ sym (dot_swap r n x f H)

    over : (H A : Matrix) → ((i : ℕ) → i < r → Combines r n H (A i)) → Same r n H u v → Same r n A u v
    over H A c same i l =
        value H (c i l).0 (A i) u (c i l).1
        ∙ dot_right r (c i l).0 (times n H u) (times n H v) same
        ∙ sym (value H (c i l).0 (A i) v (c i l).1)
