-- A stretch of the last pass, from the last column on: its rows become the identity at its columns, and the rows above are cleared by them at once.
-- Assumes nothing.
use mathlib.Core.Path.{◌≡◌, refl, sym, ap, ap₂, ◌∙◌, fun_ext}
use Prim.Native.Nat.{ℕ, zero, suc, ◌+◌, ◌≤◌, ◌<◌}
use native.Mathlib.Decide.{ℕ_discrete}
use native.Mathlib.Omega.{arith}
use borrow.Author.Tests.{lt-ltb, le-ltb}
use Rattle.trits.specs.Trit.{Trit, t0, t1, add_t, sub_t, mul_t, put_v, dot_v}
use Rattle.trits.proofs.Products.{dot_zero}
use Rattle.trits.proofs.Arithmetic.{add_zero_r, mul-zero}
use Rattle.matrix.specs.Linear.{Vector, Matrix, zeros}
use Rattle.matrix.specs.Steps.{take_above}
use Rattle.matrix.specs.Blocks.{less_of, UnitAt, from}
use Rattle.matrix.proofs.Field.{law4}
use Rattle.matrix.proofs.Dots.{dot_first, put_same, put_other}
use Rattle.matrix.proofs.Less.{less_zero}
use Rattle.raising.specs.Steps.{risen, Triangular}

-- the rows from s on
abbrev pub rows_from : ℕ → Matrix → Matrix
rows_from s D l = D (s + l)

-- D is A after m columns from s on: their rows are the identity at them and 0 before, the rows above are cleared by them, those past them stay
pub record Stretch (m s : ℕ) (A D : Matrix) : Type 0 where
  pub unit : UnitAt m (from s) (rows_from s D)
  pub left : (l t : ℕ) → l < m → t < s → D (s + l) t ≡ t0
  pub less : (i : ℕ) → i < s → D i ≡ less_of m (from s) (rows_from s D) (A i)
  pub rest : (i : ℕ) → s + m ≤ i → D i ≡ A i

-- before the stretch's columns the rows above are as they were
pub stretch_left : {m s : ℕ} {A D : Matrix} → Stretch m s A D → (i t : ℕ) → i < s → t < s → D i t ≡ A i t
stretch_left {m} {s} {A} {D} g i t h l =
    ap (λ (v : Vector). v t) (g.less i h)
    ∙ ap (sub_t (A i t)) (dot_zero m (λ j. A i (s + j)) (λ j. D (s + j) t) (λ j n. ap (mul_t (A i (s + j))) (g.left j t n l) ∙ mul-zero (A i (s + j))))
    ∙ add_zero_r (A i t)

stretch_none : (s : ℕ) (A : Matrix) → Stretch 0 s A A
unfolding dot_v
stretch_none s A = record {
  unit = λ j l h g. absurd (omega arith);
  left = λ l t h g. absurd (omega arith);
  less = λ i h. fun_ext (λ t. sym (add_zero_r (A i t)));
  rest = λ i h. refl;
}

-- one column more: that of row s
module _ (m s : ℕ) (A D : Matrix) (g : Stretch m (suc s) A D) (one : A s s ≡ t1) (none : (c : ℕ) → c < s → A s c ≡ t0) where
  abbrev next : Matrix
  next = take_above s s D

  -- the rows from s on stay
  next_rest : (i : ℕ) → s ≤ i → next i ≡ D i
  next_rest i h = fun_ext (λ t. rw (le-ltb i s h))

  next_less : (i t : ℕ) → i < s → next i t ≡ sub_t (D i t) (mul_t (D i s) (D s t))
  next_less i t h = rw (lt-ltb i s h)

  -- the first row of the stretch, and those after it
  here : (t : ℕ) → next (s + 0) t ≡ D s t
  here t = ap (λ (v : Vector). v t) (next_rest (s + 0) (omega arith)) ∙ ap (λ (n : ℕ). D n t) (omega arith)

  after : (l t : ℕ) → next (s + suc l) t ≡ D (suc s + l) t
  after l t = ap (λ (v : Vector). v t) (next_rest (s + suc l) (omega arith)) ∙ ap (λ (n : ℕ). D n t) (omega arith)

  -- row s itself
  own_one : D s s ≡ t1
  own_one = stretch_left g s s (omega arith) (omega arith) ∙ one

  own_left : (t : ℕ) → t < s → D s t ≡ t0
  own_left t h = stretch_left g s t (omega arith) (omega arith) ∙ none t h

  own_unit : (l : ℕ) → l < m → D s (suc s + l) ≡ t0
  own_unit l h = ap (λ (v : Vector). v (suc s + l)) (g.less s (omega arith)) ∙ less_zero m (from (suc s)) (rows_from (suc s) D) g.unit (A s) l h

  unit' : (j l : ℕ) → j < suc m → l < suc m → next (s + j) (s + l) ≡ put_v zeros l t1 j
  unit' zero zero h k = here (s + 0) ∙ ap (D s) (omega arith) ∙ own_one ∙ sym (put_same zeros 0 t1)
  unit' zero (suc l) h k =
      here (s + suc l) ∙ ap (D s) (omega arith) ∙ own_unit l (omega arith) ∙ sym (put_other zeros (suc l) t1 0 (λ z. omega arith))
  unit' (suc j) zero h k =
      after j (s + 0) ∙ g.left j (s + 0) (omega arith) (omega arith) ∙ sym (put_other zeros 0 t1 (suc j) (λ z. omega arith))
  unit' (suc j) (suc l) h k =
      after j (s + suc l) ∙ ap (D (suc s + j)) (omega arith) ∙ g.unit j l (omega arith) (omega arith) ∙ shifted j l (ℕ_discrete j l)
    where
      shifted : (j l : ℕ) → Dec (j ≡ l) → put_v zeros l t1 j ≡ put_v zeros (suc l) t1 (suc j)
      shifted j l (yes e) = rw e (put_same zeros l t1 ∙ sym (put_same zeros (suc l) t1))
      shifted j l (no f) = put_other zeros l t1 j f ∙ sym (put_other zeros (suc l) t1 (suc j) (λ z. f (omega arith)))

  left' : (l t : ℕ) → l < suc m → t < s → next (s + l) t ≡ t0
  left' zero t h k = here t ∙ own_left t k
  left' (suc l) t h k = after l t ∙ g.left l t (omega arith) (omega arith)

  less' : (i t : ℕ) → i < s → next i t ≡ less_of (suc m) (from s) (rows_from s next) (A i) t
  less' i t h =
      next_less i t h
      ∙ ap₂ (λ (x y : Trit). sub_t x (mul_t y (D s t))) (ap (λ (v : Vector). v t) (g.less i (omega arith))) (stretch_left g i s (omega arith) (omega arith))
      ∙ law4 (λ a x y d. sub_t (sub_t a d) (mul_t x y)) (λ a x y d. sub_t a (add_t (mul_t x y) d)) tt (A i t) (A i s) (D s t)
      (dot_v (λ l. A i (suc s + l)) (λ l. D (suc s + l) t) m)
      ∙ ap (sub_t (A i t)) (sym sums)
    where
      sums : dot_v (λ l. A i (s + l)) (λ l. next (s + l) t) (suc m)
          ≡ add_t (mul_t (A i s) (D s t)) (dot_v (λ l. A i (suc s + l)) (λ l. D (suc s + l) t) m)
      sums =
          dot_first m (λ l. A i (s + l)) (λ l. next (s + l) t)
          ∙ ap₂ add_t (ap₂ mul_t (ap (A i) (omega arith)) (here t))
          (ap₂ (λ (u v : Vector). dot_v u v m) (fun_ext (λ l. ap (A i) (omega arith))) (fun_ext (λ l. after l t)))

  stretch_more : Stretch (suc m) s A next
  stretch_more = record {
    unit = unit';
    left = left';
    less = λ i h. fun_ext (λ t. less' i t h);
    rest = λ i h. next_rest i (omega arith) ∙ g.rest i (omega arith);
  }

pub stretch_of : (m s : ℕ) (A : Matrix) → Triangular (s + m) A → Stretch m s A (risen m s A)
unfolding risen
stretch_of zero s A d = stretch_none s A
stretch_of (suc m) s A d =
    stretch_more m s A (risen m (suc s) A)
    (stretch_of m (suc s) A (record { one = λ c h. d.one c (omega arith); none = λ c i h l. d.none c i h (omega arith) }))
    (d.one s (omega arith)) (λ c h. d.none c s h (omega arith))
