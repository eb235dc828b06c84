-- A block of pivots: the rows below are left for later, and stand for what the steps would have made of them (`less_of`). Assumes nothing.
use mathlib.Core.Path.{◌≡◌, refl, sym, ap, ap₂, ◌∙◌, fun_ext}
use mathlib.Core.Bool.{Bool, true, false, cond}
use Prim.Native.Nat.{ℕ, suc, ◌+◌, ◌≤◌, ◌<◌}
use native.Mathlib.Omega.{arith}
use native.Mathlib.Decide.{ℕ_discrete}
use borrow.Author.Tests.{eq-eqb, ne_eqb, lt-ltb, le-ltb}
use lib.Dec.{eqb}
use Rattle.trits.specs.Trit.{sub_t, mul_t, is_set}
use Rattle.trits.proofs.Arithmetic.{mul-zero}
use Rattle.matrix.specs.Linear.{Vector, Matrix}
use Rattle.matrix.specs.Steps.{swap_rows, scale_row, pivoted}
use Rattle.matrix.specs.Blocks.{less_of, grown, UnitAt}
use Rattle.matrix.proofs.Field.{square}
use Rattle.matrix.proofs.Less.{less_more, less_zero, less_twice, unit_more}

-- ---- the relation

-- L stands for D: k pivots of a block that begins at row `at` are behind, at the columns q 0, q 1, .., with the rows b
pub record Lazy (at : ℕ) (q : ℕ → ℕ) (k : ℕ) (b L D : Matrix) : Type 0 where
  pub done : (i : ℕ) → i < at + k → L i ≡ D i
  pub later : (i : ℕ) → at + k ≤ i → less_of k q b (L i) ≡ D i
  pub unit : UnitAt k q b

-- ---- the trit that a search reads

pub lazy_trit : (at : ℕ) (q : ℕ → ℕ) (k : ℕ) (b L D : Matrix) → Lazy at q k b L D → (i p : ℕ) → at + k ≤ i → less_of k q b (L i) p ≡ D i p
lazy_trit at q k b L D z i p h = ap (λ (v : Vector). v p) (z.later i h)

-- ---- the next pivot: row s of L is brought up to date, comes to at + k and is scaled

module _ (at : ℕ) (q : ℕ → ℕ) (k : ℕ) (b L D : Matrix) (z : Lazy at q k b L D) (s : ℕ) (hs : at + k ≤ s) (e : is_set (D s (q k)) ≡ true) where
  -- row s is brought up to date
  abbrev pub brought : Matrix
  brought i t = cond (eqb i s) (less_of k q b (L s) t) (L i t)

  abbrev pub moved : Matrix
  moved = scale_row (at + k) (D s (q k)) (swap_rows (at + k) s brought)

  -- the pivot's row
  abbrev pivot : Vector
  pivot t = mul_t (D s (q k)) (D s t)

  brought_done : (i : ℕ) → i < at + k → brought i ≡ D i
  brought_done i h = fun_ext (λ t. rw (ne_eqb i s (λ y. omega arith)) (ap (λ (v : Vector). v t) (z.done i h)))

  brought_here : brought s ≡ D s
  brought_here = fun_ext (λ t. rw (eq-eqb s s refl) (ap (λ (v : Vector). v t) (z.later s hs)))

  brought_later : (i : ℕ) → at + k ≤ i → less_of k q b (brought i) ≡ D i
  brought_later i h = by (ℕ_discrete i s)
    where
      by : Dec (i ≡ s) → less_of k q b (brought i) ≡ D i
      by (yes y) =
          rw y
          (ap (less_of k q b) (brought_here ∙ sym (z.later s hs)) ∙ fun_ext (less_twice k q b z.unit (L s)) ∙ z.later s hs)
      by (no f) = let same : brought i ≡ L i = fun_ext (λ t. rw (ne_eqb i s f)) in ap (less_of k q b) same ∙ z.later i h

  moved_pivot : moved (at + k) ≡ pivot
  moved_pivot = fun_ext (λ t. rw (eq-eqb (at + k) (at + k) refl) (ap (λ (v : Vector). mul_t (D s (q k)) (v t)) brought_here))

  -- a row below is a row that was from at + k on
  abbrev from : ℕ → ℕ
  from i = cond (eqb i s) (at + k) i

  from_high : (i : ℕ) → at + k < i → at + k ≤ from i
  from_high i h = by (eqb i s)
    where
      by : (t : Bool) → at + k ≤ cond t (at + k) i
      by true = omega arith
      by false = omega arith

  moved_below : (i : ℕ) → at + k < i → (A : Matrix) → scale_row (at + k) (D s (q k)) (swap_rows (at + k) s A) i ≡ A (from i)
  moved_below i h A = fun_ext (λ t. rw (ne_eqb i (at + k) (λ y. omega arith)))

  moved_above : (i : ℕ) → i < at + k → (A : Matrix) → scale_row (at + k) (D s (q k)) (swap_rows (at + k) s A) i ≡ A i
  moved_above i h A = fun_ext (λ t. rw (ne_eqb i (at + k) (λ y. omega arith), ne_eqb i s (λ y. omega arith)))

  pub lazy_pivot : Lazy at q (suc k) (grown k q b (moved (at + k))) moved (pivoted (at + k) (q k) s D)
  lazy_pivot = record { done = λ i h. done' i h (ℕ_discrete i (at + k)); later = λ i h. fun_ext (λ t. later' i (omega arith) t); unit = unit' }
    where
      S : Matrix
      S = scale_row (at + k) (D s (q k)) (swap_rows (at + k) s D)

      own : S (at + k) ≡ pivot
      own = fun_ext (λ t. rw (eq-eqb (at + k) (at + k) refl))

      done' : (i : ℕ) → i < at + suc k → Dec (i ≡ at + k) → moved i ≡ pivoted (at + k) (q k) s D i
      done' i h (yes y) = rw y (moved_pivot ∙ sym own ∙ fun_ext (λ t. sym (rw (le-ltb (at + k) (at + k) (omega arith)))))
      done' i h (no f) =
          let l : i < at + k = omega (arith, f) in
          moved_above i l brought ∙ brought_done i l ∙ sym (moved_above i l D) ∙ fun_ext (λ t. sym (rw (le-ltb (at + k) i (omega arith))))

      later' : (i : ℕ) → at + k < i → (t : ℕ) → less_of (suc k) q (grown k q b (moved (at + k))) (moved i) t ≡ pivoted (at + k) (q k) s D i t
      later' i h t =
          let r : less_of k q b (moved i) ≡ S i =
          ap (less_of k q b) (moved_below i h brought) ∙ brought_later (from i) (from_high i h) ∙ sym (moved_below i h D) in
          less_more k q b (moved (at + k)) (moved i) t
          ∙ ap₂ (λ (v p : Vector). sub_t (v t) (mul_t (v (q k)) (p t))) r (moved_pivot ∙ sym own)
          ∙ sym (rw (lt-ltb (at + k) i h))

      unit' : UnitAt (suc k) q (grown k q b (moved (at + k)))
      unit' =
          unit_more k q b z.unit (moved (at + k))
          (ap (λ (v : Vector). v (q k)) moved_pivot ∙ square (D s (q k)) e)
          (λ l h. ap (λ (v : Vector). v (q l)) moved_pivot
          ∙ ap (mul_t (D s (q k))) (sym (lazy_trit at q k b L D z s (q l) hs) ∙ less_zero k q b z.unit (L s) l h) ∙ mul-zero (D s (q k)))
