-- A row less a block's rows, one after another. Assumes nothing.
use mathlib.Core.Path.{◌≡◌, sym, ap, ap₂, ◌∙◌, fun_ext}
use mathlib.Core.List.{List}
use mathlib.Core.Logic.{◌≢◌}
use Prim.Native.Nat.{ℕ, suc, ◌+◌, ◌<◌}
use native.Mathlib.Decide.{ℕ_discrete}
use native.Mathlib.Omega.{arith}
use borrow.Author.Tests.{eq-eqb, ne_eqb}
use Rattle.trits.specs.Trit.{Trit, t0, t1, add_t, sub_t, mul_t, dot_v}
use Rattle.trits.specs.Rows.{matrix_at}
use Rattle.trits.proofs.Products.{dot_zero}
use Rattle.trits.proofs.Arithmetic.{add_zero_r, mul-zero}
use Rattle.matrix.specs.Linear.{Vector, Matrix, zeros}
use Rattle.matrix.specs.Blocks.{less_of, UnitAt, basis_row, basis, from, brought}
use Rattle.matrix.proofs.Field.{law4}
use Rattle.matrix.proofs.Dots.{put_other}
use Rattle.matrix.proofs.BasisRows.{basis_past}
use Rattle.grid.specs.Steps.{Grid, clear_row}
use Rattle.grid.proofs.Cells.{grid_to}

-- ---- one row

-- one row of the block more: the others are 0 at its column
less_next : (k c j : ℕ) (b : Matrix) → UnitAt k (from c) b → j < k → (v : Vector) (t : ℕ)
    → sub_t (less_of j (from c) b v t) (mul_t (less_of j (from c) b v (c + j)) (b j t)) ≡ less_of (suc j) (from c) b v t
unfolding dot_v
less_next k c j b u h v t =
    ap (λ (x : Trit). sub_t (less_of j (from c) b v t) (mul_t x (b j t))) same
    ∙ law4 (λ a s x y. sub_t (sub_t a s) (mul_t x y)) (λ a s x y.
    sub_t a (add_t s (mul_t x y))) tt (v t) (dot_v (λ l. v (c + l)) (λ l. b l t) j) (v (c + j)) (b j t)
  where
    none : (l : ℕ) → l < j → b l (c + j) ≡ t0
    none l g = u l j (omega arith) h ∙ put_other zeros j t1 l (λ z. omega arith)

    same : less_of j (from c) b v (c + j) ≡ v (c + j)
    same =
        ap (sub_t (v (c + j))) (dot_zero j (λ l. v (c + l)) (λ l. b l (c + j)) (λ l g. ap (mul_t (v (c + l))) (none l g) ∙ mul-zero (v (c + l))))
        ∙ add_zero_r (v (c + j))

module _ (r c i : ℕ) (A : Matrix) where
  pub brought_none : A ≡ brought 0 c (basis r A) i A
  unfolding dot_v
  brought_none = fun_ext (λ s. fun_ext (λ t. by s t (ℕ_discrete s i)))
    where
      by : (s t : ℕ) → Dec (s ≡ i) → A s t ≡ brought 0 c (basis r A) i A s t
      by s t (yes e) = rw (eq-eqb s i e) (ap (λ (n : ℕ). A n t) e ∙ sym (add_zero_r (A i t)))
      by s t (no f) = rw (ne_eqb s i f)

  brought_turn : (k j : ℕ) → UnitAt k (from c) (basis r A) → j < k → i ≢ basis_row r j
      → clear_row i (basis_row r j) (c + j) (brought j c (basis r A) i A) ≡ brought (suc j) c (basis r A) i A
  brought_turn k j u h f = fun_ext (λ s. fun_ext (λ t. by s t (ℕ_discrete s i)))
    where
      by : (s t : ℕ) → Dec (s ≡ i) → clear_row i (basis_row r j) (c + j) (brought j c (basis r A) i A) s t ≡ brought (suc j) c (basis r A) i A s t
      by s t (yes e) = rw (eq-eqb s i e, ne_eqb (basis_row r j) i (λ z. f (sym z))) (less_next k c j (basis r A) u h (A i) t)
      by s t (no g) = rw (ne_eqb s i g)

  -- the block's rows are as they were
  pub bring_block : {o t : List ℕ} {rows w : ℕ} (j : ℕ) → Grid o t rows w (brought j c (basis r A) i A) → i < r → (l : ℕ)
      → matrix_at w o t (basis_row r l) ≡ A (basis_row r l)
  bring_block j g h l = ap (λ (B : Matrix). B (basis_row r l)) g.cells ∙ fun_ext (λ q. rw (ne_eqb (basis_row r l) i (λ z. omega (arith, basis_past r l))))

  module _ {o t : List ℕ} {rows w j : ℕ} (g : Grid o t rows w (brought j c (basis r A) i A)) where
    pub bring_turn : {o' t' : List ℕ} (k : ℕ) {p : ℕ} → UnitAt k (from c) (basis r A) → j < k → i < r → p ≡ basis_row r j
        → Grid o' t' rows w (clear_row i p (c + j) (matrix_at w o t)) → Grid o' t' rows w (brought (j + 1) c (basis r A) i A)
    bring_turn k {p} u h l e d =
        grid_to d
        (ap₂ (λ (n : ℕ) (B : Matrix). clear_row i n (c + j) B) e g.cells
        ∙ brought_turn k j u h (λ z. omega (arith, basis_past r j))
        ∙ ap (λ (n : ℕ). brought n c (basis r A) i A) (omega arith))
