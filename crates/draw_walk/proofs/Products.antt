-- Rows that take a product at one column more, one after another. Assumes nothing.
use mathlib.Core.Path.{◌≡◌, sym, ap, ap₂, ◌∙◌, fun_ext}
use mathlib.Core.List.{List}
use Prim.Native.Nat.{ℕ, ◌+◌, ◌*◌, ◌<◌}
use native.Mathlib.Decide.{dec_lt, ℕ_discrete}
use native.Mathlib.Omega.{arith}
use borrow.Author.Tests.{eq-eqb, ne_eqb, lt-ltb, le-ltb}
use Rattle.trits.specs.Trit.{Trit, number, trit_of, put_v, dot_v}
use Rattle.trits.specs.Rows.{matrix_at}
use Rattle.matrix.specs.Linear.{Vector, Matrix, times}
use Rattle.grid.specs.Steps.{Rows, Grid, put_row}
use Rattle.grid.proofs.Cells.{grid_to}
use Rattle.grid.proofs.RowParts.{read_trit}
use Rattle.draw_walk.specs.Walks.{over, with_products}
use Rattle.draw_walk.proofs.Walked.{over_rest}

-- no row yet
over_none : (C A : Matrix) → A ≡ over 0 C A
over_none C A = fun_ext (λ i. sym (over_rest 0 C A i (omega arith)))

-- one row more
over_more : (i : ℕ) (C A : Matrix) → put_row i (C i) (over i C A) ≡ over (i + 1) C A
over_more i C A = fun_ext (λ k. fun_ext (λ q. by k q (ℕ_discrete k i) (dec_lt k i)))
  where
    by : (k q : ℕ) → Dec (k ≡ i) → Dec (k < i) → put_row i (C i) (over i C A) k q ≡ over (i + 1) C A k q
    by k q (yes e) l = rw (eq-eqb k i e, lt-ltb k (i + 1) (omega arith)) (ap (λ (j : ℕ). C j q) (sym e))
    by k q (no f) (yes l) = rw (ne_eqb k i f, lt-ltb k i l, lt-ltb k (i + 1) (omega arith))
    by k q (no f) (no l) = rw (ne_eqb k i f, le-ltb k i (omega arith), le-ltb k (i + 1) (omega (arith, f)))

module _ {rows w : ℕ} (H A : Matrix) (m e : ℕ) where
  pub products_none : {o t : List ℕ} → Rows o t rows w → matrix_at w o t ≡ A → Grid o t rows w (with_products 0 m (64 * w) H (A e) A)
  products_none g d = record { rows = g; cells = d ∙ over_none (λ i. put_v (A i) m (times (64 * w) H (A e) i)) A }

  -- row i takes its product
  pub products_turn : {os ts o t : List ℕ} {i x : ℕ} → i < e → Grid os ts rows w (with_products i m (64 * w) H (A e) A)
      → x ≡ number (dot_v (H i) (matrix_at w os ts e) (64 * w))
      → Grid o t rows w (put_row i (put_v (matrix_at w os ts i) m (trit_of x)) (matrix_at w os ts)) →
      Grid o t rows w (with_products (i + 1) m (64 * w) H (A e) A)
  products_turn {os} {ts} {i = i} {x = x} l k d g =
      let C : Matrix = λ i. put_v (A i) m (times (64 * w) H (A e) i) in
      let row_e : matrix_at w os ts e ≡ A e = ap (λ (B : Matrix). B e) k.cells ∙ over_rest i C A e (omega arith) in
      let row_i : matrix_at w os ts i ≡ A i = ap (λ (B : Matrix). B i) k.cells ∙ over_rest i C A i (omega arith) in
      grid_to g
      (ap₂ (λ (v : Vector) (y : Trit). put_row i (put_v v m y) (matrix_at w os ts)) row_i
      (read_trit (dot_v (H i) (matrix_at w os ts e) (64 * w)) x d ∙ ap (λ (v : Vector). dot_v (H i) v (64 * w)) row_e)
      ∙ ap (put_row i (C i)) k.cells ∙ over_more i C A)
