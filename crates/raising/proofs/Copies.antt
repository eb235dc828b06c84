-- Rows copied to a block, one after another. Assumes nothing.
use mathlib.Core.Path.{◌≡◌, refl, sym, ap, ◌∙◌, fun_ext}
use mathlib.Core.Logic.{◌⊎◌, inl, inr, ◌≢◌}
use mathlib.Core.List.{List}
use Prim.Native.Nat.{ℕ, ◌+◌, ◌*◌, ◌≤◌, ◌<◌}
use native.Mathlib.Decide.{ℕ_discrete, dec_lt}
use native.Mathlib.Omega.{arith}
use borrow.Author.Tests.{eq-eqb, ne_eqb}
use Rattle.trits.specs.Trit.{t0}
use Rattle.trits.specs.Rows.{matrix_at}
use Rattle.matrix.specs.Linear.{Vector, Matrix, zeros}
use Rattle.matrix.specs.Blocks.{basis_row}
use Rattle.grid.specs.Steps.{Grid, put_row, within}
use Rattle.grid.proofs.Words.{within_in, within_out}
use Rattle.matrix.proofs.BasisRows.{basis_past, basis_in, basis_less}
use Rattle.raising.specs.Steps.{Copied}

-- one row more: it is made 0, and its words from f on are copied
module _ {o t : List ℕ} {rows w f r j c : ℕ} {A B Z : Matrix} {p : ℕ} (past : (i q : ℕ) → 64 * w ≤ q → A i q ≡ t0) (g : Copied f r j c A B) (few : j < 12)
    (h : c + j < r) (e : p ≡ basis_row r j) (z : Z ≡ put_row p zeros B) (d : Grid o t rows w (put_row p (within f w (Z (c + j)) (Z p)) Z)) where
  zero_row : (q : ℕ) → Z p q ≡ t0
  zero_row q = ap (λ (C : Matrix). C p q) z ∙ rw (eq-eqb p p refl)

  zero_other : (i : ℕ) → i ≢ p → Z i ≡ B i
  zero_other i k = ap (λ (C : Matrix). C i) z ∙ fun_ext (λ q. rw (ne_eqb i p k))

  here : (q : ℕ) → matrix_at w o t p q ≡ within f w (Z (c + j)) (Z p) q
  here q = ap (λ (C : Matrix). C p q) d.cells ∙ rw (eq-eqb p p refl)

  other : (i : ℕ) → i ≢ p → matrix_at w o t i ≡ B i
  other i k = ap (λ (C : Matrix). C i) d.cells ∙ fun_ext (λ q. rw (ne_eqb i p k)) ∙ zero_other i k

  outside : (i : ℕ) → (i < r) ⊎ (r + 243 ≤ i) → i ≢ p
  outside i (inl k) s = omega (arith, basis_past r j)
  outside i (inr k) s = omega (arith, basis_in r j few)

  copied : (q : ℕ) → 64 * f ≤ q → Dec (q < 64 * w) → matrix_at w o t p q ≡ A (c + j) q
  copied q k (yes l) =
      here q ∙ within_in f w (Z (c + j)) (Z p) q (k, l)
      ∙ ap (λ (v : Vector). v q) (zero_other (c + j) (outside (c + j) (inl h)) ∙ g.kept (c + j) (inl h))
  copied q k (no l) = here q ∙ within_out f w (Z (c + j)) (Z p) q (inr (omega arith)) ∙ zero_row q ∙ sym (past (c + j) q (omega arith))

  empty : (q : ℕ) → q < 64 * f → matrix_at w o t p q ≡ t0
  empty q k = here q ∙ within_out f w (Z (c + j)) (Z p) q (inl k) ∙ zero_row q

  -- the rows of the block before it
  earlier : (l : ℕ) → l < j → matrix_at w o t (basis_row r l) ≡ B (basis_row r l)
  earlier l k = other (basis_row r l) (λ s. omega (arith, basis_less r l j k, s ∙ e))

  pub copied_turn : Copied f r (j + 1) c A (matrix_at w o t)
  copied_turn = record {
    block = λ l q k m. placed l q k m (ℕ_discrete l j);
    before = λ l q k m. cleared l q k m (ℕ_discrete l j);
    kept = λ i k. other i (outside i k) ∙ g.kept i k;
  }
    where
      placed : (l q : ℕ) → l < j + 1 → 64 * f ≤ q → Dec (l ≡ j) → matrix_at w o t (basis_row r l) q ≡ A (c + l) q
      placed l q k m (yes s) = rw s (ap (λ (i : ℕ). matrix_at w o t i q) (sym e) ∙ copied q m (dec_lt q (64 * w)))
      placed l q k m (no s) = ap (λ (v : Vector). v q) (earlier l (omega (arith, s))) ∙ g.block l q (omega (arith, s)) m

      cleared : (l q : ℕ) → l < j + 1 → q < 64 * f → Dec (l ≡ j) → matrix_at w o t (basis_row r l) q ≡ t0
      cleared l q k m (yes s) = rw s (ap (λ (i : ℕ). matrix_at w o t i q) (sym e) ∙ empty q m)
      cleared l q k m (no s) = ap (λ (v : Vector). v q) (earlier l (omega (arith, s))) ∙ g.before l q (omega (arith, s)) m
