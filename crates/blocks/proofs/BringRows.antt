-- Rows cleared by a block's rows, one after another. Assumes nothing.
use mathlib.Core.Path.{◌≡◌, refl, sym, ap, ap₂, ◌∙◌, subst, fun_ext}
use mathlib.Core.Logic.{◌⊎◌, inl, inr, ◌≢◌}
use mathlib.Core.List.{List}
use Prim.Native.Nat.{ℕ, ◌+◌, ◌≤◌, ◌<◌}
use native.Mathlib.Decide.{ℕ_discrete}
use native.Mathlib.Omega.{arith}
use borrow.Author.Tests.{eq-eqb, ne_eqb}
use Rattle.trits.specs.Rows.{matrix_at}
use Rattle.matrix.specs.Linear.{Vector, Matrix}
use Rattle.matrix.specs.Blocks.{less_of, UnitAt, basis_row, basis, from, brought}
use Rattle.grid.specs.Steps.{Rows, Grid}
use Rattle.matrix.proofs.BasisRows.{basis_past}

-- where it stands: the rows a .. i - 1 are cleared, and no other row is changed
pub record Clearing (rows w r k c a i : ℕ) (A : Matrix) (ones twos : List ℕ) : Type 0 where
  pub grid : Rows ones twos rows w
  pub cleared : (s : ℕ) → a ≤ s → s < i → matrix_at w ones twos s ≡ less_of k (from c) (basis r A) (A s)
  pub kept : (s : ℕ) → (s < a) ⊎ (i ≤ s) → matrix_at w ones twos s ≡ A s

module _ {o t : List ℕ} {rows w r k c a i : ℕ} {A : Matrix} (g : Clearing rows w r k c a i A o t) where
  module _ (h : i ≤ r) where
    -- the block's rows are as they were
    pub clearing_basis : basis r (matrix_at w o t) ≡ basis r A
    clearing_basis = fun_ext (λ j. g.kept (basis_row r j) (inr (omega (arith, basis_past r j))))

    pub clearing_unit : UnitAt k (from c) (basis r A) → UnitAt k (from c) (basis r (matrix_at w o t))
    clearing_unit u = subst (λ (b : Matrix). UnitAt k (from c) b) (sym clearing_basis) u

    pub clearing_turn : {o' t' : List ℕ} → a ≤ i → Grid o' t' rows w (brought k c (basis r (matrix_at w o t)) i (matrix_at w o t))
        → Clearing rows w r k c a (i + 1) A o' t'
    clearing_turn {o'} {t'} l d = record {
      grid = d.rows;
      cleared = λ s m n. clear s m n (ℕ_discrete s i);
      kept = λ s m. other s (apart s m) ∙ g.kept s (before s m);
    }
      where
        here : matrix_at w o' t' i ≡ less_of k (from c) (basis r A) (A i)
        here =
            ap (λ (B : Matrix). B i) d.cells ∙ fun_ext (λ q. rw (eq-eqb i i refl))
            ∙ ap₂ (λ (b : Matrix) (v : Vector). less_of k (from c) b v) clearing_basis (g.kept i (inr (omega arith)))

        other : (s : ℕ) → s ≢ i → matrix_at w o' t' s ≡ matrix_at w o t s
        other s f = ap (λ (B : Matrix). B s) d.cells ∙ fun_ext (λ q. rw (ne_eqb s i f))

        clear : (s : ℕ) → a ≤ s → s < i + 1 → Dec (s ≡ i) → matrix_at w o' t' s ≡ less_of k (from c) (basis r A) (A s)
        clear s m n (yes e) = rw e here
        clear s m n (no f) = other s f ∙ g.cleared s m (omega (arith, f))

        apart : (s : ℕ) → (s < a) ⊎ (i + 1 ≤ s) → s ≢ i
        apart s (inl n) e = omega arith
        apart s (inr n) e = omega arith

        before : (s : ℕ) → (s < a) ⊎ (i + 1 ≤ s) → (s < a) ⊎ (i ≤ s)
        before s (inl n) = inl n
        before s (inr n) = inr (omega arith)
