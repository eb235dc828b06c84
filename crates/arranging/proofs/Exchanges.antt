-- Columns exchanged, row after row. Assumes nothing.
use mathlib.Core.Path.{◌≡◌, refl, sym, ap, ◌∙◌, fun_ext}
use mathlib.Core.Bool.{cond}
use Prim.Native.Nat.{ℕ, ◌+◌, ◌≤◌, ◌<◌}
use native.Mathlib.Decide.{ℕ_discrete, dec_lt}
use native.Mathlib.Omega.{arith}
use borrow.Author.Tests.{eq-eqb, ne_eqb, lt-ltb, le-ltb}
use lib.Dec.{ltb}
use Rattle.trits.specs.Trit.{Trit, trit_of, number, put_v}
use Rattle.trits.proofs.Arithmetic.{trit_number}
use Rattle.matrix.specs.Linear.{Vector, Matrix}
use Rattle.matrix.proofs.Dots.{put_same, put_other}
use Rattle.grid.specs.Steps.{put_row, other}
use Rattle.grid.proofs.RowParts.{put_here, put_else}
use Rattle.arranging.specs.Columns.{exchanged, exchanged_in}

-- ---- one row

-- two places of a row take each other's trits
put_both : (v : Vector) (a b : ℕ) (x y : Trit) → x ≡ v a → y ≡ v b → (t : ℕ) → put_v (put_v v a y) b x t ≡ v (other a b t)
put_both v a b x y e f t = by (ℕ_discrete t b) (ℕ_discrete t a)
  where
    by : Dec (t ≡ b) → Dec (t ≡ a) → put_v (put_v v a y) b x t ≡ v (other a b t)
    by (yes z) (yes u) =
        ap (put_v (put_v v a y) b x) z ∙ put_same (put_v v a y) b x ∙ e ∙ ap v (sym u ∙ z) ∙ sym (rw (eq-eqb t a u))
    by (yes z) (no u) =
        ap (put_v (put_v v a y) b x) z ∙ put_same (put_v v a y) b x ∙ e ∙ sym (rw (ne_eqb t a u, eq-eqb t b z))
    by (no z) (yes u) =
        put_other (put_v v a y) b x t z ∙ ap (put_v v a y) u ∙ put_same v a y ∙ f ∙ sym (rw (eq-eqb t a u))
    by (no z) (no u) = put_other (put_v v a y) b x t z ∙ put_other v a y t u ∙ sym (rw (ne_eqb t a u, ne_eqb t b z))

-- the two puts, one after another
pub trits_exchanged : (a b i : ℕ) (A : Matrix) {M N : Matrix} {x y : ℕ} → x ≡ number (A i a) → y ≡ number (A i b)
    → M ≡ put_row i (put_v (A i) a (trit_of y)) A → N ≡ put_row i (put_v (M i) b (trit_of x)) M → N ≡ exchanged_in a b i A
trits_exchanged a b i A {M} {N} {x} {y} e f g h = fun_ext (λ k. by k (ℕ_discrete k i))
  where
    u : Vector
    u = put_v (A i) a (trit_of y)

    by : (k : ℕ) → Dec (k ≡ i) → N k ≡ exchanged_in a b i A k
    by k (yes z) =
        ap (λ (B : Matrix). B k) h ∙ put_here i (put_v (M i) b (trit_of x)) M k z
        ∙ ap (λ (v : Vector). put_v v b (trit_of x)) (ap (λ (B : Matrix). B i) g ∙ put_here i u A i refl)
        ∙ fun_ext (λ t. put_both (A i) a b (trit_of x) (trit_of y) (ap trit_of e ∙ trit_number (A i a)) (ap trit_of f ∙ trit_number (A i b)) t
        ∙ ap (λ (n : ℕ). A n (other a b t)) (sym z) ∙ sym (rw (eq-eqb k i z)))
    by k (no z) =
        ap (λ (B : Matrix). B k) h ∙ put_else i (put_v (M i) b (trit_of x)) M k z ∙ ap (λ (B : Matrix). B k) g ∙ put_else i u A k z
        ∙ fun_ext (λ t. sym (rw (ne_eqb k i z)))

-- ---- row after row

-- in the rows before i
abbrev pub exchanged_to : ℕ → ℕ → ℕ → Matrix → Matrix
exchanged_to a b i A k t = cond (ltb k i) (A k (other a b t)) (A k t)

module _ (a b : ℕ) (A : Matrix) where
  pub exchanged_none : A ≡ exchanged_to a b 0 A
  exchanged_none = fun_ext (λ k. fun_ext (λ t. sym (rw (le-ltb k 0 (omega arith)))))

  pub exchanged_turn : (i : ℕ) {M N : Matrix} → M ≡ exchanged_to a b i A → N ≡ exchanged_in a b i M → N ≡ exchanged_to a b (i + 1) A
  exchanged_turn i {M} {N} e f = f ∙ ap (exchanged_in a b i) e ∙ fun_ext (λ k. fun_ext (λ t. by k t (ℕ_discrete k i)))
    where
      by : (k t : ℕ) → Dec (k ≡ i) → exchanged_in a b i (exchanged_to a b i A) k t ≡ exchanged_to a b (i + 1) A k t
      by k t (yes z) = rw (eq-eqb k i z, le-ltb k i (omega arith), lt-ltb k (i + 1) (omega arith))
      by k t (no z) = rw (ne_eqb k i z) (go (dec_lt k i))
        where
          go : Dec (k < i) → exchanged_to a b i A k t ≡ exchanged_to a b (i + 1) A k t
          go (yes l) = rw (lt-ltb k i l, lt-ltb k (i + 1) (omega arith))
          go (no l) = rw (le-ltb k i (omega arith), le-ltb k (i + 1) (omega (arith, z)))

  -- all rows; past them there is no trit to exchange
  pub exchanged_all : (rows : ℕ) {M : Matrix} → M ≡ exchanged_to a b rows A → ((k t u : ℕ) → rows ≤ k → A k t ≡ A k u) → M ≡ exchanged a b A
  exchanged_all rows e z = e ∙ fun_ext (λ k. fun_ext (λ t. by k t (dec_lt k rows)))
    where
      by : (k t : ℕ) → Dec (k < rows) → exchanged_to a b rows A k t ≡ exchanged a b A k t
      by k t (yes l) = rw (lt-ltb k rows l)
      by k t (no l) = rw (le-ltb k rows (omega arith)) (z k t (other a b t) (omega arith))
