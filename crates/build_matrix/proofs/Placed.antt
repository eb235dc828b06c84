-- The work matrix by secret places is the secret matrix, once the half-rows of U and of V are made. Assumes nothing.
use mathlib.Core.Path.{◌≡◌, refl, sym, ap, ◌∙◌, fun_ext}
use mathlib.Core.Bool.{Bool, true, false, cond}
use mathlib.Core.List.{List}
use Prim.Native.Nat.{ℕ, ◌+◌, ◌-◌, ◌*◌, ◌≤◌, ◌<◌}
use native.Mathlib.Nat.{mul-add, add-mul}
use native.Mathlib.Decide.{dec_lt}
use native.Mathlib.Omega.{arith}
use borrow.Author.Tests.{lt-ltb, le-ltb}
use lib.Dec.{ltb}
use Rattle.trits.specs.Trit.{t0}
use Rattle.trits.specs.Planes.{trit_at}
use Rattle.trits.specs.Rows.{matrix_at}
use Rattle.matrix.specs.Linear.{Vector, Matrix}
use Rattle.grid.specs.Steps.{Rows, Grid}
use Rattle.grid.proofs.Cells.{cell, cell_past, cell_none}
use Rattle.scheme.specs.declared.sizes.Sizes.{Sizes}
use Rattle.scheme.specs.Sizes.{half, ru, rv, codim}
use Rattle.scheme.specs.Secret.{Secret, secret_matrix, join}
use Rattle.build_matrix.specs.Steps.{col_of, placed_at, halves_in, left_u, right_u, left_v}
use Rattle.build_matrix.proofs.HalfRows.{halves_left, halves_right, halves_low, halves_high, negative_past}

pub rows_joined : {o t : List ℕ} {r hw : ℕ} → Rows o t (r + r) hw → Rows o t r (hw + hw)
rows_joined {r = r} {hw} g = record { row = g.row; size = g.size ∙ omega (arith, mul-add r hw hw, add-mul r r hw) }

module _ (N hw : ℕ) (o t : List ℕ) (fit : N ≤ 64 * hw) (i : ℕ) where
  two : i * (hw + hw) ≡ (i + i) * hw
  two = omega (arith, mul-add i hw hw, add-mul i i hw)

  next : (i + i + 1) * hw ≡ (i + i) * hw + hw
  next = omega (arith, add-mul (i + i) 1 hw)

  -- a secret place's cell is in one of the half-rows
  pub placed_left : (q : ℕ) → q < N → placed_at N hw (hw + hw) o t i q ≡ matrix_at hw o t (i + i) q
  unfolding placed_at col_of
  placed_left q h =
      ap (λ (s : Bool). matrix_at (hw + hw) o t i (cond s q (64 * hw + (q - N)))) (lt-ltb q N h)
      ∙ cell (hw + hw) o t i q (omega arith) ∙ ap (λ (n : ℕ). trit_at o t (64 * n + q)) two ∙ sym (cell hw o t (i + i) q (omega arith))

  pub placed_right : (q : ℕ) → N ≤ q → placed_at N hw (hw + hw) o t i q ≡ matrix_at hw o t (i + i + 1) (q - N)
  unfolding placed_at col_of
  placed_right q h = ap (λ (s : Bool). matrix_at (hw + hw) o t i (cond s q (64 * hw + (q - N)))) (le-ltb q N h) ∙ by (dec_lt (q - N) (64 * hw))
    where
      by : Dec (q - N < 64 * hw) → matrix_at (hw + hw) o t i (64 * hw + (q - N)) ≡ matrix_at hw o t (i + i + 1) (q - N)
      by (yes l) =
          let e : 64 * (i * (hw + hw)) + (64 * hw + (q - N)) ≡ 64 * ((i + i + 1) * hw) + (q - N) = omega (arith, two, next) in
          cell (hw + hw) o t i (64 * hw + (q - N)) (omega arith) ∙ ap (trit_at o t) e ∙ sym (cell hw o t (i + i + 1) (q - N) l)
      by (no f) = cell_past (hw + hw) o t i (64 * hw + (q - N)) (omega arith) ∙ sym (cell_past hw o t (i + i + 1) (q - N) (omega arith))

-- the half-rows of U, then those of V, and 0 after them, are the secret matrix
module _ (z : Sizes) (hw rows : ℕ) {o t uo ut vo vt : List ℕ} (b c : Vector) (A : Matrix) (zero : (j q : ℕ) → A j q ≡ t0) (fit : half z ≤ 64 * hw)
    (u : Rows uo ut (ru z) hw)
    (v : Rows vo vt (rv z) hw)
    (g : Grid o t rows hw
    (halves_in (ru z) (rv z) (left_v (matrix_at hw vo vt) c) (matrix_at hw vo vt)
    (halves_in 0 (ru z) (left_u (matrix_at hw uo ut) b c) (right_u (matrix_at hw uo ut) b) A))) where
  abbrev secret : Secret
  secret = record { hu = matrix_at hw uo ut; hv = matrix_at hw vo vt; b = b; c = c }

  abbrev LU : Matrix
  LU = left_u (matrix_at hw uo ut) b c

  abbrev RU : Matrix
  RU = right_u (matrix_at hw uo ut) b

  abbrev LV : Matrix
  LV = left_v (matrix_at hw vo vt) c

  abbrev HV : Matrix
  HV = matrix_at hw vo vt

  abbrev U : Matrix
  U = halves_in 0 (ru z) LU RU A

  at : (j q : ℕ) → matrix_at hw o t j q ≡ halves_in (ru z) (rv z) LV HV U j q
  at j q = ap (λ (B : Matrix). B j q) g.cells

  -- the rows after those of U and V
  none : (j q : ℕ) → codim z + codim z ≤ j → matrix_at hw o t j q ≡ t0
  none j q h = at j q ∙ halves_high (ru z) LV HV U (rv z) j q (omega arith) ∙ halves_high 0 LU RU A (ru z) j q (omega arith) ∙ zero j q

  -- row i, left and right
  left : (i q : ℕ) → Dec (i < ru z) → Dec (i < codim z) → matrix_at hw o t (i + i) q ≡ cond (ltb i (ru z)) (LU i q) (LV (i - ru z) q)
  left i q (yes l) d =
      at (i + i) q ∙ halves_low (ru z) LV HV U (rv z) (i + i) q (omega arith)
      ∙ ap (λ (n : ℕ). U n q) (omega arith) ∙ halves_left 0 LU RU A (ru z) i q l
      ∙ ap (λ (s : Bool). cond s (LU i q) (LV (i - ru z) q)) (sym (lt-ltb i (ru z) l))
  left i q (no f) (yes d) =
      let e : i + i ≡ ru z + (i - ru z) + (ru z + (i - ru z)) = omega arith in
      at (i + i) q ∙ ap (λ (n : ℕ). halves_in (ru z) (rv z) LV HV U n q) e
      ∙ halves_left (ru z) LV HV U (rv z) (i - ru z) q (omega arith)
      ∙ ap (λ (s : Bool). cond s (LU i q) (LV (i - ru z) q)) (sym (le-ltb i (ru z) (omega arith)))
  left i q (no f) (no d) =
      none (i + i) q (omega arith) ∙ negative_past c (HV (i - ru z)) q (cell_none v (i - ru z) q (omega arith))
      ∙ ap (λ (s : Bool). cond s (LU i q) (LV (i - ru z) q)) (sym (le-ltb i (ru z) (omega arith)))

  right : (i q : ℕ) → Dec (i < ru z) → Dec (i < codim z) → matrix_at hw o t (i + i + 1) q ≡ cond (ltb i (ru z)) (RU i q) (HV (i - ru z) q)
  right i q (yes l) d =
      at (i + i + 1) q ∙ halves_low (ru z) LV HV U (rv z) (i + i + 1) q (omega arith)
      ∙ ap (λ (n : ℕ). U n q) (omega arith) ∙ halves_right 0 LU RU A (ru z) i q l
      ∙ ap (λ (s : Bool). cond s (RU i q) (HV (i - ru z) q)) (sym (lt-ltb i (ru z) l))
  right i q (no f) (yes d) =
      let e : i + i + 1 ≡ ru z + (i - ru z) + (ru z + (i - ru z)) + 1 = omega arith in
      at (i + i + 1) q ∙ ap (λ (n : ℕ). halves_in (ru z) (rv z) LV HV U n q) e
      ∙ halves_right (ru z) LV HV U (rv z) (i - ru z) q (omega arith)
      ∙ ap (λ (s : Bool). cond s (RU i q) (HV (i - ru z) q)) (sym (le-ltb i (ru z) (omega arith)))
  right i q (no f) (no d) =
      none (i + i + 1) q (omega arith) ∙ sym (cell_none v (i - ru z) q (omega arith))
      ∙ ap (λ (s : Bool). cond s (RU i q) (HV (i - ru z) q)) (sym (le-ltb i (ru z) (omega arith)))

  joined : (s : Bool) (i q : ℕ) → cond s (join (half z) (LU i) (RU i)) (join (half z) (LV (i - ru z)) (HV (i - ru z))) q
      ≡ cond (ltb q (half z)) (cond s (LU i q) (LV (i - ru z) q)) (cond s (RU i (q - half z)) (HV (i - ru z) (q - half z)))
  joined true i q = refl
  joined false i q = refl

  pub placed_secret : placed_at (half z) hw (hw + hw) o t ≡ secret_matrix z secret
  unfolding secret_matrix
  placed_secret = fun_ext (λ i. fun_ext (λ q. by i q (dec_lt q (half z)) ∙ sym (joined (ltb i (ru z)) i q)))
    where
      by : (i q : ℕ) → Dec (q < half z)
          → placed_at (half z) hw (hw + hw) o t i q ≡ cond (ltb q (half z)) (cond (ltb i (ru z)) (LU i q) (LV (i - ru z) q))
          (cond (ltb i (ru z)) (RU i (q - half z)) (HV (i - ru z) (q - half z)))
      by i q (yes l) =
          placed_left (half z) hw o t fit i q l ∙ left i q (dec_lt i (ru z)) (dec_lt i (codim z))
          ∙ ap (λ (s : Bool). cond s (cond (ltb i (ru z)) (LU i q) (LV (i - ru z) q)) (cond (ltb i (ru z)) (RU i (q - half z)) (HV (i - ru z) (q - half z))))
          (sym (lt-ltb q (half z) l))
      by i q (no f) =
          placed_right (half z) hw o t fit i q (omega arith) ∙ right i (q - half z) (dec_lt i (ru z)) (dec_lt i (codim z))
          ∙ ap (λ (s : Bool). cond s (cond (ltb i (ru z)) (LU i q) (LV (i - ru z) q)) (cond (ltb i (ru z)) (RU i (q - half z)) (HV (i - ru z) (q - half z))))
          (sym (le-ltb q (half z) (omega arith)))
