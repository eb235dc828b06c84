-- The cells of a matrix in planes: what is read there, and a matrix known by its cells. Assumes nothing.
use mathlib.Core.Path.{◌≡◌, refl, sym, ap, ◌∙◌, fun_ext}
use mathlib.Core.Bool.{Bool, true, false, cond}
use mathlib.Core.Logic.{◌⊎◌, inl, inr}
use mathlib.Core.List.{List}
use Prim.Native.Nat.{ℕ, ◌+◌, ◌*◌, ◌/◌, ◌%◌, ◌≤◌, ◌<◌}
use native.Mathlib.Nat.{mul-le-mul_left, mul-le-mul_right}
use native.Mathlib.Decide.{dec_lt}
use native.Mathlib.Omega.{arith}
use borrow.Author.Tests.{lt-ltb, le-ltb}
use lib.ListN.{length, get_or}
use Rattle.trits.specs.Trit.{Trit, t0, t1, t2, is_set, number}
use Rattle.trits.specs.Planes.{bit, trit, trit_at}
use Rattle.trits.specs.Rows.{matrix_at}
use Rattle.trits.proofs.Matrix.{row_le}
use Rattle.trits.proofs.Reading.{read_past, trit_at_word}
use Rattle.matrix.specs.Linear.{Matrix}
use Rattle.matrix.proofs.Field.{number_set, number_unset, number_two, number_unit, number_one}
use Rattle.grid.specs.Steps.{Rows, Grid}

module _ (w : ℕ) (ones twos : List ℕ) (i q : ℕ) where
  pub cell : q < 64 * w → matrix_at w ones twos i q ≡ trit_at ones twos (64 * (i * w) + q)
  unfolding matrix_at
  cell h = ap (λ (t : Bool). cond t (trit_at ones twos (64 * (i * w) + q)) t0) (lt-ltb q (64 * w) h)

  pub cell_past : 64 * w ≤ q → matrix_at w ones twos i q ≡ t0
  unfolding matrix_at
  cell_past h = ap (λ (t : Bool). cond t (trit_at ones twos (64 * (i * w) + q)) t0) (le-ltb q (64 * w) h)

  pub cell_word : q < 64 * w → matrix_at w ones twos i q ≡ trit (bit (q % 64) (get_or ones (i * w + q / 64) 0)) (bit (q % 64) (get_or twos (i * w + q / 64) 0))
  cell_word h = cell h ∙ trit_at_word ones twos (64 * (i * w) + q) (i * w + q / 64) (q % 64) (omega arith) (omega arith)

  -- all words of a row: there is nothing outside them
  pub whole_row : (q < 64 * 0) ⊎ (64 * w ≤ q) → matrix_at w ones twos i q ≡ t0
  whole_row (inl h) = absurd (omega arith)
  whole_row (inr h) = cell_past h

-- as many rows as words, at most
pub rows_most : {o t : List ℕ} {rows w : ℕ} → Rows o t rows w → 0 < w → rows ≤ length o
rows_most {rows = rows} {w} g h = omega (arith, g.size, mul-le-mul_left {m = 1} {n = w} rows h)

-- a row's words are words of both planes
pub row_in_ones : {o t : List ℕ} {r w i : ℕ} → Rows o t r w → i < r → i * w + w ≤ length o
row_in_ones {w = w} g h = omega (arith, row_le w h, g.size)

pub row_in_twos : {o t : List ℕ} {r w i : ℕ} → Rows o t r w → i < r → i * w + w ≤ length t
row_in_twos {w = w} g h = omega (arith, row_le w h, g.size, g.row.same)

-- rows past the last are 0
pub cell_none : {ones twos : List ℕ} {r w : ℕ} → Rows ones twos r w → (i q : ℕ) → r ≤ i → matrix_at w ones twos i q ≡ t0
cell_none {ones} {twos} {r} {w} g i q h = by (dec_lt q (64 * w))
  where
    by : Dec (q < 64 * w) → matrix_at w ones twos i q ≡ t0
    by (yes l) =
        cell w ones twos i q l
        ∙ read_past ones twos (r * w) (64 * (i * w) + q) g.size (g.row.same ∙ g.size) (omega (arith, mul-le-mul_right w h))
    by (no l) = cell_past w ones twos i q (omega arith)

-- planes whose cells are those of A
pub grid_by : {ones twos : List ℕ} {r w : ℕ} {A : Matrix} → Rows ones twos r w → ((i q : ℕ) → q < 64 * w → trit_at ones twos (64 * (i * w) + q) ≡ A i q)
    → ((i q : ℕ) → 64 * w ≤ q → t0 ≡ A i q) → Grid ones twos r w A
grid_by {ones} {twos} {r} {w} {A} g f z = record { rows = g; cells = fun_ext (λ i. fun_ext (λ q. by i q (dec_lt q (64 * w)))) }
  where
    by : (i q : ℕ) → Dec (q < 64 * w) → matrix_at w ones twos i q ≡ A i q
    by i q (yes l) = cell w ones twos i q l ∙ f i q l
    by i q (no l) = cell_past w ones twos i q (omega arith) ∙ z i q (omega arith)

pub grid_to : {o t : List ℕ} {r w : ℕ} {A B : Matrix} → Grid o t r w A → A ≡ B → Grid o t r w B
grid_to g e = record { rows = g.rows; cells = g.cells ∙ e }

pub grid_of : {o t : List ℕ} {r w : ℕ} {A : Matrix} → Rows o t r w → matrix_at w o t ≡ A → Grid o t r w A
grid_of g e = record { rows = g; cells = e }

-- ---- the number that is read of a cell

none_of : (x : Trit) → (number x ≡ 1 → ⊥) → (number x ≡ 2 → ⊥) → x ≡ t0
none_of t0 f g = refl
none_of t1 f g = absurd (f refl)
none_of t2 f g = absurd (g refl)

module _ (w : ℕ) (o t : List ℕ) (i q x : ℕ) (h : q < 64 * w) (e : x ≡ number (trit_at o t (64 * (i * w) + q))) where
  pub read_set : (x ≡ 0 → ⊥) → is_set (matrix_at w o t i q) ≡ true
  read_set f = ap is_set (cell w o t i q h) ∙ number_set (trit_at o t (64 * (i * w) + q)) (λ z. f (e ∙ z))

  pub read_unset : x ≡ 0 → is_set (matrix_at w o t i q) ≡ false
  read_unset f = ap is_set (cell w o t i q h) ∙ number_unset (trit_at o t (64 * (i * w) + q)) (sym e ∙ f)

  pub read_two : x ≡ 2 → matrix_at w o t i q ≡ t2
  read_two f = cell w o t i q h ∙ number_two (trit_at o t (64 * (i * w) + q)) (sym e ∙ f)

  pub read_one : x ≡ 1 → matrix_at w o t i q ≡ t1
  read_one f = cell w o t i q h ∙ number_one (trit_at o t (64 * (i * w) + q)) (sym e ∙ f)

  pub read_none : (x ≡ 1 → ⊥) → (x ≡ 2 → ⊥) → matrix_at w o t i q ≡ t0
  read_none f g = cell w o t i q h ∙ none_of (trit_at o t (64 * (i * w) + q)) (λ z. f (e ∙ z)) (λ z. g (e ∙ z))

  pub read_unit : is_set (matrix_at w o t i q) ≡ true → (x ≡ 2 → ⊥) → matrix_at w o t i q ≡ t1
  read_unit z f = cell w o t i q h ∙ number_unit (trit_at o t (64 * (i * w) + q)) (sym (ap is_set (cell w o t i q h)) ∙ z) (λ g. f (e ∙ g))
