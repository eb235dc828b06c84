-- Elimination with several pivots at once: a block of pivots whose rows are the identity at the block's columns, tables of the combinations of four such
-- rows, and columns gathered in another order. No rule of the paper: code is tied to it, and its laws to the steps. Assumes nothing.
use Rattle.std.specs.Prelude.{◌≡◌, ◌⊎◌, Bool, true, false, cond, ℕ, zero, suc, ◌+◌, ◌*◌, ◌/◌, ◌%◌, ◌≤◌, ◌<◌, eqb, ltb}
use Rattle.trits.specs.Trit.{Trit, t0, t1, sub_t, mul_t, number, trit_of, put_v, dot_v}
use Rattle.matrix.specs.Linear.{Vector, Matrix, zeros}
use Rattle.matrix.specs.Steps.{swap_rows, scale_row, pivot_row, has_pivot, step_of}

-- ---- a row, and the rows of a block

-- v less the rows b 0 .. b (k - 1), each as often as v's trit at its column q j says
abbrev pub less_of : ℕ → (ℕ → ℕ) → Matrix → Vector → Vector
less_of k q b v t = sub_t (v t) (dot_v (λ j. v (q j)) (λ j. b j t) k)

-- one row more: p at k, and the others cleared at its column
abbrev pub grown : ℕ → (ℕ → ℕ) → Matrix → Vector → Matrix
grown k q b p j t = cond (eqb j k) (p t) (sub_t (b j t) (mul_t (b j (q k)) (p t)))

-- the rows are the identity at their columns
abbrev pub UnitAt : ℕ → (ℕ → ℕ) → Matrix → Type 0
UnitAt k q b = (j l : ℕ) → j < k → l < k → b j (q l) ≡ put_v zeros l t1 j

-- ---- tables: entry e is the combination of rows that its base-3 digits count

unfoldable pub digit : ℕ → ℕ → Trit
digit e zero = trit_of (e % 3)
digit e (suc j) = digit (e / 3) j

unfoldable pub pow3 : ℕ → ℕ
pow3 zero = 1
pow3 (suc j) = 3 * pow3 j

-- the number of k trits, the first counting 1, then 3, 9 and so on
unfoldable pub base3 : Vector → ℕ → ℕ
base3 x zero = 0
base3 x (suc k) = number (x 0) + 3 * base3 (λ j. x (suc j)) k

-- entry e of the table of the rows b 0 .. b (k - 1)
abbrev pub entry_of : ℕ → Matrix → ℕ → Vector
entry_of k b e t = dot_v (digit e) (λ j. b j t) k

-- ---- a block's rows in a matrix of r rows: twelve of the 243 rows after them, which are three tables of 81 entries

-- row j of the block is entry 1, 3, 9 or 27 of its table
unfoldable pub basis_row : ℕ → ℕ → ℕ
basis_row r j = r + (81 * (j / 4) + pow3 (j % 4))

abbrev pub basis : ℕ → Matrix → Matrix
basis r A j = A (basis_row r j)

-- the block's columns follow each other from c on
abbrev pub from : ℕ → ℕ → ℕ
from c j = c + j

-- the block begins at row `at` and has k pivots: the rows that are left for later, as the steps would have made them
abbrev pub pending : ℕ → ℕ → ℕ → Matrix → Matrix → Matrix
pending at k c b A i t = cond (ltb i (at + k)) (A i t) (less_of k (from c) b (A i) t)

-- row s is brought up to date
abbrev pub brought : ℕ → ℕ → Matrix → ℕ → Matrix → Matrix
brought k c b s A i t = cond (eqb i s) (less_of k (from c) b (A s) t) (A i t)

-- the pivot's row s of the next column is brought up to date, comes to its place, and is made to have 1 there
abbrev pub pivot_taken : ℕ → ℕ → ℕ → Matrix → ℕ → Matrix → Matrix
pivot_taken at k c b s A = scale_row (at + k) (less_of k (from c) b (A s) (c + k)) (swap_rows (at + k) s (brought k c b s A))

-- one pivot more, in the first r rows and in the rows of the block; the rows above the pivot's own are as they were (02, C-17, "Clear upwards at the end"),
-- and past the tables no row is changed
pub record NextPivot (found : Bool) (r at k c : ℕ) (A B : Matrix) : Type 0 where
  pub answer : found ≡ has_pivot r (at + k) (c + k) (pending at k c (basis r A) A)
  pub none : found ≡ false → B ≡ A
  pub front : found ≡ true → (i : ℕ) → i < r → B i ≡ pivot_taken at k c (basis r A) (pivot_row r (pending at k c (basis r A) A) (c + k) (at + k)) A i
  pub above : (i : ℕ) → i < at + k → i < r → B i ≡ A i
  pub block : found ≡ true → (j : ℕ) → j < suc k → B (basis_row r j) ≡ grown k (from c) (basis r A) (B (at + k)) j
  pub kept : (i : ℕ) → r + 243 ≤ i → B i ≡ A i

-- k steps at the columns from c on, the first of them at row `at`
unfoldable pub steps : ℕ → ℕ → ℕ → ℕ → Matrix → Matrix
steps r at c zero A = A
steps r at c (suc k) A = step_of r (at + k) (c + k) (steps r at c k A)

-- a block of k pivots at the columns from c on, of which there are m: the rows left for later stand for what the steps make of them, and where the rows
-- from `at` on were 0, they and the block's rows are
pub record Block (r at c m k : ℕ) (A B : Matrix) : Type 0 where
  pub few : k ≤ 12
  pub rows : at + k ≤ r
  pub columns : c + k ≤ m
  pub pivots : (j : ℕ) → j < k → has_pivot r (at + j) (c + j) (steps r at c j A) ≡ true
  pub unit : UnitAt k (from c) (basis r B)
  pub later : (i : ℕ) → i < r → pending at k c (basis r B) B i ≡ steps r at c k A i
  pub rows_zero : (t : ℕ) → ((i : ℕ) → at ≤ i → i < r → A i t ≡ t0) → (i : ℕ) → at ≤ i → i < r → B i t ≡ t0
  pub block_zero : (t : ℕ) → ((i : ℕ) → at ≤ i → i < r → A i t ≡ t0) → (j : ℕ) → j < k → basis r B j t ≡ t0
  pub kept : (i : ℕ) → r + 243 ≤ i → B i ≡ A i

-- the rows a, a + 1, .. b - 1 of the first r are cleared at the block's k columns; the tables may be changed, and no other row
pub record Cleared (r k c a b : ℕ) (A B : Matrix) : Type 0 where
  pub cleared : (i : ℕ) → a ≤ i → i < b → B i ≡ less_of k (from c) (basis r A) (A i)
  pub kept : (i : ℕ) → (i < a) ⊎ (b ≤ i) → (i < r) ⊎ (r + 243 ≤ i) → B i ≡ A i

-- a block of k pivots is taken and cleared: the first r rows are as k steps leave them; it has no pivot only where the column c has none
pub record Advanced (r at c m k : ℕ) (A B : Matrix) : Type 0 where
  pub rows : at + k ≤ r
  pub columns : c + k ≤ m
  pub pivots : (j : ℕ) → j < k → has_pivot r (at + j) (c + j) (steps r at c j A) ≡ true
  pub none : k ≡ 0 → has_pivot r at c A ≡ false
  pub front : (i : ℕ) → i < r → B i ≡ steps r at c k A i
  pub kept : (i : ℕ) → r + 243 ≤ i → B i ≡ A i

-- the first r rows become those of D; past the tables no row is changed
pub record Front (r : ℕ) (D A B : Matrix) : Type 0 where
  pub front : (i : ℕ) → i < r → B i ≡ D i
  pub kept : (i : ℕ) → r + 243 ≤ i → B i ≡ A i

-- ---- columns in another order

-- column j is the column f j, for j below m; 0 past them
abbrev pub columns_by : (ℕ → ℕ) → ℕ → Matrix → Matrix
columns_by f m A i j = cond (ltb j m) (A i (f j)) t0
