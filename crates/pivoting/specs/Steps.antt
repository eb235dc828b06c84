-- What the pivots of a block ask of the grid, and what they leave. No rule of the paper: code is tied to it. Assumes nothing.
use Rattle.std.specs.Prelude.{◌≡◌, ◌≢◌, ◌⊎◌, true, false, List, Option, None, Some, ℕ, ◌+◌, ◌*◌, ◌≤◌, ◌<◌, length}
use Rattle.trits.specs.Trit.{t0, sub_t, mul_t, is_set}
use Rattle.trits.specs.Rows.{matrix_at}
use Rattle.matrix.specs.Linear.{Matrix}
use Rattle.matrix.specs.Steps.{has_pivot}
use Rattle.matrix.specs.Blocks.{less_of, UnitAt, basis_row, basis, from}
use Rattle.grid.specs.Steps.{Rows}

-- a grid, one of its rows, and one of its columns
pub record ForTritOf (ones twos : List ℕ) (rows w i q : ℕ) : Type 0 where
  pub grid : Rows ones twos rows w
  pub small : length ones ≤ 4294967296
  pub i_in : i < rows
  pub column : q < 64 * w

-- a grid, r of its rows, a block of k rows after them, the column that comes next, and one of the r rows
pub record ForTritNow (ones twos : List ℕ) (rows w r k c i : ℕ) : Type 0 where
  pub grid : Rows ones twos rows w
  pub small : length ones ≤ 4294967296
  pub narrow : w ≤ 65536
  pub room : r + 243 ≤ rows
  pub few : k < 12
  pub column : c + k < 64 * w
  pub i_in : i < r

-- and the rows that have pivots
pub record ForFindNow (ones twos : List ℕ) (rows w r at k c : ℕ) : Type 0 where
  pub grid : Rows ones twos rows w
  pub small : length ones ≤ 4294967296
  pub narrow : w ≤ 65536
  pub room : r + 243 ≤ rows
  pub few : k < 12
  pub column : c + k < 64 * w
  pub at_most : at + k ≤ r

-- the row that was looked for among the first r: none exactly where the search ended at r
abbrev pub FoundRow : Option ℕ → ℕ → ℕ → Type 0
FoundRow None r row = row ≡ r
FoundRow (Some i) r row = (i < r) × (i ≡ row)

-- and the block's rows with the one that joins them, which is 0 outside the words f .. v - 1
pub record ForJoin (ones twos : List ℕ) (rows w f v r k c : ℕ) : Type 0 where
  pub grid : Rows ones twos rows w
  pub small : length ones ≤ 4294967296
  pub narrow : w ≤ 65536
  pub room : r + 243 ≤ rows
  pub few : k < 12
  pub column : c + k < 64 * w
  pub width : v ≤ w
  pub outside : (t : ℕ) → (t < 64 * f) ⊎ (64 * v ≤ t) → matrix_at w ones twos (basis_row r k) t ≡ t0

-- the first j rows of the block are cleared at the column c + k by row k, and no other row is changed
pub record JoinedRows (r k c j : ℕ) (A B : Matrix) : Type 0 where
  pub cleared : (l : ℕ) → l < j → B (basis_row r l) ≡ (λ t. sub_t (A (basis_row r l) t) (mul_t (A (basis_row r l) (c + k)) (A (basis_row r k) t)))
  pub kept : (i : ℕ) → ((l : ℕ) → l < j → i ≢ basis_row r l) → B i ≡ A i

-- a grid, r of its rows, a block that is the identity at its columns and 0 outside the words f .. v - 1, and the row of the next pivot
pub record ForBringPivot (ones twos : List ℕ) (rows w f v r at k c i : ℕ) : Type 0 where
  pub grid : Rows ones twos rows w
  pub small : length ones ≤ 4294967296
  pub narrow : w ≤ 65536
  pub room : r + 243 ≤ rows
  pub few : k < 12
  pub column : c + k < 64 * w
  pub width : v ≤ w
  pub unit : UnitAt k (from c) (basis r (matrix_at w ones twos))
  pub outside : (j t : ℕ) → j < k → (t < 64 * f) ⊎ (64 * v ≤ t) → matrix_at w ones twos (basis_row r j) t ≡ t0
  pub from_next : at + k ≤ i
  pub i_in : i < r
  pub set : is_set (less_of k (from c) (basis r (matrix_at w ones twos)) (matrix_at w ones twos i) (c + k)) ≡ true

-- a grid, r of its rows, the rows that have pivots, and a block that is the identity at its columns; it and the other rows are 0 outside the words f .. v - 1
pub record ForNextPivot (ones twos : List ℕ) (rows w f v r at k c : ℕ) : Type 0 where
  pub grid : Rows ones twos rows w
  pub small : length ones ≤ 4294967296
  pub narrow : w ≤ 65536
  pub room : r + 243 ≤ rows
  pub few : k < 12
  pub column : c + k < 64 * w
  pub row_next : at + k < r
  pub width : v ≤ w
  pub unit : UnitAt k (from c) (basis r (matrix_at w ones twos))
  pub outside : (j t : ℕ) → j < k → (t < 64 * f) ⊎ (64 * v ≤ t) → matrix_at w ones twos (basis_row r j) t ≡ t0
  pub rows_outside : (i t : ℕ) → at + k ≤ i → i < r → (t < 64 * f) ⊎ (64 * v ≤ t) → matrix_at w ones twos i t ≡ t0

-- a grid, r of its rows, the rows that have pivots, and the columns from c to m; the other rows are 0 outside the words f .. v - 1
pub record ForTakeBlock (ones twos : List ℕ) (rows w f v r at c m : ℕ) : Type 0 where
  pub grid : Rows ones twos rows w
  pub small : length ones ≤ 4294967296
  pub narrow : w ≤ 65536
  pub room : r + 243 ≤ rows
  pub row_next : at < r
  pub column : c < m
  pub columns : m ≤ 64 * w
  pub width : v ≤ w
  pub rows_outside : (i t : ℕ) → at ≤ i → i < r → (t < 64 * f) ⊎ (64 * v ≤ t) → matrix_at w ones twos i t ≡ t0

-- a block has no pivot only where its first column has none
pub record Ended (r at c k : ℕ) (A : Matrix) : Type 0 where
  pub none : k ≡ 0 → has_pivot r at c A ≡ false
