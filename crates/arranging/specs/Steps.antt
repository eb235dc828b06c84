-- What the column rule asks of the grid and the order. No rule of the paper: code is tied to it. Assumes nothing.
use Rattle.std.specs.Prelude.{◌≡◌, List, ℕ, ◌+◌, ◌*◌, ◌≤◌, ◌<◌, length}
use Rattle.trits.specs.Trit.{t0}
use Rattle.trits.specs.Rows.{matrix_at}
use Rattle.grid.specs.Steps.{Rows}
use Rattle.arranging.specs.Columns.{column_rule}

-- a grid, two of its columns, and one of its rows
pub record ForExchangeTrits (ones twos : List ℕ) (rows w a b i : ℕ) : Type 0 where
  pub grid : Rows ones twos rows w
  pub small : length ones ≤ 4294967296
  pub first : a < 64 * w
  pub second : b < 64 * w
  pub i_in : i < rows

-- a grid, and two of its columns
pub record ForExchangeColumns (ones twos : List ℕ) (rows w a b : ℕ) : Type 0 where
  pub grid : Rows ones twos rows w
  pub small : length ones ≤ 4294967296
  pub first : a < 64 * w
  pub second : b < 64 * w

-- a grid, r of its rows, of which the first `at` have pivots and the others are 0 before the column `at`, and the order of its columns, of which so many
-- are left that every row gets a pivot
pub record ForTakePivots (ones twos : List ℕ) (rows w r at : ℕ) (order : List ℕ) (left : ℕ) : Type 0 where
  pub grid : Rows ones twos rows w
  pub small : length ones ≤ 4294967296
  pub narrow : w ≤ 65536
  pub room : r + 243 ≤ rows
  pub row_next : at < r
  pub low : (i t : ℕ) → at ≤ i → i < r → t < at → matrix_at w ones twos i t ≡ t0
  pub places_fit : length order ≤ 64 * w
  pub within : at + left ≤ length order
  pub full : (column_rule r left at (matrix_at w ones twos) order).kept ≡ r

-- a grid, r of its rows, and the order of its columns, among which every row gets a pivot
pub record ForClearBelow (ones twos : List ℕ) (rows w r : ℕ) (order : List ℕ) : Type 0 where
  pub grid : Rows ones twos rows w
  pub small : length ones ≤ 4294967296
  pub narrow : w ≤ 65536
  pub room : r + 243 ≤ rows
  pub places_fit : length order ≤ 64 * w
  pub full : (column_rule r (length order) 0 (matrix_at w ones twos) order).kept ≡ r
