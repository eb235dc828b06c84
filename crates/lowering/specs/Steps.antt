-- What the first pass asks of the grid. No rule of the paper: code is tied to it. Assumes nothing.
use Rattle.std.specs.Prelude.{◌≡◌, List, ℕ, ◌+◌, ◌*◌, ◌≤◌, ◌<◌, length}
use Rattle.trits.specs.Trit.{t0}
use Rattle.trits.specs.Rows.{matrix_at}
use Rattle.grid.specs.Steps.{Rows}

-- a grid, r of its rows, of which the first `at` have pivots, and the columns from c to m; the other rows are 0 before c and from word v on
pub record ForPassBlock (ones twos : List ℕ) (rows w v r at c m : ℕ) : Type 0 where
  pub grid : Rows ones twos rows w
  pub small : length ones ≤ 4294967296
  pub narrow : w ≤ 65536
  pub room : r + 243 ≤ rows
  pub width : v ≤ w
  pub row_next : at < r
  pub column : c < m
  pub columns : m ≤ 64 * v
  pub low : (i t : ℕ) → at ≤ i → i < r → t < c → matrix_at w ones twos i t ≡ t0
  pub past : (i t : ℕ) → at ≤ i → i < r → 64 * v ≤ t → matrix_at w ones twos i t ≡ t0

-- a grid, r of its rows, which are 0 from word v on, with room for tables after them, and how many columns are tried
pub record ForLower (ones twos : List ℕ) (rows w r v m : ℕ) : Type 0 where
  pub grid : Rows ones twos rows w
  pub small : length ones ≤ 4294967296
  pub narrow : w ≤ 65536
  pub room : r + 243 ≤ rows
  pub width : v ≤ w
  pub columns : m ≤ 64 * v
  pub past : (i t : ℕ) → i < r → 64 * v ≤ t → matrix_at w ones twos i t ≡ t0
