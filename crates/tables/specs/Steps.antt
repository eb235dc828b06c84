-- What the functions on tables ask of the grid. No rule of the paper: code is tied to it. Assumes nothing.
use Rattle.std.specs.Prelude.{◌≡◌, List, ◌⊎◌, ℕ, ◌+◌, ◌*◌, ◌/◌, ◌%◌, ◌≤◌, ◌<◌, length}
use Rattle.trits.specs.Trit.{t0}
use Rattle.trits.specs.Planes.{bit, bit_at}
use Rattle.trits.specs.Rows.{matrix_at}
use Rattle.matrix.specs.Blocks.{basis_row}
use Rattle.grid.specs.Steps.{Rows}
use Rattle.tables.specs.Tables.{Tabled}

-- the lowest twelve bits of n are those of the plane from place p on
pub record Twelve (plane : List ℕ) (p n : ℕ) : Type 0 where
  pub bits : (k : ℕ) → k < 12 → bit k n ≡ bit_at plane (p + k)

-- the lowest two bits of n as digits to the base 3
unfoldable pub two_digits : ℕ → ℕ
two_digits n = n % 2 + 3 * (n / 2 % 2)

-- and so the first two of each four of the lowest twelve bits, each number in four bits of its own
unfoldable pub digit_pairs : ℕ → ℕ
digit_pairs n = two_digits n + 16 * two_digits (n / 16) + 256 * two_digits (n / 256)

-- a grid, words of its rows, and the rows of a table up to three times the entry p
pub record ForFillTable (ones twos : List ℕ) (rows w f v z p : ℕ) : Type 0 where
  pub grid : Rows ones twos rows w
  pub width : v ≤ w
  pub some : 0 < p
  pub room : z + 3 * p ≤ rows

-- a grid, words of its rows, and n rows from row z on
pub record ForTable (ones twos : List ℕ) (rows w f v z n : ℕ) : Type 0 where
  pub grid : Rows ones twos rows w
  pub width : v ≤ w
  pub room : z + n ≤ rows

-- a grid with a block's rows among the 243 after its first r, which are 0 before word f and from word v on; twelve columns, and the rows a to b - 1
pub record ForClearByTables (ones twos : List ℕ) (rows w f v r c a b : ℕ) : Type 0 where
  pub grid : Rows ones twos rows w
  pub small : length ones ≤ 4294967296
  pub room : r + 243 ≤ rows
  pub ordered : a ≤ b
  pub end : b ≤ r
  pub width : v ≤ w
  pub columns : c + 12 ≤ 64 * w
  pub outside : (j t : ℕ) → j < 12 → (t < 64 * f) ⊎ (64 * v ≤ t) → matrix_at w ones twos (basis_row r j) t ≡ t0

-- and the tables are those of the block's rows
pub record ForTakeEntries (ones twos : List ℕ) (rows w f v r c a b : ℕ) : Type 0 where
  pub clears : ForClearByTables ones twos rows w f v r c a b
  pub tabled : Tabled f v r (matrix_at w ones twos)
