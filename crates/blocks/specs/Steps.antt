-- What the functions on a block's rows ask of the grid. No rule of the paper: code is tied to it. Assumes nothing.
use Rattle.std.specs.Prelude.{◌≡◌, List, ◌⊎◌, ℕ, ◌+◌, ◌*◌, ◌≤◌, ◌<◌, length}
use Rattle.trits.specs.Trit.{t0}
use Rattle.trits.specs.Rows.{matrix_at}
use Rattle.matrix.specs.Blocks.{UnitAt, basis_row, from, basis}
use Rattle.grid.specs.Steps.{Rows}

-- a grid, r of its rows, a block of k rows after them that is the identity at the columns from c on and 0 outside the words f .. v - 1, and one of the r rows
pub record ForBring (ones twos : List ℕ) (rows w f v r k c i : ℕ) : Type 0 where
  pub grid : Rows ones twos rows w
  pub small : length ones ≤ 4294967296
  pub narrow : w ≤ 65536
  pub room : r + 243 ≤ rows
  pub few : k ≤ 12
  pub columns : c + k ≤ 64 * w
  pub i_in : i < r
  pub width : v ≤ w
  pub unit : UnitAt k (from c) (basis r (matrix_at w ones twos))
  pub outside : (j t : ℕ) → j < k → (t < 64 * f) ⊎ (64 * v ≤ t) → matrix_at w ones twos (basis_row r j) t ≡ t0

-- and rows a .. b - 1 of the r rows
pub record ForClearBlock (ones twos : List ℕ) (rows w f v r k c a b : ℕ) : Type 0 where
  pub grid : Rows ones twos rows w
  pub small : length ones ≤ 4294967296
  pub narrow : w ≤ 65536
  pub room : r + 243 ≤ rows
  pub few : k ≤ 12
  pub columns : c + k ≤ 64 * w
  pub ordered : a ≤ b
  pub end : b ≤ r
  pub width : v ≤ w
  pub unit : UnitAt k (from c) (basis r (matrix_at w ones twos))
  pub outside : (j t : ℕ) → j < k → (t < 64 * f) ⊎ (64 * v ≤ t) → matrix_at w ones twos (basis_row r j) t ≡ t0
