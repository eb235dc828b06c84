-- What the row operations of an elimination ask of the grid. No rule of the paper: code is tied to it. Assumes nothing.
use Rattle.std.specs.Prelude.{◌≡◌, true, List, ◌≢◌, ◌⊎◌, ℕ, ◌*◌, ◌≤◌, ◌<◌, length}
use Rattle.trits.specs.Trit.{t0, is_set}
use Rattle.trits.specs.Rows.{matrix_at}
use Rattle.grid.specs.Steps.{Rows}

-- a grid, one of its columns, and a row that is not 0 there
pub record ForScaleRow (ones twos : List ℕ) (rows w c at : ℕ) : Type 0 where
  pub grid : Rows ones twos rows w
  pub small : length ones ≤ 4294967296
  pub column : c < 64 * w
  pub pivot : at < rows
  pub set : is_set (matrix_at w ones twos at c) ≡ true

-- a grid, one of its columns, the pivot's row, which is 0 before word f and from word v on, and another
pub record ForClearRow (ones twos : List ℕ) (rows w f v c at i : ℕ) : Type 0 where
  pub grid : Rows ones twos rows w
  pub small : length ones ≤ 4294967296
  pub width : v ≤ w
  pub column : c < 64 * w
  pub pivot : at < rows
  pub i_in : i < rows
  pub apart : i ≢ at
  pub outside : (t : ℕ) → (t < 64 * f) ⊎ (64 * v ≤ t) → matrix_at w ones twos at t ≡ t0

-- a grid, one of its columns, the pivot's row, which is 0 before word f and from word v on, and rows on one side of it
pub record ForClearRows (ones twos : List ℕ) (rows w f v c at from to : ℕ) : Type 0 where
  pub grid : Rows ones twos rows w
  pub small : length ones ≤ 4294967296
  pub width : v ≤ w
  pub column : c < 64 * w
  pub pivot : at < rows
  pub ordered : from ≤ to
  pub end : to ≤ rows
  pub beside : (to ≤ at) ⊎ (at < from)
  pub outside : (t : ℕ) → (t < 64 * f) ⊎ (64 * v ≤ t) → matrix_at w ones twos at t ≡ t0
