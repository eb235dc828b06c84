-- What places and tests of two planes ask. No rule of the paper: code is tied to it. Assumes nothing.
use Rattle.std.specs.Prelude.{◌≡◌, List, ℕ, ◌*◌, ◌≤◌, ◌<◌, length}
use Rattle.trits.specs.Planes.{Row, words_for}

-- a row, a place of it and a trit
pub record ForPutTrit (ones twos : List ℕ) (i t : ℕ) : Type 0 where
  pub row : Row ones twos
  pub place : i < 64 * length ones
  pub trit : t < 3

-- two planes of so many rows of m trits
pub record ForPlanes (ones twos : List ℕ) (rows m : ℕ) : Type 0 where
  pub ones_size : length ones ≡ rows * words_for m
  pub twos_size : length twos ≡ rows * words_for m
  pub small : m ≤ 16384
