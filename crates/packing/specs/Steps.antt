-- What reading packed bytes asks of rows, bytes and the byte table. No rule of the paper: code is tied to it. Assumes nothing.
use Rattle.std.specs.Prelude.{◌≡◌, List, ℕ, ◌*◌, ◌≤◌, ◌<◌, length}
use Rattle.std.specs.Int.Bits.{bit_and}
use Rattle.trits.specs.Trit.{t0}
use Rattle.trits.specs.Planes.{trit_at, Row}
use Rattle.packed.specs.Packed.{bytes_for, byte_table}
use Rattle.packed.specs.Steps.{digit_values}

-- the table of what five bits count, and two words with no bit in both
pub record ForFiveTrits (values : List ℕ) (x y : ℕ) : Type 0 where
  pub is_table : values ≡ digit_values
  pub apart : bit_and x y ≡ 0

-- the same, and twelve bytes at most
pub record ForReadTwelve (values : List ℕ) (x y : ℕ) (part : List ℕ) : Type 0 where
  pub is_table : values ≡ digit_values
  pub apart : bit_and x y ≡ 0
  pub few : length part ≤ 12

-- a row of m trits in two planes, 0 past them, and bytes for it
pub record ForReadBytes (m : ℕ) (ones twos bytes : List ℕ) : Type 0 where
  pub row : Row ones twos
  pub trits_fit : m ≤ 64 * length ones
  pub ended : (i : ℕ) → m ≤ i → trit_at ones twos i ≡ t0
  pub small : m ≤ 16384
  pub bytes_size : length bytes ≡ bytes_for m

-- the byte table, a byte of packed trits and a digit of it
pub record ForTrit (table : List ℕ) (b k : ℕ) : Type 0 where
  pub is_table : table ≡ byte_table
  pub byte : b < 243
  pub digit : k < 5
