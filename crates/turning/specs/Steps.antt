-- A block of 64 words of 64 bits turned, and one stage of it. No rule of the paper: code is tied to it. Assumes nothing.
use Rattle.std.specs.Prelude.{◌≡◌, List, ◌⊎◌, ℕ, ◌+◌, ◌-◌, ◌*◌, ◌/◌, ◌%◌, ◌≤◌, ◌<◌, length, get_or}
use Rattle.trits.specs.Planes.{bit}

-- column i of the new block is row i of the old one
pub record Turned (l₀ l : List ℕ) : Type 0 where
  pub kept : length l ≡ length l₀
  pub bits : (i b : ℕ) → i < 64 → b < 64 → bit b (get_or l i 0) ≡ bit i (get_or l₀ b 0)

-- the number i with b's bit of width j for its own
unfoldable pub crossed : ℕ → ℕ → ℕ → ℕ
crossed j i b = i - i / j % 2 * j + b / j % 2 * j

-- rows and columns have exchanged the bit of width j of their numbers
pub record Exchanged (j : ℕ) (l₀ l : List ℕ) : Type 0 where
  pub kept : length l ≡ length l₀
  pub bits : (i b : ℕ) → i < 64 → b < 64 → bit b (get_or l i 0) ≡ bit (crossed j b i) (get_or l₀ (crossed j i b) 0)

-- the pair of row i: 32 pairs of rows differ in the bit of width j alone, counted upwards
unfoldable pub pair_number : ℕ → ℕ → ℕ
pair_number j i = i / (2 * j) * j + i % j

-- the rows of the pairs from m to n - 1 alone have done so
pub record ExchangedPairs (j m n : ℕ) (l₀ l : List ℕ) : Type 0 where
  pub kept : length l ≡ length l₀
  pub bits : (i b : ℕ) → i < 64 → b < 64 → m ≤ pair_number j i → pair_number j i < n → bit b (get_or l i 0) ≡ bit (crossed j b i) (get_or l₀ (crossed j i b) 0)
  pub rest : (i : ℕ) → i < 64 → (pair_number j i < m) ⊎ (n ≤ pair_number j i) → get_or l i 0 ≡ get_or l₀ i 0

-- the six widths, each with the mask of the columns whose bit of that width is clear
pub data Width : ℕ → ℕ → Type 0 where
  by32 : Width 32 4294967295
  by16 : Width 16 281470681808895
  by8 : Width 8 71777214294589695
  by4 : Width 4 1085102592571150095
  by2 : Width 2 3689348814741910323
  by1 : Width 1 6148914691236517205

-- a block, a run of j pairs, their width and its mask
pub record ForExchangeRun (block : List ℕ) (t j mask : ℕ) : Type 0 where
  pub size : length block ≡ 64
  pub width : Width j mask
  pub within : j * t + j ≤ 32

-- a block, a width and its mask
pub record ForExchange (block : List ℕ) (j mask : ℕ) : Type 0 where
  pub size : length block ≡ 64
  pub width : Width j mask
