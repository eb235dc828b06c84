-- What the inner functions do with bytes: their trits as pieces of a row, a plane that is being written, one step of a stream, and the bytes of a row.
-- Assumes nothing.
use Rattle.std.specs.Prelude.{◌≡◌, cond, List, ℕ, ◌+◌, ◌-◌, ◌*◌, ◌/◌, ◌%◌, ◌^◌, ◌<◌, ltb, length, get_or}
use Rattle.trits.specs.Trit.{Trit, one, two, trit_of}
use Rattle.trits.specs.Planes.{bit, from_bits, tabulate}
use Rattle.packed.specs.Packed.{byte_table}

-- ---- several trits at once

-- the first trits of a vector, so many of them, as one number: the bits of their ones, and those of their twos times 2 ^ 32
unfoldable pub piece_of : (ℕ → Trit) → ℕ → ℕ
piece_of v count = from_bits (λ k. one (v k)) count + 2 ^ 32 * from_bits (λ k. two (v k)) count

-- the masks of the bytes from 0 to 242: the piece of the five trits that the byte table has for each
unfoldable pub byte_masks : List ℕ
byte_masks = tabulate (λ b. piece_of (λ k. trit_of (get_or byte_table (b * 5 + k) 0)) 5) 243

-- a plane of n words that is written up to the place `at`: the words before it are those of the bits f, and `rest` has the bits of the word that is begun
pub record PlaneWritten (f : ℕ → ℕ) (n at : ℕ) (plane : List ℕ) (rest : ℕ) : Type 0 where
  pub size : length plane ≡ n
  pub words : (j : ℕ) → j < at / 64 → get_or plane j 0 ≡ from_bits (λ b. f (64 * j + b)) 64
  pub begun : rest ≡ from_bits (λ b. f (64 * (at / 64) + b)) (at % 64)

-- ---- one step of a stream

-- how many trits the byte b gives where `at` of m are there: none if it is skipped, else five or as many as are missing
unfoldable pub gives : ℕ → ℕ → ℕ → ℕ
gives m at b = cond (ltb b 243) (cond (ltb (m - at) 5) (m - at) 5) 0

-- how many trits are missing after the byte b, where `left` were before it
unfoldable pub missing : ℕ → ℕ → ℕ
missing left b = cond (ltb b 243) (left - 5) left

-- ---- five trits of a row as a byte

-- the lowest five bits of n as digits to the base 3: bit k counts 3 ^ k
unfoldable pub five_digits : ℕ → ℕ
five_digits n = bit 0 n + 3 * bit 1 n + 9 * bit 2 n + 27 * bit 3 n + 81 * bit 4 n

-- the table of these numbers
unfoldable pub digit_values : List ℕ
digit_values = tabulate five_digits 32

-- the byte of five trits, whose bits are the lowest five of x, from the ones, and of y, from the twos
unfoldable pub five_trits : ℕ → ℕ → ℕ
five_trits x y = five_digits x + 2 * five_digits y

-- byte k of the trits whose bits are those of x and of y
unfoldable pub byte_from : ℕ → ℕ → ℕ → ℕ
byte_from x y k = five_trits (x / 2 ^ (5 * k)) (y / 2 ^ (5 * k))
