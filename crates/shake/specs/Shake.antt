-- SHAKE256 of FIPS 202 (request C-12; the standard's sections 4, 5.1, 6.2 and B.1): a sponge over the permutation, message and output as bytes.
-- Assumes nothing.
use Rattle.std.specs.Prelude.{cond, List, ℕ, zero, suc, ◌+◌, ◌*◌, ◌/◌, ◌%◌, ◌^◌, eqb, ltb, length, get_or}
use Rattle.std.specs.Int.Bits.{bit_xor}
use Rattle.trits.specs.Planes.{tabulate}
use Rattle.keccak.specs.Keccak.{State, permuted}

-- the rate of 1,088 bits, in bytes: so many go in or come out between two permutations
abbrev pub rate : ℕ
rate = 136

-- ---- the padded message

-- how many blocks it has
unfoldable pub blocks_of : List ℕ → ℕ
blocks_of message = length message / rate + 1

-- after the message come the suffix 1111 and the rule pad10*1: a 1, zeros, and a 1 that ends a block. The first bit of a byte is its lowest: so 15 and
-- 16 are added at the first place after the message, and 128 at the last place of all; these may be one place
unfoldable pub padded_byte : List ℕ → ℕ → ℕ
padded_byte message i = get_or message i 0 + cond (eqb i (length message)) (15 + 16) 0 + cond (eqb (i + 1) (rate * blocks_of message)) 128 0

-- ---- absorbing

-- the eight bytes from place p on as a number, the first lowest
unfoldable pub word_of : (ℕ → ℕ) → ℕ → ℕ
word_of bytes p =
    bytes p + 2 ^ 8 * bytes (p + 1) + 2 ^ 16 * bytes (p + 2) + 2 ^ 24 * bytes (p + 3) + 2 ^ 32 * bytes (p + 4) + 2 ^ 40 * bytes (p + 5)
    + 2 ^ 48 * bytes (p + 6) + 2 ^ 56 * bytes (p + 7)

-- a block comes to the first lanes, eight bytes to each: the lanes are counted along x, and then along y
unfoldable pub added : (ℕ → ℕ) → State → State
added block a x y = cond (ltb (8 * (5 * y + x)) rate) (bit_xor (a x y) (word_of block (8 * (5 * y + x)))) (a x y)

-- the state after j blocks: it begins with zeros
unfoldable pub absorbed : List ℕ → ℕ → State
absorbed message zero = λ x y. 0
absorbed message (suc j) = permuted (added (λ i. padded_byte message (rate * j + i)) (absorbed message j))

-- ---- squeezing

-- byte i of a state
unfoldable pub state_byte : State → ℕ → ℕ
state_byte a i = a (i / 8 % 5) (i / 40) / 2 ^ (8 * (i % 8)) % 256

-- the state from which block j of the output is taken
unfoldable pub squeezed : State → ℕ → State
squeezed a zero = a
squeezed a (suc j) = permuted (squeezed a j)

unfoldable pub squeezed_byte : State → ℕ → ℕ
squeezed_byte a i = state_byte (squeezed a (i / rate)) (i % rate)

-- the first n bytes of the output from a state on, and of SHAKE256 of a message
unfoldable pub squeezed_bytes : State → ℕ → List ℕ
squeezed_bytes a n = tabulate (squeezed_byte a) n

unfoldable pub shake256 : List ℕ → ℕ → List ℕ
shake256 message n = squeezed_bytes (absorbed message (blocks_of message)) n
