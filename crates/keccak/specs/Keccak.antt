-- The permutation Keccak-p[1600, 24] of FIPS 202 (request C-12; the standard's sections 3.1 to 3.4): 24 rounds of five steps on 25 lanes of 64 bits.
-- Assumes nothing.
use Rattle.std.specs.Prelude.{◌&&◌, cond, ℕ, zero, suc, ◌+◌, ◌-◌, ◌*◌, ◌/◌, ◌%◌, ◌^◌, eqb, ltb}
use Rattle.std.specs.Int.Bits.{bit_and, bit_xor}

-- a state: the number in lane (x, y), x and y from 0 to 4; bit z of it is the standard's bit (x, y, z)
abbrev pub State : Type 0
State = ℕ → ℕ → ℕ

-- a lane rotated by k bits: bit z goes to bit z + k, and those at the end come to the beginning
unfoldable pub rotated : ℕ → ℕ → ℕ
rotated lane k = lane * 2 ^ k % 2 ^ 64 + lane / 2 ^ (64 - k)

-- a lane with each of its bits the other way
unfoldable pub flipped : ℕ → ℕ
flipped lane = 2 ^ 64 - 1 - lane

-- ---- theta (3.2.1): to each lane come the parities of the columns at x - 1 and, rotated by one, at x + 1

unfoldable pub parity : State → ℕ → ℕ
parity a x = bit_xor (bit_xor (bit_xor (bit_xor (a x 0) (a x 1)) (a x 2)) (a x 3)) (a x 4)

unfoldable pub two_parities : State → ℕ → ℕ
two_parities a x = bit_xor (parity a ((x + 4) % 5)) (rotated (parity a ((x + 1) % 5)) 1)

unfoldable pub theta : State → State
theta a x y = bit_xor (a x y) (two_parities a x)

-- ---- rho (3.2.2): each lane is rotated by its offset

-- the walk over the places: it begins at (1, 0), and goes from (x, y) to (y, 2x + 3y)
pub record Place : Type 0 where
  pub x : ℕ
  pub y : ℕ

unfoldable pub walk : ℕ → Place
walk zero = record { x = 1; y = 0 }
walk (suc t) = record { x = (walk t).y; y = (2 * (walk t).x + 3 * (walk t).y) % 5 }

-- the place met at step t, from 0 to 23, has the offset (t + 1) (t + 2) / 2; the place (0, 0), which is never met, has 0
unfoldable pub offset_before : ℕ → ℕ → ℕ → ℕ
offset_before zero x y = 0
offset_before (suc t) x y = cond (eqb x (walk t).x && eqb y (walk t).y) ((t + 1) * (t + 2) / 2 % 64) (offset_before t x y)

unfoldable pub offset : ℕ → ℕ → ℕ
offset x y = offset_before 24 x y

unfoldable pub rho : State → State
rho a x y = rotated (a x y) (offset x y)

-- ---- pi (3.2.3): the lanes change places

unfoldable pub pi : State → State
pi a x y = a ((x + 3 * y) % 5) x

-- ---- chi (3.2.4): to each lane come the bits of the second lane after it where those of the first are 0

unfoldable pub chi : State → State
chi a x y = bit_xor (a x y) (bit_and (flipped (a ((x + 1) % 5) y)) (a ((x + 2) % 5) y))

-- ---- iota (3.2.5): the constant of the round comes to lane (0, 0)

-- the register of eight bits, its first bit lowest: a step moves each bit up by one, and a bit that leaves comes back at 0, 4, 5 and 6
unfoldable pub register : ℕ → ℕ
register zero = 1
register (suc t) = cond (ltb (2 * register t) 256) (2 * register t) (bit_xor (2 * register t) (2 ^ 8 + 2 ^ 6 + 2 ^ 5 + 2 ^ 4 + 1))

-- the bit that it gives at step t
unfoldable pub register_bit : ℕ → ℕ
register_bit t = register (t % 255) % 2

-- the constant of round i: bit 2^j - 1 is that of step j + 7i, for j from 0 to 6; all others are 0
unfoldable pub constant_before : ℕ → ℕ → ℕ
constant_before zero i = 0
constant_before (suc j) i = constant_before j i + register_bit (j + 7 * i) * 2 ^ (2 ^ j - 1)

unfoldable pub round_constant : ℕ → ℕ
round_constant i = constant_before 7 i

unfoldable pub iota : ℕ → State → State
iota constant a x y = cond (eqb x 0 && eqb y 0) (bit_xor (a x y) constant) (a x y)

-- ---- the permutation (3.3, 3.4)

unfoldable pub round : ℕ → State → State
round constant a = iota constant (chi (pi (rho (theta a))))

-- the rounds before round i
unfoldable pub rounds_before : ℕ → State → State
rounds_before zero a = a
rounds_before (suc i) a = round (round_constant i) (rounds_before i a)

unfoldable pub permuted : State → State
permuted a = rounds_before 24 a
