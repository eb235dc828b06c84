-- What the inner functions ask and do. No rule of the standard: code is tied to it. Assumes nothing.
use Rattle.std.specs.Prelude.{cond, List, ◌++◌, ℕ, ◌+◌, ◌*◌, ◌/◌, ◌%◌, ◌^◌, ◌≤◌, ◌<◌, eqb, length}
use Rattle.trits.specs.Planes.{tabulate}
use Rattle.keccak.specs.Keccak.{permuted}
use Rattle.keccak.specs.Lanes.{lane_at, lanes_of}
use Rattle.shake.specs.Shake.{rate, padded_byte, added, state_byte}

-- what the padding puts at place i of a message of so many bytes
unfoldable pub pad_of : ℕ → ℕ → ℕ
pad_of size i = cond (eqb i size) 31 0 + cond (eqb (i + 1) (rate * (size / rate + 1))) 128 0

-- n bytes of the padded message from a place on
unfoldable pub block_from : List ℕ → ℕ → ℕ → List ℕ
block_from message start n = tabulate (λ i. padded_byte message (start + i)) n

-- the arrays of a state after one block more, that from a place on
unfoldable pub absorbed_block : List ℕ → ℕ → List (List ℕ) → List (List ℕ)
absorbed_block message start a = lanes_of (permuted (added (λ i. padded_byte message (start + i)) (lane_at a)))

-- the eight bytes of a lane, the lowest first
unfoldable pub lane_bytes : ℕ → List ℕ
lane_bytes lane = tabulate (λ k. lane / 2 ^ (8 * k) % 256) 8

-- the bytes of a state that come out, from the arrays that hold it
unfoldable pub state_bytes : List (List ℕ) → List ℕ
state_bytes a = tabulate (state_byte (lane_at a)) rate

-- a number of bytes, and a place, after which a block, and a byte, can still be counted in a word
pub record ForPad (size i : ℕ) : Type 0 where
  pub block_fits : size + rate < 18446744073709551616
  pub byte_fits : i + 1 < 18446744073709551616

-- the two parts of a message: the first is short, so that no place of the padded message is past the numbers of a word
pub record ForMessage (first last : List ℕ) : Type 0 where
  pub short : length first ≤ rate
  pub fits : length last < 9223372036854775808

-- and a place of the padded message
pub record ForPlace (first last : List ℕ) (i : ℕ) : Type 0 where
  pub message : ForMessage first last
  pub place : i ≤ length (first ++ last) + rate

-- n bytes of the padded message from a place on
pub record ForBlock (first last : List ℕ) (start n : ℕ) : Type 0 where
  pub message : ForMessage first last
  pub place : start + n ≤ length (first ++ last) + rate
