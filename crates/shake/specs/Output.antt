-- An output that is read byte by byte. No rule of the standard: code is tied to it. Assumes nothing.
use Rattle.std.specs.Prelude.{◌≡◌, List, ℕ, ◌+◌, ◌/◌, ◌%◌, ◌<◌}
use Rattle.keccak.specs.Keccak.{State}
use Rattle.keccak.specs.Lanes.{lane_at}
use Rattle.shake.specs.Shake.{rate, squeezed, squeezed_byte}
use Rattle.shake.specs.Steps.{state_bytes}
use Rattle.shake.specs.declared.squeezing.Output.{Output}

-- the output of the arrays a, of which no byte is taken
abbrev pub output_of : List (List ℕ) → Output
output_of a = record { state = a; block = state_bytes a; place = 0 }

-- byte i of the output of a state is at place p of a block, the bytes of the arrays b
pub record Gives (s : State) (i : ℕ) (b : List (List ℕ)) (block : List ℕ) (p : ℕ) : Type 0 where
  pub reads : (x y : ℕ) → x < 5 → y < 5 → lane_at b x y ≡ squeezed s (i / rate) x y
  pub bytes : block ≡ state_bytes b
  pub place : p ≡ i % rate

-- a byte taken: of whatever state's output the byte was the next, it is that byte, and the one after it is the next
pub record Taken (before : Output) (byte : ℕ) (after : Output) : Type 0 where
  pub is_next : {s : State} {i : ℕ} → Gives s i before.state before.block before.place → byte ≡ squeezed_byte s i
  pub goes_on : {s : State} {i : ℕ} → Gives s i before.state before.block before.place → Gives s (i + 1) after.state after.block after.place
