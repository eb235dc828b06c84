-- A turn writes one lane: eight bytes more of the state (`lane_put`).
-- Assumes nothing.
use Prim.Native.Nat.{◌*◌, ◌≤◌}
use Rattle.trits.proofs.Patches.{Patched}
use Rattle.keccak.specs.Lanes.{lane_at}
use Rattle.shake.specs.Shake.{state_byte}
use Rattle.shake.proofs.squeezing.block_of.Given as goal

abbrev pub invariant-loop-j : goal.invariant-loop-j
invariant-loop-j l = (l.j ≤ 17) × Patched (state_byte (lane_at l.a)) 0 (8 * l.j) l.initial.block l.block
