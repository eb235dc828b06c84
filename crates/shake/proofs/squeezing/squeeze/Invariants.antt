-- A turn writes the next byte of the output (`Gives`).
-- Assumes nothing.
use Rattle.trits.proofs.Patches.{Patched}
use Rattle.keccak.specs.Lanes.{lane_at}
use Rattle.shake.specs.Shake.{squeezed_byte}
use Rattle.shake.specs.Output.{Gives}
use Rattle.shake.proofs.squeezing.squeeze.Given as goal

abbrev pub invariant-loop-byte : goal.invariant-loop-byte
invariant-loop-byte l =
    Patched (squeezed_byte (lane_at l.fn.a)) 0 l.byte-index l.initial.bytes l.bytes
    × Gives (lane_at l.fn.a) l.byte-index l.output.state l.output.block l.output.place
