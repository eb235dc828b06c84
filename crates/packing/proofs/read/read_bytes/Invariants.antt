-- A turn writes twelve bytes more, or all that are left (`bytes_turn`); the row is 0 past its length, so that the bytes are those of its first m trits.
-- Assumes nothing.
use Prim.Native.Nat.{◌*◌, min}
use lib.ListN.{length}
use Rattle.trits.specs.Planes.{trit_at}
use Rattle.trits.proofs.Patches.{Patched}
use Rattle.packed.specs.Packed.{byte_of}
use Rattle.packing.proofs.read.read_bytes.Given as goal

abbrev pub invariant-loop-k : goal.invariant-loop-k
invariant-loop-k l =
    Patched (byte_of (trit_at l.row.ones.now l.row.twos.now)) 0 (min (12 * l.k) (length l.initial.bytes)) l.initial.bytes l.bytes
