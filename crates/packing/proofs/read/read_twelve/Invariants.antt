-- A turn writes one byte of the part; words that are shifted alike have no bit in both where they had none before (`further_apart`).
-- Assumes nothing.
use Prim.Native.Nat.{◌≤◌}
use lib.ListN.{length}
use Rattle.trits.proofs.Patches.{Patched}
use Rattle.packed.specs.Steps.{byte_from}
use Rattle.packing.proofs.read.read_twelve.Given as goal

abbrev pub invariant-loop-k : goal.invariant-loop-k
invariant-loop-k l = (l.k ≤ length l.initial.part) × Patched (byte_from l.x l.y) 0 l.k l.initial.part l.part
