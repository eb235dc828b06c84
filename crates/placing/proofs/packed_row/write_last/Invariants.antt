-- A turn appends one byte, whose trits are the next of the row (`byte_next`).
-- Assumes nothing.
use Prim.Native.Nat.{◌*◌, ◌≤◌}
use mathlib.Core.Path.{◌≡◌}
use lib.ListN.{length}
use Rattle.packed.specs.Packed.{packed_row}
use Rattle.placing.specs.Steps.{Written}
use Rattle.placing.proofs.packed_row.write_last.Given as goal

abbrev pub invariant-loop-i : goal.invariant-loop-i
invariant-loop-i l =
    (l.i ≤ length l.bytes) × (l.w.at ≡ 5 * l.i) × Written (packed_row l.bytes) (length l.initial.ones) l.ones l.twos l.w
