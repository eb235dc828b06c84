-- A turn appends the piece of six bytes, which are the next trits of the row (`six_next`).
-- Assumes nothing.
use Prim.Native.Nat.{◌*◌}
use mathlib.Core.Path.{◌≡◌}
use lib.ListN.{length}
use Rattle.packed.specs.Packed.{packed_row}
use Rattle.placing.specs.Steps.{Written}
use Rattle.placing.proofs.packed_row.write_sixes.Given as goal

abbrev pub invariant-loop-six : goal.invariant-loop-six
invariant-loop-six l =
    (l.w.at ≡ 30 * l.six) × Written (packed_row l.bytes) (length l.initial.ones) l.ones l.twos l.w
