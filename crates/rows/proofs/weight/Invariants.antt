-- A turn adds the number of bits set in one word of either plane, which is the number of its places that are not 0 (`weight_turn`).
-- Assumes nothing.
use Prim.Native.Nat.{◌*◌, ◌≤◌}
use mathlib.Core.Path.{◌≡◌}
use lib.ListN.{length}
use Rattle.trits.specs.Planes.{trit_at}
use Rattle.trits.specs.Trit.{weight_v}
use Rattle.rows.proofs.weight.Given as goal

abbrev pub invariant-loop-i : goal.invariant-loop-i
invariant-loop-i l =
    (l.i ≤ length l.ones) × (l.sum ≡ weight_v (trit_at l.ones l.twos) (64 * l.i))
