-- A turn adds the bits set in one word of each plane, which are its places that hold 1 and those that hold 2 (`ones_turn`, `twos_turn`).
-- Assumes nothing.
use Prim.Native.Nat.{◌*◌, ◌≤◌}
use mathlib.Core.Path.{◌≡◌}
use lib.ListN.{length}
use Rattle.trits.specs.Planes.{trit_at}
use Rattle.trits.specs.Trit.{ones_v, twos_v}
use Rattle.rows.proofs.count.Given as goal

abbrev pub invariant-loop-i : goal.invariant-loop-i
invariant-loop-i l =
    (l.i ≤ length l.ones) × (l.in_ones ≡ ones_v (trit_at l.ones l.twos) (64 * l.i)) × (l.in_twos ≡ twos_v (trit_at l.ones l.twos) (64 * l.i))
