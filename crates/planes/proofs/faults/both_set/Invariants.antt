-- The bits that both planes have are gathered word by word; one is set where some place has both (`both_turn`).
-- Assumes nothing.
use Prim.Native.Nat.{ℕ, ◌*◌, ◌≤◌, ◌<◌}
use mathlib.Core.Path.{◌≡◌}
use lib.ListN.{length, get_or}
use mir.Syntax.{w64}
use mir.Val.{Fits}
use Rattle.trits.specs.Planes.{both_at}
use Rattle.trits.specs.Trit.{any_to}
use mathlib.Core.Bool.{not}
use lib.Dec.{eqb}
use Rattle.planes.proofs.faults.both_set.Given as goal

abbrev pub invariant-loop-i : goal.invariant-loop-i
invariant-loop-i l =
    (l.i ≤ length l.ones) × (not (eqb l.both 0) ≡ any_to (both_at l.ones l.twos) (64 * l.i))
    × ((j : ℕ) → j < l.i → Fits w64 (get_or l.ones j 0)) × ((j : ℕ) → j < l.i → Fits w64 (get_or l.twos j 0))
