-- Each turn copies one place: p is the first places of the order, and then its own (`copy_turn`).
-- Assumes nothing.
use Prim.Native.Nat.{◌≤◌}
use mathlib.Core.Path.{◌≡◌}
use mathlib.Core.List.{◌++◌}
use lib.ListN.{length, take, drop}
use Rattle.build_release.proofs.order.copy_order.Given as goal

abbrev pub invariant-loop-i : goal.invariant-loop-i
invariant-loop-i l =
    (l.i ≤ length l.order) × (length l.p ≡ length l.initial.p) × (l.p ≡ take l.i l.order ++ drop l.i l.initial.p)
