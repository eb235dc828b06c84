-- Each turn marks one place more (`marked_turn`).
-- Assumes nothing.
use Prim.Native.Nat.{◌≤◌}
use mathlib.Core.Path.{◌≡◌}
use lib.ListN.{length, take}
use Rattle.calls.specs.Steps.{Marked}
use Rattle.calls.proofs.order.mark_places.Given as goal

abbrev pub invariant-loop-place : goal.invariant-loop-place
invariant-loop-place l =
    ((l.place-index ≤ length l.order) × (length l.flags ≡ length l.initial.flags)) × Marked l.n (take l.place-index l.order) l.flags
