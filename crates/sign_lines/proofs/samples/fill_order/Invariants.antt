-- Each place is the one before turned on, is below the length, and is written in its turn.
-- Assumes nothing.
use mathlib.Core.Path.{◌≡◌}
use Prim.Native.Nat.{◌<◌}
use lib.ListN.{take}
use Rattle.sign_lines.specs.{ring_place, ring_order}
use Rattle.sign_lines.proofs.samples.fill_order.Given as goal

abbrev pub invariant-loop-item : goal.invariant-loop-item
invariant-loop-item l =
    (l.q < l.n) × (l.q ≡ ring_place l.n l.a l.b l.item-index) × (take l.item-index l.order ≡ ring_order l.n l.a l.b l.item-index)
