-- Each turn loads one word more (`patch_more`), and the rows stand before what is written.
-- Assumes nothing.
use Prim.Native.Nat.{◌+◌, ◌*◌}
use lib.ListN.{get_or, take}
use Rattle.trits.proofs.Patches.{Patched}
use Rattle.gathering.proofs.own.load_own.Given as goal

abbrev pub invariant-loop-x : goal.invariant-loop-x
invariant-loop-x l =
    Patched (λ y. get_or (take (l.r * l.w) l.initial.plane) ((l.i + y) * l.w + l.c) 0) l.at l.x l.initial.plane l.plane
