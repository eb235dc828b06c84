-- Each turn loads one word more.
-- Assumes nothing.
use Prim.Native.Nat.{◌+◌, ◌*◌}
use lib.ListN.{get_or}
use Rattle.trits.proofs.Patches.{Patched}
use Rattle.gathering.proofs.gather.load_block.Given as goal

abbrev pub invariant-loop-x : goal.invariant-loop-x
invariant-loop-x l =
    Patched (λ y. get_or l.h ((l.i + y) * l.w + l.c) 0) 0 l.x l.initial.block l.block
