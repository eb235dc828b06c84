-- Each turn picks one column more (`patch_more`), and the columns stand before what is written.
-- Assumes nothing.
use Prim.Native.Nat.{◌+◌, ◌*◌}
use lib.ListN.{length, get_or}
use Rattle.trits.proofs.Patches.{Patched}
use Rattle.gathering.specs.Steps.{picked}
use Rattle.build_columns.specs.Steps.{columns_in}
use Rattle.build_columns.proofs.gather_own.pick_own_block.Given as goal

abbrev pub invariant-loop-x : goal.invariant-loop-x
invariant-loop-x l =
    Patched (λ y. picked (λ q. get_or l.initial.work q 0) (columns_in l.places) (length l.places.order.now) (64 * l.c + y)) (64 * l.w) l.x
    l.initial.work l.work
