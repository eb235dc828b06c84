-- Each turn picks one column more (`patch_more`), and the columns stand before what is written.
-- Assumes nothing.
use mathlib.Core.Path.{◌∙◌}
use Prim.Native.Nat.{◌+◌, ◌*◌}
use native.Mathlib.Omega.{arith}
use lib.ListN.{get_or}
use Rattle.trits.proofs.Patches.{patch_more}
use Rattle.gathering.proofs.Blocks.{picked_same}
use Rattle.gathering.proofs.gather.pick_block.Goals as goal

pub loop-x-preserved : goal.loop-x-preserved
loop-x-preserved c =
    let l = c.loop-x in
    let a = c.args in
    patch_more l.invariant (64 * a.w + l.x) c.pick.result (omega arith) (omega arith)
    (c.pick.ensures
    ∙ picked_same (λ q. get_or l.work q 0) (λ q. get_or a.work.now q 0) a.order.now a.m (64 * a.c + l.x)
    (λ j h. l.invariant.below (get_or a.order.now j 0) (c.requires.places j (omega (arith, c.requires.front)))))
