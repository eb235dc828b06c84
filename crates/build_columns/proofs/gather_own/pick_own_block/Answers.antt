-- Each turn picks one column more (`patch_more`), and the columns stand before what is written.
-- Assumes nothing.
use mathlib.Core.Path.{◌∙◌}
use Prim.Native.Nat.{◌+◌, ◌*◌}
use native.Mathlib.Omega.{arith}
use lib.ListN.{length, get_or}
use Rattle.trits.proofs.Patches.{patch_more}
use Rattle.gathering.proofs.Blocks.{picked_same}
use Rattle.build_columns.specs.Steps.{columns_of}
use Rattle.build_columns.proofs.Columns.{columns_below}
use Rattle.build_columns.proofs.gather_own.pick_own_block.Goals as goal

pub loop-x-preserved : goal.loop-x-preserved
loop-x-preserved c =
    let l = c.loop-x in
    let a = c.args in
    let order = a.places.order.now in
    let columns = columns_of a.places.half a.places.hw order in
    patch_more l.invariant (64 * a.w + l.x) c.pick_own.result (omega arith) (omega arith)
    (c.pick_own.ensures ∙ picked_same (λ q. get_or l.work q 0) (λ q. get_or a.work.now q 0) columns (length order) (64 * a.c + l.x)
    (λ j h. l.invariant.below (get_or columns j 0) (columns_below c.requires.halves j h)))
