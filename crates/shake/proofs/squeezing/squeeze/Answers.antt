-- A turn writes the next byte of the output (`Gives`).
-- Assumes nothing.
use mathlib.Core.Path.{refl}
use native.Mathlib.Omega.{arith}
use Rattle.trits.proofs.Patches.{patch_none, patch_more, patched_all}
use Rattle.shake.specs.Shake.{squeezed_bytes}
use Rattle.shake.proofs.Sponge.{output_gives, in_block}
use Rattle.shake.proofs.squeezing.squeeze.Goals as goal

pub loop-byte-init : goal.loop-byte-init
loop-byte-init c = (patch_none _ _ _, output_gives _ c.of-output.ensures)

pub next-requires : goal.next-requires
next-requires c = in_block c.loop-byte.invariant.1

pub loop-byte-preserved : goal.loop-byte-preserved
loop-byte-preserved c =
    let l = c.loop-byte in
    let t = c.next.ensures in
    (patch_more l.invariant.0 l.byte-index _ (omega arith) (omega arith) (t.is_next l.invariant.1), t.goes_on l.invariant.1)

pub returns : goal.returns
unfolding squeezed_bytes
returns c = patched_all _ c.loop-byte.invariant.0 refl (omega arith)
