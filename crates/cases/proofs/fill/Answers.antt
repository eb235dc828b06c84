-- A turn writes one byte, and the next one is seven more modulo 243.
-- Assumes nothing.
use mathlib.Core.Path.{refl}
use native.Mathlib.Omega.{arith}
use Rattle.trits.proofs.Patches.{patch_none, patch_more, patched_all}
use Rattle.cases.proofs.fill.Goals as goal

pub loop-byte-init : goal.loop-byte-init
loop-byte-init c = (omega arith, patch_none _ _ _)

pub loop-byte-preserved : goal.loop-byte-preserved
loop-byte-preserved c =
    let l = c.loop-byte in
    let p = l.invariant in
    (omega (arith, c.next-x.ensures, p.0), patch_more p.1 l.byte-index _ (omega arith) (omega arith) p.0)

pub returns : goal.returns
returns c = patched_all _ c.loop-byte.invariant.1 refl (omega arith)
