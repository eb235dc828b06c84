-- The masks make the sum of two trits at every bit (`add_op`), and a turn of the loop makes one word of each plane.
-- Assumes nothing.
use Prim.Native.Nat.{◌+◌}
use mathlib.Core.Path.{◌≡◌, refl}
use native.Mathlib.Omega.{arith}
use Rattle.trits.proofs.Patches.{patch_none, patch_more, patch_here, rows_read}
use Rattle.trits.proofs.WordOps.{add_op}
use Rattle.rows.proofs.add_row.Goals as goal

pub loop-i-init : goal.loop-i-init
loop-i-init c =
    (omega arith, patch_none _ _ _, patch_none _ _ _)

pub loop-i-preserved : goal.loop-i-preserved
loop-i-preserved c =
    let l = c.loop-i in
    let po = l.invariant.1 in
    let pt = l.invariant.2 in
    let z : l.i ≡ 0 + l.i = omega arith in
    let a = patch_here po l.i z in
    let b = patch_here pt l.i z in
    (omega arith, patch_more po l.i _ z (omega arith) (rw (a, b)), patch_more pt l.i _ z (omega arith) (rw (a, b)))

pub returns : goal.returns
returns c =
    let l = c.loop-i in
    let p = c.requires in
    rows_read add_op refl p.row p.source p.size l.invariant.1 l.invariant.2 (omega arith)
