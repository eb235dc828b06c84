-- A turn writes one lane: eight bytes more of the state (`lane_put`).
-- Assumes nothing.
use mathlib.Core.Path.{refl}
use native.Mathlib.Omega.{arith}
use Rattle.trits.proofs.Patches.{patch_none, patched_all}
use Rattle.keccak.specs.Lanes.{lane_at}
use Rattle.shake.specs.Shake.{rate}
use Rattle.shake.specs.Steps.{state_bytes}
use Rattle.shake.proofs.Sponge.{lane_put}
use Rattle.shake.proofs.squeezing.block_of.Goals as goal

pub loop-j-init : goal.loop-j-init
loop-j-init c = (omega arith, patch_none _ _ _)

pub loop-j-preserved : goal.loop-j-preserved
unfolding lane_at
loop-j-preserved c =
    let a = c.args.a in
    let l = c.loop-j in
    let made = c.put_lane.ensures in
    (omega arith, lane_put (lane_at a) l.j (omega (arith, l.invariant.1.kept)) l.invariant.1 made)

pub returns : goal.returns
unfolding state_bytes
returns c =
    patched_all rate c.loop-j.invariant.1 refl (omega arith)
