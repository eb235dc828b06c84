-- After i turns the arrays are those after i rounds (`Ran`).
-- Assumes nothing.
use native.Mathlib.Omega.{arith}
use Rattle.keccak.proofs.Lanes.{ran_none, ran_next, ran_all}
use Rattle.keccak.proofs.Rules.{constant_at}
use Rattle.keccak.proofs.permute.Goals as goal

pub loop-constant-init : goal.loop-constant-init
loop-constant-init c = ran_none _

pub loop-constant-preserved : goal.loop-constant-preserved
loop-constant-preserved c =
    let i = c.loop-constant.constant-index in
    ran_next c.loop-constant.invariant (constant_at c.round_constants-constants.ensures i (omega arith)) c.round-next.ensures

pub returns : goal.returns
returns c = ran_all c.loop-constant.invariant (omega arith)
