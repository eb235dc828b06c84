-- The constant comes to the lane where x and y are 0, and to no other.
-- Assumes nothing.
use Rattle.keccak.specs.Lanes.{lane_at}
use Rattle.keccak.proofs.Rules.{iota_origin, iota_elsewhere}
use Rattle.keccak.proofs.steps.iota_lane.Goals as goal

pub returns-then-x-y-eq0 : goal.returns-then-x-y-eq0
unfolding lane_at
returns-then-x-y-eq0 c =
    let a = c.args in
    iota_origin a.constant (lane_at a.a) a.x a.y c.if-x-y-eq0.true

pub returns-else-x-y-eq0 : goal.returns-else-x-y-eq0
unfolding lane_at
returns-else-x-y-eq0 c =
    let a = c.args in
    iota_elsewhere a.constant (lane_at a.a) a.x a.y c.if-x-y-eq0.false
