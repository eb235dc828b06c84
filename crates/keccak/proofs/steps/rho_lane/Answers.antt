-- The lane is rotated by its offset, which is below 64.
-- Assumes nothing.
use Rattle.keccak.specs.Keccak.{rho}
use Rattle.keccak.specs.Lanes.{lane_at}
use Rattle.keccak.proofs.Rules.{offset_small}
use Rattle.keccak.proofs.steps.rho_lane.Goals as goal

pub rotate-requires : goal.rotate-requires
rotate-requires c =
    rw c.offset.ensures (offset_small c.args.x c.args.y)

pub returns : goal.returns
unfolding lane_at rho
returns c = cc
