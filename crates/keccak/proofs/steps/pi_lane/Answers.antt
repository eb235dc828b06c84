-- The lane is read where the definition reads it.
-- Assumes nothing.
use mathlib.Core.Path.{refl}
use Rattle.keccak.specs.Keccak.{pi}
use Rattle.keccak.specs.Lanes.{lane_at}
use Rattle.keccak.proofs.steps.pi_lane.Goals as goal

pub returns : goal.returns
unfolding lane_at pi
returns c = refl
