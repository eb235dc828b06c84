-- Each of the five lanes is xored with the same two parities.
-- Assumes nothing.
use Rattle.keccak.specs.Keccak.{theta}
use Rattle.keccak.specs.Lanes.{lane_at, sheet_of}
use Rattle.keccak.proofs.steps.theta_sheet.Goals as goal

pub returns : goal.returns
unfolding lane_at sheet_of theta
returns c = cc
