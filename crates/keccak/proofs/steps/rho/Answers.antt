-- Its sheets are the five of the step.
-- Assumes nothing.
use Rattle.keccak.specs.Lanes.{lanes_of}
use Rattle.keccak.proofs.steps.rho.Goals as goal

pub returns : goal.returns
unfolding lanes_of
returns c = cc
