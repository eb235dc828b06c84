-- Its sheets are the five after the block.
-- Assumes nothing.
use Rattle.keccak.specs.Lanes.{lanes_of}
use Rattle.shake.proofs.block.add_block.Goals as goal

pub returns : goal.returns
unfolding lanes_of
returns c = cc
