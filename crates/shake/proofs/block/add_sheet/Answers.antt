-- Its lanes are the five after the block at x.
-- Assumes nothing.
use Rattle.keccak.specs.Lanes.{sheet_of}
use Rattle.shake.proofs.block.add_sheet.Goals as goal

pub returns : goal.returns
unfolding sheet_of
returns c = cc
