-- Its lanes are the five of the step at x.
-- Assumes nothing.
use Rattle.keccak.specs.Lanes.{sheet_of}
use Rattle.keccak.proofs.steps.chi_sheet.Goals as goal

pub returns : goal.returns
unfolding sheet_of
returns c = cc
