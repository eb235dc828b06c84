-- The three lanes are read where the definition reads them; `!` flips each of 64 bits.
-- Assumes nothing.
use mathlib.Core.Path.{refl}
use Rattle.keccak.specs.Keccak.{chi, flipped}
use Rattle.keccak.specs.Lanes.{lane_at}
use Rattle.keccak.proofs.steps.chi_lane.Goals as goal

pub returns : goal.returns
unfolding chi flipped lane_at
returns c = refl
