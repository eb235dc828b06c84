-- The five lanes of the sheet are those of the state at x.
-- Assumes nothing.
use mathlib.Core.Path.{refl}
use Rattle.keccak.specs.Keccak.{parity}
use Rattle.keccak.specs.Lanes.{lane_at}
use Rattle.keccak.proofs.steps.parity.Goals as goal

pub returns : goal.returns
unfolding lane_at parity
returns c = refl
