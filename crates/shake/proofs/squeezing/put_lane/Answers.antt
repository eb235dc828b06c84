-- The bytes of a number, the lowest first, are those of the lane.
-- Assumes nothing.
use mathlib.Core.Path.{refl, ◌∙◌}
use native.Mathlib.Nat.{div-one}
use Rattle.trits.specs.Planes.{tabulate}
use Rattle.shake.specs.Steps.{lane_bytes}
use Rattle.shake.proofs.squeezing.put_lane.Goals as goal

pub returns : goal.returns
unfolding lane_bytes tabulate
returns c = c.copy_from_slice.ensures.after ∙ c.to_le_bytes.ensures ∙ rw (div-one c.args.lane) refl
