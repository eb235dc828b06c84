-- The bits that stay are moved up, and those that leave come below them (`rotated_left`).
-- Assumes nothing.
use mathlib.Core.Path.{◌∙◌}
use Rattle.keccak.proofs.Rules.{rotated_left}
use Rattle.keccak.proofs.steps.rotate.Goals as goal

pub returns : goal.returns
returns c = c.rotate_left.ensures ∙ rotated_left c.args.lane c.args.k c.requires c.ranges.lane.fits
