-- The number of the outcome is what the outcome is told by.
-- Assumes nothing.
use mathlib.Core.Path.{◌∙◌}
use Rattle.wave_signer.proofs.wave_build.Goals as goal

pub returns : goal.returns
returns c =
    let (answer, order, key, work) = c.build-outcome.ensures in (c.code.ensures ∙ answer, order, key, work)
