-- The number of the outcome is what the outcome is told by.
-- Assumes nothing.
use mathlib.Core.Path.{◌∙◌}
use Rattle.wave_signer.proofs.wave_draw.Goals as goal

pub returns : goal.returns
returns c =
    let (answer, word, s, work) = c.draw-outcome.ensures in (c.code.ensures ∙ answer, word, s, work)
