-- The answer of `check_text`, told in numbers.
-- Assumes nothing.
use mathlib.Core.Path.{◌∙◌}
use Rattle.wave_checker.proofs.wave_check_text.Goals as goal

pub returns : goal.returns
returns c =
    let (answer, work_ones, work_twos) = c.check_text.ensures in
    (c.from.ensures ∙ answer, work_ones, work_twos)
