-- The answer of `check`, told in numbers.
-- Assumes nothing.
use mathlib.Core.Path.{◌∙◌}
use Rattle.bench_check.proofs.bench_check.Goals as goal

pub returns : goal.returns
returns c =
    let (answer, work_ones, work_twos) = c.check.ensures in
    (c.from.ensures ∙ answer, work_ones, work_twos)
