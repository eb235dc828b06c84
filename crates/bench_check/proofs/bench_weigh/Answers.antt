-- The answer of `check_times`, told in numbers.
-- Assumes nothing.
use mathlib.Core.Path.{◌∙◌}
use Rattle.bench_check.proofs.bench_weigh.Goals as goal

pub returns : goal.returns
returns c =
    let (answer, work_ones, work_twos) = c.check_times.ensures in
    (c.from.ensures ∙ answer, work_ones, work_twos)
