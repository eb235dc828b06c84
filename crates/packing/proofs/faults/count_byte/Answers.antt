-- A byte above 242 gives nothing; any other gives five trits, or all that are missing.
-- Assumes nothing.
use mathlib.Core.Path.{◌∙◌}
use native.Mathlib.Omega.{arith}
use Rattle.packed.proofs.Keeping.{missing_skipped, missing_five}
use Rattle.packing.proofs.faults.count_byte.Goals as goal

pub returns-then-b-gt242 : goal.returns-then-b-gt242
returns-then-b-gt242 c =
    missing_skipped c.args.left c.args.b (omega arith)

pub returns-else-b-gt242 : goal.returns-else-b-gt242
returns-else-b-gt242 c =
    c.saturating_sub.ensures ∙ missing_five c.args.left c.args.b (omega arith)
