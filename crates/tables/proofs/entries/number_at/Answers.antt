-- The bits of the two planes at the place are 0 or 1, and not both 1: the first and twice the second make the number (`number_read`).
-- Assumes nothing.
use Rattle.tables.proofs.Numbers.{number_read}
use Rattle.tables.proofs.entries.number_at.Goals as goal

pub returns : goal.returns
returns c =
    number_read c.args.p c.requires.row
