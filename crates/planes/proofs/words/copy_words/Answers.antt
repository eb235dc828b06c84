-- The row writer is lent the whole plane, so nothing of the plane is left behind the row.
-- Assumes nothing.
use Rattle.trits.proofs.Lists.{copied}
use Rattle.planes.proofs.words.copy_words.Goals as goal

pub returns : goal.returns
returns c =
    copied _ _ c.write_row.ensures c.requires
