-- Of two bits the second counts once more in the digits than in the number of the two (`pairs_made`).
-- Assumes nothing.
use Rattle.tables.proofs.Numbers.{pairs_made}
use Rattle.tables.proofs.entries.pairs.Goals as goal

pub returns : goal.returns
returns c = pairs_made c.args.n
