-- A block without a pivot leaves the rows as they are (`no_block`).
-- Assumes nothing.
use Rattle.lowering.proofs.Passing.{no_block}
use Rattle.lowering.proofs.lower.pass_block.Goals as goal

pub returns-then-k-eq0 : goal.returns-then-k-eq0
returns-then-k-eq0 c =
    let e = c.take_block-k.ensures in
    record {
      rows = e.rows;
      advanced = no_block e.block e.ended.none c.if-k-eq0.true;
    }
