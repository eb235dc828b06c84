-- The tables are those of the block's rows, and each row loses its own entries (`cleared_by`); where there is no row nothing is to do.
-- Assumes nothing.
use Rattle.tables.proofs.Takes.{cleared_by}
use Rattle.tables.proofs.tables.clear_by_tables.Goals as goal

pub returns : goal.returns
returns c =
    let e = c.take_rows.ensures in
    record {
      rows = e.rows;
      cleared = cleared_by c.requires.end c.make_tables.ensures.tables e.taken;
    }
