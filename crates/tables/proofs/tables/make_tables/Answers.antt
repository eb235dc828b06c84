-- The three tables stand one after another, and none changes what the next is made of (`tables_made`).
-- Assumes nothing.
use Rattle.tables.proofs.Fills.{tables_made}
use Rattle.tables.proofs.tables.make_tables.Goals as goal

pub returns : goal.returns
returns c =
    record {
      rows = c.make_table-3.ensures.rows;
      tables = tables_made c.make_table.ensures.table c.make_table-2.ensures.table c.make_table-3.ensures.table;
    }
