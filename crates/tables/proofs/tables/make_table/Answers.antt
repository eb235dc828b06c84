-- Entry 0 is 0, and each filling makes three times as many entries (`table_made`).
-- Assumes nothing.
use Rattle.tables.proofs.Fills.{table_made}
use Rattle.tables.proofs.tables.make_table.Goals as goal

pub returns : goal.returns
returns c =
    record {
      rows = c.fill_table-4.ensures.rows;
      table = table_made c.zero_row.ensures.cells c.fill_table.ensures.extended c.fill_table-2.ensures.extended
          c.fill_table-3.ensures.extended c.fill_table-4.ensures.extended;
    }
