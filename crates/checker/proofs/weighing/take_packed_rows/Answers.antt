-- The loop is lent the table that is made here.
-- Assumes nothing.
use Rattle.checker.proofs.weighing.take_packed_rows.Goals as goal

pub take_by_table-requires : goal.take_by_table-requires
take_by_table-requires c =
    let p = c.requires in record {
      whole = p.whole;
      readable = p.readable;
      work = p.work;
      s_size = p.s_size;
      s_tested = p.s_tested;
      is_table = c.byte_table-table.ensures;
    }
