-- Each turn makes one entry more the sum of entry p and one before it (`extended_more`).
-- Assumes nothing.
use Rattle.tables.proofs.Fills.{extended_more}
use Rattle.tables.proofs.tables.fill_table.Goals as goal

pub loop-a-preserved : goal.loop-a-preserved
loop-a-preserved c =
    let l = c.loop-a in
    let e = c.sum_row.ensures in
    (e.rows, extended_more c.requires.some l.auto.a l.invariant.1 e.cells)
