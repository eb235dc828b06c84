-- Each place takes the trit that was read at the other (`trits_exchanged`).
-- Assumes nothing.
use Rattle.trits.specs.Rows.{matrix_at}
use Rattle.arranging.proofs.Exchanges.{trits_exchanged}
use Rattle.arranging.proofs.columns.exchange_trits.Goals as goal

pub returns : goal.returns
returns c =
    let a = c.args in
    let g = c.put_at-2.ensures in record {
      rows = g.rows;
      cells = trits_exchanged a.a a.b a.i (matrix_at a.w a.ones.now a.twos.now) c.trit_of-x.ensures c.trit_of-y.ensures
          c.put_at.ensures.cells g.cells;
    }
