-- The difference of the two trits is put at the place (`less_read`).
-- Assumes nothing.
use Rattle.trits.specs.Planes.{trit_at}
use Rattle.trits.specs.Rows.{matrix_at}
use Rattle.grid.proofs.RowParts.{put_number}
use Rattle.draw_walk.proofs.Puts.{less_read}
use Rattle.draw_walk.proofs.places.put_less.Goals as goal

pub returns : goal.returns
returns c =
    let a = c.args in
    let A = matrix_at a.w a.ones.now a.twos.now in
    put_number A a.j a.q _ _ (less_read (A a.i a.p) (trit_at a.v.ones.now a.v.twos.now a.k) c.cell-a.ensures c.trit_at-b.ensures c.less_trit.ensures)
    c.put_at.ensures
