-- The trit read is put as it is (`put_number`).
-- Assumes nothing.
use Rattle.trits.specs.Rows.{matrix_at}
use Rattle.grid.proofs.RowParts.{put_number}
use Rattle.draw_walk.proofs.places.copy_place.Goals as goal

pub returns : goal.returns
returns c =
    let a = c.args in
    let A = matrix_at a.w a.ones.now a.twos.now in
    put_number A a.j a.q _ (A a.i a.p) c.cell-t.ensures c.put_at.ensures
