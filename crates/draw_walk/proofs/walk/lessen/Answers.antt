-- The trit less the product is put at the place (`less_read`).
-- Assumes nothing.
use Prim.Native.Nat.{◌*◌}
use Rattle.trits.specs.Trit.{dot_v}
use Rattle.trits.specs.Rows.{matrix_at}
use Rattle.grid.proofs.RowParts.{put_number}
use Rattle.draw_walk.proofs.Puts.{less_read}
use Rattle.draw_walk.proofs.walk.lessen.Goals as goal

pub returns : goal.returns
returns c =
    let a = c.args in
    let A = matrix_at a.w a.ones.now a.twos.now in
    put_number A a.e a.q _ _ (less_read (A a.e a.q) (dot_v (A a.c) (A a.e) (64 * a.w)) c.cell-v.ensures c.row_dot-t.ensures c.less_trit.ensures)
    c.put_at.ensures
