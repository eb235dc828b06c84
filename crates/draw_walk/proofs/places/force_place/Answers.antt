-- Row ev is 0 at the place, and the value is put as it is (`forced_none`), or it is not, and the product is put (`forced_some`).
-- Assumes nothing.
use mathlib.Core.Path.{ap}
use Rattle.trits.specs.Trit.{Trit, put_v}
use Rattle.trits.specs.Planes.{trit_at}
use Rattle.trits.specs.Rows.{matrix_at}
use Rattle.grid.proofs.RowParts.{put_number}
use Rattle.draw_walk.proofs.Puts.{grid_row, forced_none, forced_some}
use Rattle.draw_walk.proofs.places.force_place.Goals as goal

pub returns-then-v-eq0 : goal.returns-then-v-eq0
returns-then-v-eq0 c =
    let a = c.args in
    let A = matrix_at a.w a.ones.now a.twos.now in
    let b = trit_at a.b.ones.now a.b.twos.now in
    let c' = trit_at a.c.ones.now a.c.twos.now in
    grid_row A a.e c.put_from.ensures (ap (λ (x : Trit). put_v (A a.e) a.q x)
    (forced_none (A a.ev) a.q _ c.cell-v.ensures b c' (trit_at a.u.ones.now a.u.twos.now a.j) c.if-v-eq0.true))

pub returns : goal.returns
returns c =
    let a = c.args in
    let A = matrix_at a.w a.ones.now a.twos.now in
    let b = trit_at a.b.ones.now a.b.twos.now in
    let c' = trit_at a.c.ones.now a.c.twos.now in
    put_number A a.e a.q _ _
    (forced_some (A a.ev) a.q _ c.cell-v.ensures b c' (trit_at a.u.ones.now a.u.twos.now a.j) c.if-v-eq0.false c.trit_at-b_q.ensures
    c.trit_at-c_q.ensures c.forced_trit.ensures) c.put_at.ensures
