-- Each turn puts what stands at one position more (`fill_turn`); row t is not the row that changes.
-- Assumes nothing.
use mathlib.Core.Path.{refl, ap}
use native.Mathlib.Numerals.{add-one}
use native.Mathlib.Omega.{arith}
use lib.ListN.{length, take}
use Rattle.std.proofs.lemmas.List.{get_or-take}
use Rattle.trits.specs.Rows.{matrix_at}
use Rattle.matrix.specs.Linear.{Vector, fill}
use Rattle.matrix.proofs.Orders.{order_good}
use Rattle.grid.proofs.RowParts.{put_else}
use Rattle.draw_walk.proofs.Filled.{fill_start, fill_turn, first_in, first_below}
use Rattle.draw_walk.proofs.parts.place_back.Goals as goal

pub loop-i-init : goal.loop-i-init
loop-i-init c =
    let a = c.args in
    let A = matrix_at a.w a.ones.now a.twos.now in
    fill_start a.order.now A a.e 0 (A a.t) c.requires.grid refl refl

pub copy_place-requires : goal.copy_place-requires
copy_place-requires c =
    let a = c.args in
    let l = c.loop-i in
    let o = a.order.now in
    let h = first_in o a.m l.i c.requires.front c.loop-i-test.true in
    let q = first_below o a.m l.i c.requires.front c.requires.is_order c.loop-i-test.true in record {
      grid = l.invariant.rows;
      small = omega (arith, l.invariant.rows.size, c.requires.grid.size);
      i_in = c.requires.t_in;
      from_place = omega (arith, h, q);
      j_in = c.requires.e_in;
      place = omega (arith, h, q);
    }

pub loop-i-preserved : goal.loop-i-preserved
loop-i-preserved c =
    let a = c.args in
    let l = c.loop-i in
    let o = a.order.now in
    let A = matrix_at a.w a.ones.now a.twos.now in
    let h = first_in o a.m l.i c.requires.front c.loop-i-test.true in
    rw (add-one l.i) (fill_turn o A a.e l.i (A a.t) (λ B. B a.t l.i) (order_good (length o) o c.requires.is_order).0
    (omega (arith, h)) (get_or-take a.m o l.i 0 h) l.invariant (rw c.from.ensures at c.copy_place.ensures)
    (ap (λ (v : Vector). v l.i) (put_else a.e (fill (take l.i o) (A a.t) (A a.e)) A a.t c.requires.apart)))
