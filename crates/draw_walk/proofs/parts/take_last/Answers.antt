-- Each turn puts the difference at one place more of the last part (`last_turn`); row x is not the row that changes, nor was the place put yet (`less_value`).
-- Assumes nothing.
use mathlib.Core.Path.{refl}
use native.Mathlib.Omega.{arith}
use lib.ListN.{drop}
use Rattle.trits.specs.Trit.{sub_t}
use Rattle.trits.specs.Rows.{matrix_at}
use Rattle.draw_walk.proofs.Filled.{less_at, less_value, fill_start, last_in, last_below, last_turn}
use Rattle.draw_walk.proofs.parts.take_last.Goals as goal

pub loop-q-init : goal.loop-q-init
loop-q-init c =
    let a = c.args in
    let A = matrix_at a.w a.ones.now a.twos.now in
    fill_start (drop a.from a.order.now) A a.e 0 (less_at a.order.now A a.from a.x a.e) c.requires.grid refl refl

pub take_place-requires : goal.take_place-requires
take_place-requires c =
    let a = c.args in
    let l = c.loop-q in
    record {
      grid = l.invariant.rows;
      small = omega (arith, l.invariant.rows.size, c.requires.grid.size);
      x_in = c.requires.x_in;
      e_in = c.requires.e_in;
      place = omega (arith, last_below a.order.now a.from l.q-index c.requires.is_order c.loop-q-test.true);
    }

pub loop-q-preserved : goal.loop-q-preserved
loop-q-preserved c =
    let a = c.args in
    let l = c.loop-q in
    let o = a.order.now in
    let A = matrix_at a.w a.ones.now a.twos.now in
    let h = last_in o a.from l.q-index c.loop-q-test.true in
    last_turn o A a.from l.q-index a.e (less_at o A a.from a.x a.e) (λ q B. sub_t (B a.x q) (B a.e q)) c.requires.is_order h
    l.invariant (rw c.from.ensures at c.take_place.ensures)
    (less_value o A a.from l.q-index a.e a.x (less_at o A a.from a.x a.e) c.requires.is_order h c.requires.apart)
