-- Each turn puts the value of one place more of the last part (`last_turn`); row ev is not the row that changes.
-- Assumes nothing.
use Prim.Native.Nat.{◌+◌}
use mathlib.Core.Path.{refl}
use native.Mathlib.Omega.{arith}
use lib.ListN.{take, drop}
use Rattle.trits.specs.Planes.{trit_at}
use Rattle.trits.specs.Rows.{matrix_at}
use Rattle.matrix.specs.Linear.{fill}
use Rattle.scheme.specs.Draw.{forced_by}
use Rattle.draw_walk.proofs.Filled.{forced_at, forced_value, fill_start, last_in, last_below, last_turn}
use Rattle.draw_walk.proofs.parts.supply_forced.Goals as goal

pub loop-i-init : goal.loop-i-init
loop-i-init c =
    let a = c.args in
    let A = matrix_at a.w a.ones.now a.twos.now in
    let b = trit_at a.b.ones.now a.b.twos.now in
    let c' = trit_at a.c.ones.now a.c.twos.now in
    let u = trit_at a.u.ones.now a.u.twos.now in
    fill_start (drop a.from a.order.now) A a.e 0 (forced_at a.order.now A a.from a.ev b c' u a.g) c.requires.grid refl refl

pub force_place-requires : goal.force_place-requires
force_place-requires c =
    let a = c.args in
    let l = c.loop-i in
    let q = last_below a.order.now a.from l.i c.requires.is_order c.loop-i-test.true in record {
      grid = l.invariant.rows;
      b_row = c.requires.b_row;
      c_row = c.requires.c_row;
      u_row = c.requires.u_row;
      small = omega (arith, l.invariant.rows.size, c.requires.grid.size);
      place = omega (arith, q);
      ev_in = c.requires.ev_in;
      e_in = c.requires.e_in;
      b_room = omega (arith, q);
      c_room = omega (arith, q);
      u_room = omega (arith, c.requires.u_room, last_in a.order.now a.from l.i c.loop-i-test.true);
    }

pub loop-i-preserved : goal.loop-i-preserved
loop-i-preserved c =
    let a = c.args in
    let l = c.loop-i in
    let o = a.order.now in
    let A = matrix_at a.w a.ones.now a.twos.now in
    let b = trit_at a.b.ones.now a.b.twos.now in
    let c' = trit_at a.c.ones.now a.c.twos.now in
    let u = trit_at a.u.ones.now a.u.twos.now in
    let forced = forced_at o A a.from a.ev b c' u a.g in
    last_turn o A a.from l.i a.e forced (λ q B. forced_by b c' (B a.ev) q (u (a.g + l.i))) c.requires.is_order
    (last_in o a.from l.i c.loop-i-test.true) l.invariant (rw c.from.ensures at c.force_place.ensures)
    (forced_value o A a.from l.i a.e a.ev (fill (take l.i (drop a.from o)) forced (A a.e)) b c' u a.g c.requires.apart)
