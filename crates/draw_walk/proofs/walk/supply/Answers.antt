-- Each turn walks one position more (`supply_turn`); a position passed over finds a trit (`supply_room`).
-- Assumes nothing.
use Prim.Native.Nat.{◌*◌}
use mathlib.Core.Path.{◌∙◌}
use native.Mathlib.Omega.{arith}
use lib.ListN.{length}
use Rattle.trits.specs.Planes.{trit_at}
use Rattle.trits.specs.Rows.{matrix_at}
use Rattle.std.proofs.lemmas.List.{get_or-take}
use Rattle.draw_walk.proofs.Filled.{first_in, first_below}
use Rattle.draw_walk.proofs.Supplied.{walking_none, passed_count, supply_room, supply_turn}
use Rattle.draw_walk.proofs.walk.supply.Goals as goal

pub loop-i-init : goal.loop-i-init
loop-i-init c =
    let A = matrix_at c.args.w c.args.ones.now c.args.twos.now in
    let trits_v = trit_at c.args.v.ones.now c.args.v.twos.now in
    let a = c.args in
    walking_none a.t a.order.now trits_v (A a.x) c.requires.grid

pub overflow_sub-i : goal.overflow_sub-i
overflow_sub-i c =
    let A = matrix_at c.args.w c.args.ones.now c.args.twos.now in
    let l = c.loop-i in
    omega (arith, passed_count A l.i c.requires.t_past l.invariant)

pub supply_place-c-requires : goal.supply_place-c-requires
supply_place-c-requires c =
    let A = matrix_at c.args.w c.args.ones.now c.args.twos.now in
    let a = c.args in
    let l = c.loop-i in
    let h = first_in a.order.now a.m l.i c.requires.front c.loop-i-test.true in
    let q = first_below a.order.now a.m l.i c.requires.front c.requires.is_order c.loop-i-test.true in
    let p = passed_count A l.i c.requires.t_past l.invariant in record {
      grid = l.invariant.grid.rows;
      source = c.requires.source;
      small = omega (arith, l.invariant.grid.rows.size, c.requires.grid.size);
      position = omega (arith, h);
      place = omega (arith, q);
      r_in = omega arith;
      x_in = c.requires.x_in;
      t_in = c.requires.t_in;
      enough = supply_room A l.i c.requires.t_past l.invariant a.m (64 * length a.v.ones.now) h c.requires.enough (omega (arith, p));
    }

pub loop-i-preserved : goal.loop-i-preserved
loop-i-preserved c =
    let A = matrix_at c.args.w c.args.ones.now c.args.twos.now in
    let trits_v = trit_at c.args.v.ones.now c.args.v.twos.now in
    let a = c.args in
    let l = c.loop-i in
    let h = first_in a.order.now a.m l.i c.requires.front c.loop-i-test.true in
    let e = c.supply_place-c.ensures in
    supply_turn A l.i c.requires.t_past a.order.now trits_v a.x c.requires.apart l.invariant e.value
    (rw (c.from.ensures ∙ get_or-take a.m a.order.now l.i 0 h) at e.grid)
