-- Each turn puts the trit of one place more of the last part (`last_turn`).
-- Assumes nothing.
use Prim.Native.Nat.{◌+◌}
use mathlib.Core.Path.{refl}
use native.Mathlib.Omega.{arith}
use lib.ListN.{drop}
use Rattle.trits.specs.Planes.{trit_at}
use Rattle.trits.specs.Rows.{matrix_at}
use Rattle.draw_walk.proofs.Filled.{fill_start, last_in, last_below, last_turn}
use Rattle.draw_walk.proofs.parts.supply_last.Goals as goal

pub loop-i-init : goal.loop-i-init
loop-i-init c =
    let a = c.args in
    let A = matrix_at a.w a.ones.now a.twos.now in
    fill_start (drop a.from a.order.now) A a.e 0 (λ j. trit_at a.v.ones.now a.v.twos.now (a.g + j)) c.requires.grid refl refl

pub put_from-requires : goal.put_from-requires
put_from-requires c =
    let a = c.args in
    let l = c.loop-i in
    record {
      grid = l.invariant.rows;
      source = c.requires.source;
      small = omega (arith, l.invariant.rows.size, c.requires.grid.size);
      place = omega (arith, last_below a.order.now a.from l.i c.requires.is_order c.loop-i-test.true);
      e_in = c.requires.e_in;
      source_place = omega (arith, c.requires.room, last_in a.order.now a.from l.i c.loop-i-test.true);
    }

pub loop-i-preserved : goal.loop-i-preserved
loop-i-preserved c =
    let a = c.args in
    let l = c.loop-i in
    let A = matrix_at a.w a.ones.now a.twos.now in
    let v = trit_at a.v.ones.now a.v.twos.now in
    last_turn a.order.now A a.from l.i a.e (λ j. v (a.g + j)) (λ q B. v (a.g + l.i)) c.requires.is_order
    (last_in a.order.now a.from l.i c.loop-i-test.true) l.invariant (rw c.from.ensures at c.put_from.ensures) refl
