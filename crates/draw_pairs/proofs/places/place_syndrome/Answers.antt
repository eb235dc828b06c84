-- Each turn puts one more trit of y at its place of the order (`place_turn`); where an order lists each place once, no trit is put over another.
-- Assumes nothing.
use Prim.Native.Nat.{◌+◌}
use mathlib.Core.Path.{refl, ◌∙◌}
use native.Mathlib.Omega.{arith}
use Rattle.std.proofs.lemmas.List.{get_or-take}
use Rattle.trits.specs.Rows.{matrix_at}
use Rattle.trits.specs.Planes.{trit_at}
use Rattle.grid.proofs.RowParts.{read_lt, read_trit}
use Rattle.draw_pairs.proofs.PlacedHalves.{front_in, order_below, place_begun, place_turn}
use Rattle.draw_pairs.proofs.places.place_syndrome.Goals as goal

pub loop-i-init : goal.loop-i-init
loop-i-init c =
    let a = c.args in
    place_begun a.l a.half a.p.now c.requires.is_order (trit_at a.y.ones.now a.y.twos.now) (matrix_at a.w a.ones.now a.twos.now)
    c.requires.grid refl c.requires.u_zero c.requires.v_zero

pub put_place-requires : goal.put_place-requires
put_place-requires c =
    let a = c.args in
    let l = c.loop-i in
    let p = c.requires in
    let o = c.requires.is_order in
    let h = front_in a.p.now a.count l.i (omega (arith, o.size, p.places_fit)) c.loop-i-test.true in
    let q = order_below (a.half + a.half) a.p.now o l.i (omega (arith, p.places_fit, h)) in record {
      grid = l.invariant.rows;
      small = omega (arith, l.invariant.rows.size, c.requires.grid.size, p.small);
      u_in = omega (arith, p.l_in);
      v_in = omega (arith, p.l_in);
      half_fits = p.half_fits;
      place = rw (c.from.ensures ∙ get_or-take a.count a.p.now l.i 0 h) q;
      trit = read_lt _ _ _ _ c.trit_at-t.ensures;
    }

pub loop-i-preserved : goal.loop-i-preserved
loop-i-preserved c =
    let a = c.args in
    let l = c.loop-i in
    let p = c.requires in
    let h = front_in a.p.now a.count l.i (omega (arith, p.is_order.size, p.places_fit)) c.loop-i-test.true in
    place_turn a.l a.half a.p.now c.requires.is_order (trit_at a.y.ones.now a.y.twos.now) (matrix_at a.w a.ones.now a.twos.now) l.i
    c.trit_at-t.result (omega (arith, p.places_fit, h)) l.invariant (read_trit _ _ c.trit_at-t.ensures)
    (rw (c.from.ensures ∙ get_or-take a.count a.p.now l.i 0 h) at c.put_place.ensures)
