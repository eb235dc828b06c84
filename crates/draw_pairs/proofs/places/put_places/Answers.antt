-- Each turn puts one trit of the word at the next place (`column_turn`).
-- Assumes nothing.
use Prim.Native.Nat.{◌+◌}
use mathlib.Core.Path.{◌∙◌}
use native.Mathlib.Omega.{arith}
use Rattle.trits.specs.Rows.{matrix_at}
use Rattle.grid.proofs.RowParts.{read_trit, column_turn}
use Rattle.draw_pairs.specs.Steps.{written_from}
use Rattle.draw_pairs.proofs.PlacedHalves.{part_in, part_at, order_below}
use Rattle.draw_pairs.proofs.places.put_places.Goals as goal

pub trit_of_place-t-requires : goal.trit_of_place-t-requires
trit_of_place-t-requires c =
    let a = c.args in
    let l = c.loop-j in
    let p = c.requires in
    let h = part_in a.p.now a.from a.count l.j p.places_fit c.loop-j-test.true in record {
      grid = c.requires.grid;
      small = p.small;
      u_in = omega (arith, p.u_in, p.v_in);
      v_in = omega (arith, p.u_in, p.v_in);
      half_fits = p.half_fits;
      place = rw (c.from.ensures ∙ part_at a.p.now a.from a.count l.j h)
          (order_below (a.half + a.half) a.p.now p.is_order (a.from + l.j) (omega (arith, p.is_order.size, p.places_fit, h)));
    }

pub loop-j-preserved : goal.loop-j-preserved
loop-j-preserved c =
    let a = c.args in
    let l = c.loop-j in
    let h = part_in a.p.now a.from a.count l.j c.requires.places_fit c.loop-j-test.true in
    column_turn (written_from a.half (matrix_at a.w a.m.ones.now a.m.twos.now a.u) (matrix_at a.w a.m.ones.now a.m.twos.now a.v) a.p.now a.from)
    l.j c.trit_of_place-t.result l.invariant (read_trit _ _ (rw (c.from.ensures ∙ part_at a.p.now a.from a.count l.j h) at c.trit_of_place-t.ensures))
    c.put_trit.ensures
