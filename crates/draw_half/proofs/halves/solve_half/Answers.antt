-- After the three steps row e is the word of the half (`half_done`); there are trits enough (`first_room`).
-- Assumes nothing.
use Prim.Native.Nat.{◌+◌, ◌*◌}
use mathlib.Core.Path.{sym, ◌∙◌}
use native.Mathlib.Omega.{arith}
use lib.ListN.{length}
use Rattle.trits.specs.Planes.{trit_at}
use Rattle.trits.specs.Rows.{matrix_at}
use Rattle.draw_half.proofs.HalfWords.{has_rank, is_solved, made_ends, first_room, half_done}
use Rattle.draw_half.proofs.halves.solve_half.Goals as goal

pub lower_first-requires : goal.lower_first-requires
lower_first-requires c =
    let A = matrix_at c.args.w c.args.ones.now c.args.twos.now in
    let a = c.args in
    let p = c.requires in
    let g = c.take_last.ensures in record {
      grid = g.rows;
      h_grid = p.h_grid;
      is_order = p.is_order;
      small = omega (arith, g.rows.size, p.grid.size, p.small);
      narrow = p.narrow;
      places_fit = p.places_fit;
      front = p.front;
      e_past = p.e_past;
      e_in = p.e_in;
      e_ends = made_ends A a.half.order.now p.is_order (a.half.r + a.half.gap) a.at.x a.at.e p.e_last g.cells;
    }

pub complete-requires : goal.complete-requires
complete-requires c =
    let A = matrix_at c.args.w c.args.ones.now c.args.twos.now in
    let H = matrix_at c.args.w c.args.half.h.ones.now c.args.half.h.twos.now in
    let trits_v = trit_at c.args.v.ones.now c.args.v.twos.now in
    -- the first part of the order has full rank
    let full = sym c.lower_first.ensures.value ∙ c.if-lower_first-half.false in
    let a = c.args in
    let p = c.requires in
    let q = c.lower_first.ensures in record {
      grid = q.rows;
      v_row = p.v_row;
      is_order = p.is_order;
      small = omega (arith, q.rows.size, p.grid.size, p.small);
      narrow = p.narrow;
      places_fit = p.places_fit;
      front = p.front;
      enough = p.enough;
      v_room = first_room a.half.r H A a.half.order.now p.is_order (a.half.r + a.half.gap) (64 * a.w) p.front p.places_fit a.at.x a.at.t a.at.e p.x_past
          p.t_past p.e_past p.x_apart p.t_apart p.x_ends p.t_zero p.e_last trits_v c.take_last.ensures.cells
          q.lowered_first full (64 * length a.v.ones.now) p.v_room;
      x_in = p.x_in;
      t_past = omega (arith, p.t_past);
      t_in = p.t_in;
      e_past = omega (arith, p.e_past);
      e_in = p.e_in;
      x_apart = p.x_apart;
      t_apart = p.t_apart;
      rows_apart = p.rows_apart;
    }

pub returns : goal.returns
returns c =
    let A = matrix_at c.args.w c.args.ones.now c.args.twos.now in
    let H = matrix_at c.args.w c.args.half.h.ones.now c.args.half.h.twos.now in
    let trits_v = trit_at c.args.v.ones.now c.args.v.twos.now in
    -- the first part of the order has full rank
    let full = sym c.lower_first.ensures.value ∙ c.if-lower_first-half.false in
    let a = c.args in
    let p = c.requires in
    let q = c.lower_first.ensures in
    let l = c.complete.ensures in record {
      value = has_rank q.value c.if-lower_first-half.false;
      rows = l.rows;
      solved_where = is_solved (half_done a.half.r H A a.half.order.now p.is_order (a.half.r + a.half.gap) (64 * a.w) p.front p.places_fit a.at.x a.at.t a.at.e
          p.x_past p.t_past p.e_past p.x_apart p.t_apart p.x_ends p.t_zero p.e_last trits_v
          c.take_last.ensures.cells q.lowered_first full l.cells);
    }
