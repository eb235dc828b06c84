-- The last part is supplied; what is supplied in all is what the definition supplies (`solved_v`).
-- Assumes nothing.
use Prim.Native.Nat.{◌+◌}
use native.Mathlib.Omega.{arith}
use lib.ListN.{drop}
use Rattle.trits.specs.Planes.{trit_at}
use Rattle.trits.specs.Rows.{matrix_at}
use Rattle.matrix.specs.Linear.{zeros}
use Rattle.draw_half.proofs.HalfWords.{ends_row, row_before, row_t, last_alone, solved_v}
use Rattle.draw_half.proofs.halves.draw_v.Goals as goal

pub solve_half-requires : goal.solve_half-requires
solve_half-requires c =
    let A = matrix_at c.args.w c.args.ones.now c.args.twos.now in
    let a = c.args in
    let p = c.requires in
    let q = c.zero_row.ensures in
    let g = c.supply_last.ensures in record {
      grid = g.rows;
      h_grid = p.h_grid;
      v_row = p.v_row;
      is_order = p.is_order;
      small = omega (arith, g.rows.size, p.grid.size, p.small);
      narrow = p.narrow;
      places_fit = p.places_fit;
      front = p.front;
      enough = omega arith;
      v_room = omega (arith, p.front, p.v_room);
      x_past = p.x_past;
      x_in = p.x_in;
      t_past = p.t_past;
      t_in = p.t_in;
      e_past = p.e_past;
      e_in = p.e_in;
      x_apart = p.apart;
      t_apart = p.t_apart;
      rows_apart = p.rows_apart;
      x_ends = ends_row (row_before A a.at.t a.at.e zeros _ p.t_apart q.cells g.cells a.at.x p.apart p.rows_apart) p.x_ends;
      t_zero = row_t A a.at.t a.at.e zeros _ p.t_apart q.cells g.cells;
      e_last = last_alone A a.at.t a.at.e (drop (a.half.r + a.half.gap) a.half.order.now) _ p.t_apart p.e_zero q.cells g.cells;
    }

pub returns : goal.returns
returns c =
    let A = matrix_at c.args.w c.args.ones.now c.args.twos.now in
    let H = matrix_at c.args.w c.args.half.h.ones.now c.args.half.h.twos.now in
    let trits_v = trit_at c.args.v.ones.now c.args.v.twos.now in
    let a = c.args in
    let p = c.requires in
    let d = c.solve_half.ensures in record {
      value = d.value;
      rows = d.rows;
      solved_where = solved_v a.half.r a.half.gap H A a.half.order.now p.is_order p.front a.at.x a.at.t a.at.e p.apart p.t_apart p.rows_apart
          p.e_zero trits_v c.zero_row.ensures.cells c.supply_last.ensures.cells d.value d.solved_where;
    }
