-- The row that the search chose comes to its place, is copied into the block, and the block's other rows are cleared by it (`next_done`).
-- Assumes nothing.
use native.Mathlib.Omega.{arith}
use Rattle.trits.specs.Rows.{matrix_at}
use Rattle.matrix.proofs.BasisRows.{basis_past, basis_in}
use Rattle.pivoting.proofs.Pivots.{none_next, chosen, joins_none, next_done}
use Rattle.pivoting.proofs.pivot.next_pivot.Goals as goal

pub returns-in_default : goal.returns-in_default
returns-in_default c =
    let a = c.args in
    record { rows = c.requires.grid; next_pivot = none_next a.r a.at a.k a.c (matrix_at a.w a.ones.now a.twos.now) c.in_default.ensures }

pub bring_pivot-requires : goal.bring_pivot-requires
bring_pivot-requires c =
    let a = c.args in
    let found = c.in-Some.ensures in
    let h = chosen a.r a.at a.k a.c (matrix_at a.w a.ones.now a.twos.now) found in
    record {
      grid = c.requires.grid;
      small = c.requires.small;
      narrow = c.requires.narrow;
      room = c.requires.room;
      few = c.requires.few;
      column = c.requires.column;
      width = c.requires.width;
      unit = c.requires.unit;
      outside = c.requires.outside;
      from_next = h.0;
      i_in = h.1;
      set = h.2;
    }

pub copy_row-requires : goal.copy_row-requires
copy_row-requires c =
    let a = c.args in
    let p = c.basis_row-p.ensures in record {
      grid = c.bring_pivot.ensures.rows;
      i_in = omega (arith, p, basis_in a.r a.k c.requires.few, c.requires.room);
      j_in = omega (arith, c.requires.row_next, c.requires.room);
      apart = λ e. omega (arith, e, p, basis_past a.r a.k, c.requires.row_next);
    }

pub join-requires : goal.join-requires
join-requires c =
    let a = c.args in
    let A = matrix_at a.w a.ones.now a.twos.now in
    let found = c.in-Some.ensures in
    let h = chosen a.r a.at a.k a.c A found in
    let g = c.copy_row.ensures.rows in
    record {
      grid = g;
      small = omega (arith, g.size, c.requires.grid.size, c.requires.small);
      narrow = c.requires.narrow;
      room = c.requires.room;
      few = c.requires.few;
      column = c.requires.column;
      width = c.requires.width;
      outside = λ t o. joins_none a.r a.at a.k a.c A found c.bring_pivot.ensures.cells c.basis_row-p.ensures c.copy_row.ensures.cells t
          (c.requires.rows_outside _ t h.0 h.1 o) (λ n l. c.requires.outside n t l o);
    }

pub returns : goal.returns
returns c =
    let a = c.args in
    let j = c.join.ensures in
    record {
      rows = j.rows;
      next_pivot = next_done a.r a.at a.k a.c (matrix_at a.w a.ones.now a.twos.now) c.in-Some.ensures c.requires.few c.bring_pivot.ensures.cells
          c.basis_row-p.ensures c.copy_row.ensures.cells j.joined_rows;
    }
