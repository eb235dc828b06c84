-- The block's rows, cleared among themselves, are those of the pass. The first block has no row above it (`first_ends`); by the words of another that have
-- columns from r on, cleared at once, a row above is there what the steps make of it (`block_ends`).
-- Assumes nothing.
use native.Mathlib.Omega.{arith}
use Rattle.trits.specs.Rows.{matrix_at}
use Rattle.grid.proofs.Cells.{cell_past}
use Rattle.raising.proofs.Passes.{is_twelve, first_ends, block_outside, block_ends}
use Rattle.raising.proofs.raise.raise_block.Goals as goal

pub returns-then-b-eq0 : goal.returns-then-b-eq0
returns-then-b-eq0 c =
    let a = c.args in
    let p = c.requires in
    let g = c.raise_among.ensures in
    record {
      rows = g.rows;
      at_ends = first_ends a.r a.b a.e (matrix_at a.w a.ones.now a.twos.now) g.cells p.triangular p.ordered p.end c.if-b-eq0.true;
    }

pub clear_by_tables-requires : goal.clear_by_tables-requires
clear_by_tables-requires c =
    let a = c.args in
    let p = c.requires in
    let z = is_twelve p.twelve c.if-b-eq0.false in
    let d = c.copy_block.ensures in record {
      grid = d.rows;
      small = omega (arith, d.rows.size, p.grid.size, p.small);
      room = p.room;
      ordered = omega arith;
      end = omega (arith, p.ordered, p.end);
      width = omega arith;
      columns = omega (arith, p.columns, z);
      outside = block_outside a.r a.b a.e (matrix_at a.w a.ones.now a.twos.now) c.raise_among.ensures.cells p.triangular p.ordered p.end z
          d.copied
          a.w (cell_past a.w _ _);
    }

pub returns : goal.returns
returns c =
    let a = c.args in
    let p = c.requires in
    let f = c.clear_by_tables.ensures in record {
      rows = f.rows;
      at_ends = block_ends a.r a.b a.e (matrix_at a.w a.ones.now a.twos.now) c.raise_among.ensures.cells p.triangular p.ordered p.end
          (is_twelve p.twelve c.if-b-eq0.false) c.copy_block.ensures.copied f.cleared;
    }
