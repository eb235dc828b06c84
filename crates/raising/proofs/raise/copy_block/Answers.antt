-- Each turn makes one row of the block 0 and copies words to it (`copied_turn`): the block's rows stand apart from each other and from the rows that are
-- copied.
-- Assumes nothing.
use native.Mathlib.Omega.{arith}
use Rattle.grid.proofs.Cells.{cell_past}
use Rattle.matrix.proofs.BasisRows.{basis_past, basis_in}
use Rattle.raising.proofs.Copies.{copied_turn}
use Rattle.raising.proofs.raise.copy_block.Goals as goal

pub zero_row-requires : goal.zero_row-requires
zero_row-requires c =
    let l = c.loop-j in
    record {
      rows = l.invariant.0;
      i_lt_rows = omega (arith, c.basis_row-p.ensures, basis_in c.args.r l.j (omega arith), c.requires.room);
    }

pub copy_words-requires : goal.copy_words-requires
copy_words-requires c =
    let l = c.loop-j in
    let e = c.basis_row-p.ensures in record {
      grid = c.zero_row.ensures.rows;
      width = omega arith;
      d_in = omega (arith, e, basis_in c.args.r l.j (omega arith), c.requires.room);
      i_in = omega (arith, c.requires.stretch, c.requires.room);
      apart = λ z. omega (arith, z, e, basis_past c.args.r l.j, c.requires.stretch);
    }

pub loop-j-preserved : goal.loop-j-preserved
loop-j-preserved c =
    let a = c.args in
    let l = c.loop-j in
    let d = c.copy_words.ensures in (
      d.rows,
      copied_turn (cell_past a.w a.ones.now a.twos.now) l.invariant.1 (omega arith) (omega (arith, c.requires.stretch)) c.basis_row-p.ensures
          c.zero_row.ensures.cells d,
    )
