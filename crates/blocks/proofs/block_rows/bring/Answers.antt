-- After j turns the row is less the first j rows of the block (`bring_turn`): they are 0 at the next column, so its trit there is still the first one.
-- Assumes nothing.
use mathlib.Core.Path.{ap, ◌∙◌}
use native.Mathlib.Omega.{arith}
use Rattle.trits.specs.Rows.{matrix_at}
use Rattle.matrix.specs.Linear.{Vector}
use Rattle.grid.proofs.Cells.{grid_of}
use Rattle.matrix.proofs.BasisRows.{basis_past, basis_in}
use Rattle.blocks.proofs.Bring.{brought_none, bring_block, bring_turn}
use Rattle.blocks.proofs.block_rows.bring.Goals as goal

pub loop-j-init : goal.loop-j-init
loop-j-init c =
    let a = c.args in
    grid_of c.requires.grid (brought_none a.r a.c a.i (matrix_at a.w a.ones.now a.twos.now))

pub clear_row-requires : goal.clear_row-requires
clear_row-requires c =
    let a = c.args in
    let l = c.loop-j in
    let g = l.invariant.rows in
    let e = c.basis_row.ensures in
    let same = bring_block a.r a.c a.i (matrix_at a.w a.ones.now a.twos.now) l.j l.invariant c.requires.i_in l.j in record {
      grid = g;
      small = omega (arith, g.size, c.requires.grid.size);
      width = c.requires.width;
      column = omega arith;
      pivot = omega (arith, e, basis_in a.r l.j (omega (arith, c.requires.few)), c.requires.room);
      i_in = omega (arith, c.requires.i_in, c.requires.room);
      apart = λ z. omega (arith, z, e, basis_past a.r l.j, c.requires.i_in);
      outside = λ t o. ap (λ n. matrix_at a.w l.ones l.twos n t) e ∙ ap (λ (u : Vector). u t) same ∙ c.requires.outside l.j t (omega arith) o;
    }

pub loop-j-preserved : goal.loop-j-preserved
loop-j-preserved c =
    let a = c.args in
    bring_turn a.r a.c a.i (matrix_at a.w a.ones.now a.twos.now) c.loop-j.invariant a.k c.requires.unit (omega arith) c.requires.i_in
    c.basis_row.ensures c.clear_row.ensures
