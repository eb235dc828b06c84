-- Each turn clears one row of the block more (`join_turn`); none of them is the one that joins.
-- Assumes nothing.
use Prim.Native.Nat.{◌+◌}
use mathlib.Core.Path.{ap, ap₂, ◌∙◌}
use native.Mathlib.Omega.{arith}
use Rattle.trits.specs.Rows.{matrix_at}
use Rattle.matrix.specs.Linear.{Vector, Matrix}
use Rattle.grid.specs.Steps.{clear_row}
use Rattle.matrix.proofs.BasisRows.{basis_in, basis_less}
use Rattle.pivoting.proofs.Pivots.{join_kept, join_turn}
use Rattle.pivoting.proofs.pivot.join.Goals as goal

pub clear_row-requires : goal.clear_row-requires
clear_row-requires c =
    let a = c.args in
    let g = c.loop-j.invariant.0 in
    let p = c.basis_row-p.ensures in
    let b = c.basis_row-b.ensures in
    let same = join_kept c.loop-j.invariant.1 (omega arith) in record {
      grid = g;
      small = omega (arith, g.size, c.requires.grid.size, c.requires.small);
      width = c.requires.width;
      column = c.requires.column;
      pivot = omega (arith, p, basis_in a.r a.k c.requires.few, c.requires.room);
      i_in = omega (arith, b, basis_in a.r c.loop-j.j (omega (arith, c.requires.few)), c.requires.room);
      apart = λ e. omega (arith, e, b, p, basis_less a.r c.loop-j.j a.k (omega arith));
      outside = λ t o. ap (λ n. matrix_at a.w c.loop-j.ones c.loop-j.twos n t) p ∙ ap (λ (u : Vector). u t) same ∙ c.requires.outside t o;
    }

pub loop-j-preserved : goal.loop-j-preserved
loop-j-preserved c =
    let a = c.args in
    let g = c.clear_row.ensures in
    let L : Matrix = matrix_at a.w c.loop-j.ones c.loop-j.twos in (
      g.rows,
      join_turn c.loop-j.invariant.1 (omega arith)
          (g.cells ∙ ap₂ (λ p b. clear_row b p (a.c + a.k) L) c.basis_row-p.ensures c.basis_row-b.ensures),
    )
