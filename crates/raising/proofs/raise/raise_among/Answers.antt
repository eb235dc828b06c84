-- Each turn clears one column more in the rows from b on (`among_turn`), by a row that is 0 before it (`among_outside`).
-- Assumes nothing.
use Prim.Native.Nat.{◌-◌}
use mathlib.Core.Logic.{inl}
use native.Mathlib.Omega.{arith}
use Rattle.trits.specs.Rows.{matrix_at}
use Rattle.grid.proofs.Cells.{grid_of}
use Rattle.raising.proofs.Passes.{among_none, among_outside, among_turn}
use Rattle.raising.proofs.raise.raise_among.Goals as goal

pub loop-j-init : goal.loop-j-init
loop-j-init c =
    let a = c.args in
    (c.requires.ordered, grid_of c.requires.grid (among_none a.b a.e (matrix_at a.w a.ones.now a.twos.now)))

pub clear_rows-requires : goal.clear_rows-requires
clear_rows-requires c =
    let a = c.args in
    let l = c.loop-j in
    let g = l.invariant.1.rows in record {
      grid = g;
      small = omega (arith, g.size, c.requires.grid.size, c.requires.small);
      width = omega arith;
      column = omega (arith, c.requires.columns);
      pivot = omega (arith, c.requires.end);
      ordered = omega arith;
      end = omega (arith, c.requires.end);
      beside = inl (omega arith);
      outside = among_outside (matrix_at a.w a.ones.now a.twos.now) (l.j - 1) l.invariant.1 (omega arith) (omega arith) (omega arith)
          c.requires.triangular;
    }

pub loop-j-preserved : goal.loop-j-preserved
loop-j-preserved c =
    let a = c.args in
    let l = c.loop-j in (
      omega arith,
      among_turn (matrix_at a.w a.ones.now a.twos.now) (l.j - 1) l.invariant.1 (omega arith) (omega arith) (omega arith)
          c.clear_rows.ensures,
    )
