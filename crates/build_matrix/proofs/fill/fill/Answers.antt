-- Each turn makes both halves of one row more (`halves_turn`).
-- Assumes nothing.
use mathlib.Core.Path.{ap}
use native.Mathlib.Omega.{arith}
use Rattle.trits.specs.Rows.{matrix_at}
use Rattle.build_matrix.specs.Steps.{half_of}
use Rattle.grid.proofs.Cells.{grid_of}
use Rattle.grid.proofs.RowParts.{handed_row, handed_size, handed_trits}
use Rattle.build_matrix.proofs.HalfRows.{halves_none, halves_turn}
use Rattle.build_matrix.proofs.fill.fill.Goals as goal

pub loop-i-init : goal.loop-i-init
loop-i-init c =
    let a = c.args in
    let H = matrix_at a.w a.h.ones.now a.h.twos.now in
    grid_of c.requires.grid (halves_none a.first (λ i. half_of a.left (H i)) (λ i. half_of a.right (H i)) (matrix_at a.w a.ones.now a.twos.now))

pub put-requires : goal.put-requires
put-requires c =
    let a = c.args in record {
      grid = c.loop-i.invariant.rows;
      h_row = handed_row a.m a.w c.loop-i.i c.requires.h_grid c.loop-i-test.true c.row_part.ensures c.row_part-in-loop-i.ensures;
      j_in = omega (arith, c.requires.room, c.loop-i-test.true);
      h_size = handed_size a.m a.w c.loop-i.i c.requires.h_grid c.loop-i-test.true c.row_part.ensures c.row_part-in-loop-i.ensures;
      made_with = c.requires.left_with;
    }

pub put-requires-in-loop-i : goal.put-requires-in-loop-i
put-requires-in-loop-i c =
    let a = c.args in record {
      grid = c.put.ensures.rows;
      h_row = handed_row a.m a.w c.loop-i.i c.requires.h_grid c.loop-i-test.true c.row_part.ensures c.row_part-in-loop-i.ensures;
      j_in = omega (arith, c.requires.room, c.loop-i-test.true);
      h_size = handed_size a.m a.w c.loop-i.i c.requires.h_grid c.loop-i-test.true c.row_part.ensures c.row_part-in-loop-i.ensures;
      made_with = c.requires.right_with;
    }

pub loop-i-preserved : goal.loop-i-preserved
loop-i-preserved c =
    let a = c.args in
    let H = matrix_at a.w a.h.ones.now a.h.twos.now in
    let e = handed_trits a.m a.w c.loop-i.i c.requires.h_grid c.loop-i-test.true c.row_part.ensures c.row_part-in-loop-i.ensures in
    halves_turn a.first (λ i. half_of a.left (H i)) (λ i. half_of a.right (H i)) (matrix_at a.w a.ones.now a.twos.now) _ _ c.loop-i.invariant
    (omega arith) (omega arith) (ap (half_of a.left) e) (ap (half_of a.right) e) c.put.ensures c.put-in-loop-i.ensures
