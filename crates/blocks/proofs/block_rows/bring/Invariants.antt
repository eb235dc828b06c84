-- After j turns the row is less the first j rows of the block (`bring_turn`): they are 0 at the next column, so its trit there is still the first one.
-- Assumes nothing.
use Rattle.trits.specs.Rows.{matrix_at}
use Rattle.matrix.specs.Blocks.{basis, brought}
use Rattle.grid.specs.Steps.{Grid}
use Rattle.blocks.proofs.block_rows.bring.Given as goal

abbrev pub invariant-loop-j : goal.invariant-loop-j
invariant-loop-j l =
    Grid l.ones l.twos l.rows l.w
    (brought l.j l.c (basis l.r (matrix_at l.w l.initial.ones l.initial.twos)) l.i (matrix_at l.w l.initial.ones l.initial.twos))
