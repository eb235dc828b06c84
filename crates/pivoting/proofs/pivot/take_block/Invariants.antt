-- Each turn takes one pivot more (`block_more`); a column without one ends the block, and it is the first only where no pivot was taken.
-- Assumes nothing.
use Rattle.trits.specs.Rows.{matrix_at}
use Rattle.matrix.specs.Blocks.{Block}
use Rattle.grid.specs.Steps.{Rows}
use Rattle.pivoting.proofs.pivot.take_block.Given as goal

abbrev pub invariant-loop-k : goal.invariant-loop-k
invariant-loop-k l =
    Rows l.ones l.twos l.rows l.w × Block l.r l.at l.c l.m l.k (matrix_at l.w l.initial.ones l.initial.twos) (matrix_at l.w l.ones l.twos)
