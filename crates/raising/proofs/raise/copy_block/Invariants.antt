-- Each turn makes one row of the block 0 and copies words to it (`copied_turn`): the block's rows stand apart from each other and from the rows that are
-- copied.
-- Assumes nothing.
use Rattle.trits.specs.Rows.{matrix_at}
use Rattle.grid.specs.Steps.{Rows}
use Rattle.raising.specs.Steps.{Copied}
use Rattle.raising.proofs.raise.copy_block.Given as goal

abbrev pub invariant-loop-j : goal.invariant-loop-j
invariant-loop-j l =
    Rows l.ones l.twos l.rows l.w × Copied l.f l.r l.j l.c (matrix_at l.w l.initial.ones l.initial.twos) (matrix_at l.w l.ones l.twos)
