-- Each turn clears one row more (`clearing_turn`); none of them is one of the block's.
-- Assumes nothing.
use Rattle.trits.specs.Rows.{matrix_at}
use Rattle.blocks.proofs.BringRows.{Clearing}
use Rattle.blocks.proofs.block_rows.bring_rows.Given as goal

abbrev pub invariant-loop-i : goal.invariant-loop-i
invariant-loop-i l = Clearing l.rows l.w l.r l.k l.c l.a l.i (matrix_at l.w l.initial.ones l.initial.twos) l.ones l.twos
