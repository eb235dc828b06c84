-- Each turn makes 64 columns more (`columns_turn`).
-- Assumes nothing.
use Rattle.gathering.specs.Steps.{Columns}
use Rattle.gathering.proofs.gather.turn_columns.Given as goal

abbrev pub invariant-loop-c : goal.invariant-loop-c
invariant-loop-c l =
    Columns l.h l.i l.w l.c l.initial.work l.work
