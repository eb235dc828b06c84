-- Each turn makes 64 columns more (`own_turn`).
-- Assumes nothing.
use Rattle.build_columns.specs.Steps.{OwnColumns}
use Rattle.build_columns.proofs.gather_own.turn_own.Given as goal

abbrev pub invariant-loop-c : goal.invariant-loop-c
invariant-loop-c l =
    OwnColumns l.w l.r l.i l.c l.initial.plane l.plane
