-- Each turn makes the block of 64 rows more (`group_turn`).
-- Assumes nothing.
use Rattle.key_rows.specs.Steps.{TurnedGroup}
use Rattle.key_rows.proofs.key.turn_group.Given as goal

abbrev pub invariant-loop-g : goal.invariant-loop-g
invariant-loop-g l =
    TurnedGroup l.w l.r l.c l.g l.initial.plane l.plane
