-- Each turn stores one word more (`stored_turn`); the block stands after the rows.
-- Assumes nothing.
use Rattle.gathering.specs.Steps.{Stored}
use Rattle.gathering.proofs.gather.store_block.Given as goal

abbrev pub invariant-loop-k : goal.invariant-loop-k
invariant-loop-k l =
    Stored l.at l.w l.i l.k l.c l.initial.plane l.plane
