-- Each turn copies one row more (`fronts_turn`).
-- Assumes nothing.
use Rattle.build_ranks.specs.Steps.{Fronts}
use Rattle.build_ranks.proofs.ranks.copy_front.Given as goal

abbrev pub invariant-loop-i : goal.invariant-loop-i
invariant-loop-i l = Fronts l.plane l.w l.v l.i l.initial.work l.work
