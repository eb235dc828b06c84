-- After i turns the arrays are those after i rounds (`Ran`).
-- Assumes nothing.
use Rattle.keccak.proofs.Lanes.{Ran}
use Rattle.keccak.proofs.permute.Given as goal

abbrev pub invariant-loop-constant : goal.invariant-loop-constant
invariant-loop-constant l = Ran l.constant-index l.initial.b l.b
