-- Each turn exchanges one pair of rows (`exchange_turn`), which no other turn touches.
-- Assumes nothing.
use Prim.Native.Nat.{◌+◌, ◌*◌}
use Rattle.turning.specs.Steps.{ExchangedPairs}
use Rattle.turning.proofs.turn.exchange_run.Given as goal

abbrev pub invariant-loop-x : goal.invariant-loop-x
invariant-loop-x l =
    ExchangedPairs l.j (l.j * l.t) (l.j * l.t + l.x) l.initial.block l.block
