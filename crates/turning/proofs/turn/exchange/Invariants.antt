-- Each turn exchanges one run of pairs more (`exchange_join`); the runs are all 32 pairs.
-- Assumes nothing.
use Prim.Native.Nat.{◌*◌}
use Rattle.turning.specs.Steps.{ExchangedPairs}
use Rattle.turning.proofs.turn.exchange.Given as goal

abbrev pub invariant-loop-t : goal.invariant-loop-t
invariant-loop-t l =
    ExchangedPairs l.j 0 (l.j * l.t) l.initial.block l.block
