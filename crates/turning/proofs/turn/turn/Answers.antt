-- The six stages together turn the block (`six_stages`).
-- Assumes nothing.
use native.Mathlib.Omega.{arith}
use Rattle.turning.specs.Steps.{by32, by16, by8, by4, by2, by1}
use Rattle.turning.proofs.Stages.{six_stages}
use Rattle.turning.proofs.turn.turn.Goals as goal

pub exchange-requires : goal.exchange-requires
exchange-requires c = record { size = c.requires; width = by32 }

pub exchange-requires-2 : goal.exchange-requires-2
exchange-requires-2 c = record { size = omega arith; width = by16 }

pub exchange-requires-3 : goal.exchange-requires-3
exchange-requires-3 c = record { size = omega arith; width = by8 }

pub exchange-requires-4 : goal.exchange-requires-4
exchange-requires-4 c = record { size = omega arith; width = by4 }

pub exchange-requires-5 : goal.exchange-requires-5
exchange-requires-5 c = record { size = omega arith; width = by2 }

pub exchange-requires-6 : goal.exchange-requires-6
exchange-requires-6 c = record { size = omega arith; width = by1 }

pub returns : goal.returns
returns c =
    six_stages c.exchange.ensures c.exchange-2.ensures c.exchange-3.ensures c.exchange-4.ensures c.exchange-5.ensures
    c.exchange-6.ensures
