-- One more row is counted, and nothing else changes.
-- Assumes nothing.
use mathlib.Core.Path.{refl}
use native.Mathlib.Omega.{arith}
use Rattle.held_key.specs.Store.{next_held}
use Rattle.held_key.proofs.Sizes.{sizes}
use Rattle.held_key.proofs.state.BegunKey.count_row.Goals as goal

pub overflow_add-result : goal.overflow_add-result
overflow_add-result c =
    omega (arith, sizes _ c.args.self.sound)

pub returns : goal.returns
unfolding next_held
returns c =
    refl
