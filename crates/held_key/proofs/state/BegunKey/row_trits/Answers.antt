-- A sound state has k below n.
-- Assumes nothing.
use native.Mathlib.Omega.{arith}
use Rattle.held_key.proofs.Sizes.{sizes}
use Rattle.held_key.proofs.state.BegunKey.row_trits.Goals as goal

pub overflow_sub-result : goal.overflow_sub-result
overflow_sub-result c =
    omega (arith, sizes _ c.args.self.sound)
