-- A row is short, so that nothing wraps.
-- Assumes nothing.
use native.Mathlib.Omega.{arith}
use Rattle.held_key.proofs.Sizes.{sizes}
use Rattle.held_key.proofs.state.BegunKey.row_words.Goals as goal

pub overflow_add-result : goal.overflow_add-result
overflow_add-result c =
    omega (arith, sizes _ c.args.self.sound, c.row_trits.ensures)
