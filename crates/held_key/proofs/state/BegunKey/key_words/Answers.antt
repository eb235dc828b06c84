-- The words of a key fit a number (`Sizes.room`).
-- Assumes nothing.
use mathlib.Core.Path.{ap}
use Prim.Native.Nat.{ℕ, ◌*◌}
use native.Mathlib.Omega.{arith}
use Rattle.held_key.proofs.Sizes.{sizes}
use Rattle.held_key.proofs.state.BegunKey.key_words.Goals as goal

pub overflow_mul-result : goal.overflow_mul-result
overflow_mul-result c =
    let e = ap (λ (x : ℕ). c.args.self.held.k * x) c.row_words.ensures in
    omega (arith, (sizes _ c.args.self.sound).room, e)
