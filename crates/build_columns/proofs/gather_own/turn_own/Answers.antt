-- Each turn makes 64 columns more (`own_turn`).
-- Assumes nothing.
use mathlib.Core.Path.{refl}
use Prim.Native.Nat.{◌+◌, ◌*◌}
use native.Mathlib.Omega.{arith}
use Rattle.build_columns.proofs.Planes.{own_turn}
use Rattle.build_columns.proofs.gather_own.turn_own.Goals as goal

pub loop-c-preserved : goal.loop-c-preserved
loop-c-preserved c =
    own_turn (c.args.r * c.args.w + 64 * c.loop-c.c) refl (omega (arith, c.requires.room)) c.loop-c.invariant c.own_block.ensures
