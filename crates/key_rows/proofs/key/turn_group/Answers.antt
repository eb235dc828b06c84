-- Each turn makes the block of 64 rows more (`group_turn`).
-- Assumes nothing.
use native.Mathlib.Omega.{arith}
use Rattle.key_rows.proofs.Turned.{group_turn}
use Rattle.key_rows.proofs.key.turn_group.Goals as goal

pub loop-g-preserved : goal.loop-g-preserved
loop-g-preserved c =
    group_turn (omega (arith, c.requires.room)) c.loop-g.invariant c.own_block.ensures
