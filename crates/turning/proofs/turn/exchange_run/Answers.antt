-- Each turn exchanges one pair of rows (`exchange_turn`), which no other turn touches.
-- Assumes nothing.
use Prim.Native.Nat.{◌+◌, ◌*◌}
use native.Mathlib.Omega.{arith}
use Rattle.turning.proofs.Widths.{laws}
use Rattle.turning.proofs.Pairs.{exchange_turn}
use Rattle.turning.proofs.turn.exchange_run.Goals as goal

pub loop-x-preserved : goal.loop-x-preserved
loop-x-preserved c =
    let l = c.loop-x in
    exchange_turn c.args.t l.x (laws c.requires.width) l.invariant c.requires.size (omega arith) c.requires.within
    (2 * (c.args.j * c.args.t) + l.x) (omega arith)
