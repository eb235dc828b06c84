-- Each turn exchanges one run of pairs more (`exchange_join`); the runs are all 32 pairs.
-- Assumes nothing.
use Prim.Native.Nat.{◌+◌, ◌*◌, ◌/◌}
use mathlib.Core.Path.{◌≡◌}
use native.Mathlib.Nat.{mul-le-mul_left}
use native.Mathlib.Omega.{arith}
use Rattle.turning.proofs.Widths.{laws}
use Rattle.turning.proofs.Pairs.{exchange_join, exchange_done}
use Rattle.turning.proofs.turn.exchange.Goals as goal

pub loop-t-preserved : goal.loop-t-preserved
loop-t-preserved c =
    let l = c.loop-t in
    let e : c.args.j * (l.t + 1) ≡ c.args.j * l.t + c.args.j = omega arith in
    rw e (exchange_join (laws c.requires.width) l.invariant c.exchange_run.ensures (omega arith))

pub returns : goal.returns
returns c =
    let l = c.loop-t in
    let n = laws c.requires.width in
    exchange_done n l.invariant (omega (arith, mul-le-mul_left {m = 32 / c.args.j} {n = l.t} c.args.j (omega arith), n.runs))
