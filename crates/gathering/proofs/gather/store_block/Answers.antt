-- Each turn stores one word more (`stored_turn`); the block stands after the rows.
-- Assumes nothing.
use mathlib.Core.Path.{◌≡◌}
use native.Mathlib.Omega.{arith}
use Rattle.gathering.proofs.Blocks.{stored_turn}
use Rattle.gathering.proofs.gather.store_block.Goals as goal

pub loop-k-preserved : goal.loop-k-preserved
loop-k-preserved c =
    let l = c.loop-k in
    stored_turn l.invariant l.auto.k c.loop-k-test.true c.requires.column c.requires.after (omega arith)

pub returns : goal.returns
returns c =
    let l = c.loop-k in
    let e : l.k ≡ c.args.e = omega arith in
    rw e at l.invariant
