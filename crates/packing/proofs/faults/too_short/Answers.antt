-- What is missing is counted down byte by byte; the stream is too short where something is missing at its end (`counted_out`).
-- Assumes nothing.
use native.Mathlib.Omega.{arith}
use Rattle.packed.proofs.Keeping.{missing_turn, long_enough, counted_out}
use Rattle.packed.specs.Stream.{kept}
use Rattle.packing.proofs.faults.too_short.Goals as goal

pub loop-b-init : goal.loop-b-init
unfolding kept
loop-b-init c = omega arith

pub returns-then-left-eq0 : goal.returns-then-left-eq0
returns-then-left-eq0 c =
    long_enough c.args.m c.args.bytes.now c.loop-b.b-index c.loop-b.invariant c.if-left-eq0.true

pub loop-b-preserved : goal.loop-b-preserved
loop-b-preserved c =
    missing_turn c.args.m c.args.bytes.now c.loop-b.b-index (omega arith) c.loop-b.invariant c.count_byte-left.ensures

pub returns : goal.returns
returns c = counted_out c.args.m c.args.bytes.now c.loop-b.b-index c.loop-b.invariant (omega arith)
