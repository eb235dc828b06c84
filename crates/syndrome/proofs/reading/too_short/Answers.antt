-- What is missing is counted down byte by byte of the output (`missing_turn`, `Gives`).
-- Assumes nothing.
use Prim.Native.Nat.{◌+◌}
use mathlib.Core.Path.{ap, ◌∙◌}
use native.Mathlib.Omega.{arith}
use Rattle.packed.specs.Steps.{missing}
use Rattle.packed.specs.Stream.{kept}
use Rattle.packed.proofs.Keeping.{missing_turn, long_enough, counted_out}
use Rattle.keccak.specs.Lanes.{lane_at}
use Rattle.shake.proofs.Sponge.{output_gives, in_block, taken_at, length_squeezed}
use Rattle.syndrome.specs.Steps.{output_for}
use Rattle.syndrome.proofs.reading.too_short.Goals as goal

pub loop-read-init : goal.loop-read-init
unfolding kept
loop-read-init c = (omega arith, output_gives _ c.of-output.ensures)

pub returns-then-left-eq0 : goal.returns-then-left-eq0
returns-then-left-eq0 c =
    let l = c.loop-read in
    let a = c.args in
    long_enough a.m (output_for a.m a.a) l._read l.invariant.0 c.if-left-eq0.true

pub next-requires : goal.next-requires
next-requires c = in_block c.loop-read.invariant.1

pub loop-read-preserved : goal.loop-read-preserved
loop-read-preserved c =
    let l = c.loop-read in
    let a = c.args in
    let g = l.invariant.1 in
    let taken = c.next.ensures in
    let size = length_squeezed (lane_at a.a) (a.m + 136) in
    let byte = taken_at taken g (a.m + 136) c.loop-read-test.true in (
      missing_turn a.m (output_for a.m a.a) l._read (omega arith) l.invariant.0 (c.count_byte-left.ensures ∙ ap (missing l.left) byte),
      taken.goes_on g,
    )

pub returns : goal.returns
returns c =
    let l = c.loop-read in
    let a = c.args in
    let size = length_squeezed (lane_at a.a) (a.m + 136) in
    counted_out a.m (output_for a.m a.a) l._read l.invariant.0 (omega arith)
