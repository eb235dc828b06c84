-- After each byte the row is written with the stream's first trits, as many as the bytes read so far give (`Stands`, `next_trits`).
-- Assumes nothing.
use Prim.Native.Nat.{◌<◌}
use mathlib.Core.Path.{sym, ◌∙◌}
use native.Mathlib.Omega.{arith}
use Rattle.packed.specs.Stream.{stream_row}
use Rattle.packed.proofs.Putting.{stands_none, stands_next, next_trits}
use Rattle.placing.proofs.Writing.{none_written, stands_end}
use Rattle.placing.proofs.stream.put_stream.Goals as goal

pub loop-b-init : goal.loop-b-init
loop-b-init c =
    let a = c.args in
    let d = c.default-w.ensures in
    (rw (d.0) (stands_none _ _), none_written (stream_row a.m a.bytes.now) a.ones.now a.twos.now c.requires.twos_size d)

pub returns-then-w-m : goal.returns-then-w-m
returns-then-w-m c = record { at_value = c.if-w-m.true; written = c.loop-b.invariant.1 }

pub put_next-requires : goal.put_next-requires
put_next-requires c =
    let s = c.loop-b.invariant.0 in
    let w = c.loop-b.invariant.1 in record {
      is_masks = c.requires.is_masks;
      twos_size = w.in_twos.size ∙ sym w.in_ones.size;
      place = omega (arith, s.within);
      trits_fit = omega (arith, w.in_ones.size, c.requires.trits_fit);
      small = omega (arith, w.in_ones.size, c.requires.small);
    }

pub loop-b-preserved : goal.loop-b-preserved
loop-b-preserved c =
    let a = c.args in
    let l = c.loop-b in
    let e = c.put_next.ensures in
    let s = l.invariant.0 in
    let more : l.w.at < a.m = omega (arith, s.within) in (
      stands_next s more (omega arith) e.place,
      e.goes_on (stream_row a.m a.bytes.now) l.invariant.1 (next_trits s more (omega arith)),
    )

pub shape_of-ones : goal.shape_of-ones
shape_of-ones c =
    c.loop-b.invariant.1.in_ones.size

pub shape_of-twos : goal.shape_of-twos
shape_of-twos c =
    c.loop-b.invariant.1.in_twos.size ∙ sym c.requires.twos_size

pub returns : goal.returns
returns c =
    let l = c.loop-b in
    record {
      at_value = stands_end l.invariant.0 (omega arith) c.requires.enough;
      written = l.invariant.1;
    }
