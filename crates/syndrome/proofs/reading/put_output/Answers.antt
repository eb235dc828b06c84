-- After each byte the row is written with the output's first trits, as many as the bytes read so far give (`Stands`, `byte_trits`).
-- Assumes nothing.
use Prim.Native.Nat.{◌+◌, ◌<◌}
use mathlib.Core.Path.{sym, ◌∙◌}
use native.Mathlib.Omega.{arith}
use lib.ListN.{length}
use Rattle.packed.specs.Stream.{stream_row}
use Rattle.packed.proofs.Putting.{stands_none, stands_byte, byte_trits}
use Rattle.placing.proofs.Writing.{none_written, stands_end}
use Rattle.keccak.specs.Lanes.{lane_at}
use Rattle.shake.proofs.Sponge.{output_gives, in_block, taken_at, length_squeezed}
use Rattle.syndrome.specs.Steps.{output_for}
use Rattle.syndrome.proofs.reading.put_output.Goals as goal

pub loop-read-init : goal.loop-read-init
loop-read-init c =
    let a = c.args in
    let d = c.default-w.ensures in (
      rw (d.0) (stands_none _ _),
      none_written (stream_row a.m (output_for a.m a.a)) a.ones.now a.twos.now c.requires.row.twos_size d,
      output_gives _ c.of-output.ensures,
    )

pub returns-then-w-m : goal.returns-then-w-m
returns-then-w-m c = record { at_value = c.if-w-m.true; written = c.loop-read.invariant.1 }

pub next-byte-requires : goal.next-byte-requires
next-byte-requires c = in_block c.loop-read.invariant.2

pub put_next-requires : goal.put_next-requires
put_next-requires c =
    let s = c.loop-read.invariant.0 in
    let w = c.loop-read.invariant.1 in record {
      is_masks = c.requires.is_masks;
      twos_size = w.in_twos.size ∙ sym w.in_ones.size;
      place = omega (arith, s.within);
      trits_fit = omega (arith, w.in_ones.size, c.requires.row.ones_size);
      small = omega (arith, w.in_ones.size, c.requires.row.ones_size, c.requires.row.small);
    }

pub loop-read-preserved : goal.loop-read-preserved
loop-read-preserved c =
    let a = c.args in
    let l = c.loop-read in
    let s = l.invariant.0 in
    let g = l.invariant.2 in
    let taken = c.next-byte.ensures in
    let e = c.put_next.ensures in
    let row = stream_row a.m (output_for a.m a.a) in
    let more : l.w.at < a.m = omega (arith, s.within) in
    -- there is a byte of the output to read, and the byte that is put is it
    let size = length_squeezed (lane_at a.a) (a.m + 136) in
    let inside : l._read < length (output_for a.m a.a) = omega arith in
    let byte = taken_at taken g (a.m + 136) c.loop-read-test.true in (
      stands_byte s more inside byte e.place,
      e.goes_on row l.invariant.1 (byte_trits s more inside byte),
      taken.goes_on g,
    )

pub shape_of-ones : goal.shape_of-ones
shape_of-ones c =
    c.loop-read.invariant.1.in_ones.size

pub shape_of-twos : goal.shape_of-twos
shape_of-twos c =
    c.loop-read.invariant.1.in_twos.size ∙ sym c.requires.row.twos_size

pub returns : goal.returns
returns c =
    let a = c.args in
    let l = c.loop-read in
    let size = length_squeezed (lane_at a.a) (a.m + 136) in
    record {
      at_value = stands_end l.invariant.0 (omega arith) c.requires.row.enough;
      written = l.invariant.1;
    }
