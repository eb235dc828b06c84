-- All bytes are written, and past them, and past m, the row is 0 (`bytes_end`, `packed_out`).
-- Assumes nothing.
use mathlib.Core.Path.{sym, ◌∙◌}
use native.Mathlib.Omega.{arith}
use Rattle.trits.proofs.Reading.{holds_reads}
use Rattle.packed.specs.Packed.{packed_row}
use Rattle.packed.proofs.Past.{bytes_end}
use Rattle.packed.proofs.Turned.{bytes_passed, packed_out}
use Rattle.placing.proofs.packed_row.write_packed.Goals as goal

pub write_sixes-begun-requires : goal.write_sixes-begun-requires
write_sixes-begun-requires c =
    record {
      is_masks = c.byte_masks-masks.ensures;
      good = (bytes_passed c.args.m c.args.bytes.now c.requires.not_refused).0;
      twos_size = c.requires.twos_size;
      room = omega (arith, c.requires.ones_size, c.requires.bytes_size);
      small = omega (arith, c.requires.ones_size, c.requires.small);
    }

pub write_last-all-requires : goal.write_last-all-requires
write_last-all-requires c =
    let place = c.write_sixes-begun.ensures.at_value in
    let w = c.write_sixes-begun.ensures.written in record {
      bytes_fit = record {
        is_masks = c.byte_masks-masks.ensures;
        good = (bytes_passed c.args.m c.args.bytes.now c.requires.not_refused).0;
        twos_size = w.in_twos.size ∙ sym w.in_ones.size;
        room = omega (arith, w.in_ones.size, c.requires.ones_size, c.requires.bytes_size);
        small = omega (arith, w.in_ones.size, c.requires.ones_size, c.requires.small);
      };
      whole = place.0;
      within = place.1;
      so_far = rw w.in_ones.size w;
    }

pub finish-requires : goal.finish-requires
finish-requires c =
    let place = c.write_last-all.ensures.at_value in
    let w = c.write_last-all.ensures.written in
    let v = c.write_sixes-begun.ensures.written in record {
      twos_size = w.in_twos.size ∙ sym w.in_ones.size;
      last = omega (arith, w.in_ones.size, v.in_ones.size, place, c.requires.ones_size, c.requires.bytes_size);
    }

pub returns : goal.returns
returns c =
    let bytes = c.args.bytes.now in
    let place = c.write_last-all.ensures.at_value in
    let w = c.write_last-all.ensures.written in
    let v = c.write_sixes-begun.ensures.written in
    rw (← v.in_ones.size) (holds_reads _ _ _ _
    (λ p l. packed_out c.args.m bytes c.requires.not_refused p (omega (arith, l, v.in_ones.size, c.requires.ones_size)))
    (c.finish.ensures.holds (packed_row bytes) w (λ p l. bytes_end bytes p (omega (arith, l, place)))))
