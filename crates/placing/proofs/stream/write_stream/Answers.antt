-- All of the stream's trits are written, and past them the row is 0 (`stream_read`).
-- Assumes nothing.
use mathlib.Core.Path.{sym, ◌∙◌}
use native.Mathlib.Omega.{arith}
use Rattle.placing.proofs.Writing.{stream_read}
use Rattle.placing.proofs.stream.write_stream.Goals as goal

pub put_stream-all-requires : goal.put_stream-all-requires
put_stream-all-requires c =
    record {
      is_masks = c.byte_masks-masks.ensures;
      twos_size = c.requires.twos_size;
      enough = c.requires.enough;
      trits_fit = omega (arith, c.requires.ones_size);
      small = omega (arith, c.requires.ones_size, c.requires.small);
    }

pub finish-requires : goal.finish-requires
finish-requires c =
    let place = c.put_stream-all.ensures.at_value in
    let w = c.put_stream-all.ensures.written in record {
      twos_size = w.in_twos.size ∙ sym w.in_ones.size;
      last = omega (arith, w.in_ones.size, place, c.requires.ones_size);
    }

pub returns : goal.returns
returns c =
    let place = c.put_stream-all.ensures.at_value in
    let w = c.put_stream-all.ensures.written in
    stream_read c.args.m c.args.bytes.now c.requires.ones_size place w c.finish.ensures
