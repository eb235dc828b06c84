-- A turn appends the piece of six bytes, which are the next trits of the row (`six_next`).
-- Assumes nothing.
use mathlib.Core.Path.{sym, ◌∙◌}
use Prim.Native.Nat.{◌*◌}
use native.Mathlib.Omega.{arith}
use Rattle.packed.specs.Packed.{packed_row}
use Rattle.packed.proofs.Pieces.{six_next}
use Rattle.placing.proofs.Writing.{none_written}
use Rattle.placing.proofs.packed_row.write_sixes.Goals as goal

pub loop-six-init : goal.loop-six-init
loop-six-init c =
    let d = c.default-w.ensures in
    (d.0, none_written (packed_row c.args.bytes.now) c.args.ones.now c.args.twos.now c.requires.twos_size d)

pub piece_of-requires : goal.piece_of-requires
piece_of-requires c =
    record { is_masks = c.requires.is_masks; good = c.requires.good; ordered = omega arith; end = omega arith; six = omega arith }

pub append-requires : goal.append-requires
append-requires c =
    let i = c.loop-six.invariant in record {
      twos_size = i.1.in_twos.size ∙ sym i.1.in_ones.size;
      room = omega (arith, i, i.1.in_ones.size, c.requires.room);
      few = omega arith;
      small = omega (arith, i.1.in_ones.size, c.requires.small);
    }

pub loop-six-preserved : goal.loop-six-preserved
loop-six-preserved c =
    let bytes = c.args.bytes.now in
    let l = c.loop-six in
    let a = c.append.ensures in (
      omega (arith, a.place, l.invariant.0),
      a.goes_on (packed_row bytes) l.invariant.1 (six_next bytes (6 * l.six) l.w.at (omega (arith, l.invariant.0)) c.piece_of.ensures),
    )

pub shape_of-ones : goal.shape_of-ones
shape_of-ones c =
    c.loop-six.invariant.1.in_ones.size

pub shape_of-twos : goal.shape_of-twos
shape_of-twos c =
    c.loop-six.invariant.1.in_twos.size ∙ sym c.requires.twos_size

pub returns : goal.returns
returns c =
    let l = c.loop-six in
    record {
      at_value = (omega (arith, l.invariant.0), omega (arith, l.invariant.0));
      written = l.invariant.1;
    }
