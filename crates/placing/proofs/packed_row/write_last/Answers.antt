-- A turn appends one byte, whose trits are the next of the row (`byte_next`).
-- Assumes nothing.
use Prim.Native.Nat.{ℕ, ◌+◌}
use mathlib.Core.Path.{ap, sym, ◌∙◌}
use native.Mathlib.Omega.{arith}
use lib.ListN.{get_or}
use Rattle.packed.specs.Packed.{packed_row}
use Rattle.packed.proofs.Digits.{packed_place}
use Rattle.packed.proofs.Keeping.{bytes_small}
use Rattle.packed.proofs.Pieces.{byte_next}
use Rattle.placing.proofs.packed_row.write_last.Goals as goal

pub loop-i-init : goal.loop-i-init
loop-i-init c =
    (omega (arith, c.requires.within), omega (arith, c.requires.whole), c.requires.so_far)

pub mask-requires : goal.mask-requires
mask-requires c =
    bytes_small c.args.bytes.now c.requires.bytes_fit.good _ (omega arith)

pub append-requires : goal.append-requires
append-requires c =
    let fit = c.requires.bytes_fit in
    let i = c.loop-i.invariant in record {
      twos_size = i.2.in_twos.size ∙ sym i.2.in_ones.size;
      room = omega (arith, i, i.2.in_ones.size, fit.room);
      few = omega arith;
      small = omega (arith, i.2.in_ones.size, fit.small);
    }

pub loop-i-preserved : goal.loop-i-preserved
loop-i-preserved c =
    let bytes = c.args.bytes.now in
    let l = c.loop-i in
    let a = c.append.ensures in
    let small = bytes_small bytes c.requires.bytes_fit.good l.i (omega arith) in (
      omega arith,
      omega (arith, a.place, l.invariant.1),
      a.goes_on (packed_row bytes) l.invariant.2 (byte_next c.requires.bytes_fit.is_masks (packed_row bytes) (get_or bytes l.i 0) l.w.at small
          c.mask.ensures (λ k q. ap (λ (p : ℕ). packed_row bytes (p + k)) l.invariant.1 ∙ packed_place bytes l.i k q)),
    )

pub shape_of-ones : goal.shape_of-ones
shape_of-ones c =
    c.loop-i.invariant.2.in_ones.size

pub shape_of-twos : goal.shape_of-twos
shape_of-twos c =
    c.loop-i.invariant.2.in_twos.size ∙ sym c.requires.bytes_fit.twos_size

pub returns : goal.returns
returns c =
    let l = c.loop-i in
    record {
      at_value = omega (arith, l.invariant.1);
      written = l.invariant.2;
    }
