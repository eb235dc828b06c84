-- A turn takes one byte more before those that are taken (`piece_more`).
-- Assumes nothing.
use Prim.Native.Nat.{ℕ, ◌+◌, ◌-◌, ◌*◌}
use mathlib.Core.Path.{◌≡◌, refl, ap, ◌∙◌}
use mathlib.Core.List.{List}
use native.Mathlib.Omega.{arith}
use lib.ListN.{get_or}
use Rattle.packed.specs.Packed.{packed_row}
use Rattle.packed.specs.Steps.{piece_of}
use Rattle.packed.proofs.Keeping.{bytes_small}
use Rattle.packed.proofs.Pieces.{piece_lt, piece_none, piece_more, mask_lt}
use Rattle.placing.proofs.packed_row.piece_of.Goals as goal

pub loop-i-init : goal.loop-i-init
loop-i-init c =
    let a = c.args in
    (omega arith, omega arith, piece_none a.bytes.now a.to a.to refl)

pub overflow_mul-piece : goal.overflow_mul-piece
overflow_mul-piece c =
    let l = c.loop-i in
    omega (arith, l.invariant.2, piece_lt (λ k. packed_row c.args.bytes.now (5 * l.i + k)) (5 * (c.args.to - l.i)) (omega arith))

pub mask-requires : goal.mask-requires
mask-requires c =
    bytes_small c.args.bytes.now c.requires.good _ (omega arith)

pub overflow_add-piece : goal.overflow_add-piece
overflow_add-piece c =
    let l = c.loop-i in
    let bytes = c.args.bytes.now in
    let small = bytes_small bytes c.requires.good (l.i - 1) (omega arith) in
    omega (
      arith,
      l.invariant.2,
      piece_lt (λ k. packed_row bytes (5 * l.i + k)) (5 * (c.args.to - l.i)) (omega arith),
      c.mask.ensures,
      ap (λ (m : List ℕ). get_or m (get_or bytes (l.i - 1) 0) 0) c.requires.is_masks,
      mask_lt (get_or bytes (l.i - 1) 0) small,
    )

pub loop-i-preserved : goal.loop-i-preserved
loop-i-preserved c =
    let a = c.args in
    let l = c.loop-i in
    let bytes = a.bytes.now in
    let is = ap (λ (m : List ℕ). get_or m (get_or bytes (l.i - 1) 0) 0) c.requires.is_masks in (
      omega arith,
      omega arith,
      piece_more bytes (l.i - 1) l.i a.to (omega arith) (omega arith) (bytes_small bytes c.requires.good (l.i - 1) (omega arith))
          (c.mask.ensures ∙ is) l.invariant.2,
    )

pub returns : goal.returns
returns c =
    let l = c.loop-i in
    let a = c.args in
    let e : l.i ≡ a.from = omega arith in
    l.invariant.2 ∙ ap (λ (i : ℕ). piece_of (λ k. packed_row a.bytes.now (5 * i + k)) (5 * (a.to - i))) e
