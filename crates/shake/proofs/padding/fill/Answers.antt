-- A turn writes one byte of the padded message.
-- Assumes nothing.
use mathlib.Core.Path.{refl}
use native.Mathlib.Omega.{arith}
use Rattle.trits.proofs.Patches.{patch_none, patch_more, patched_all}
use Rattle.shake.specs.Steps.{block_from}
use Rattle.shake.proofs.Bytes.{parts_size}
use Rattle.shake.proofs.padding.fill.Goals as goal

pub loop-i-init : goal.loop-i-init
loop-i-init c =
    (omega arith, patch_none _ _ _)

pub overflow_add-start : goal.overflow_add-start
overflow_add-start c =
    let p = c.requires in
    omega (arith, p.message.short, p.message.fits, p.place, parts_size c.args.first.now c.args.last.now)

pub padded_byte-requires : goal.padded_byte-requires
padded_byte-requires c =
    record { message = c.requires.message; place = omega (arith, c.requires.place) }

pub loop-i-preserved : goal.loop-i-preserved
loop-i-preserved c =
    let l = c.loop-i in
    (omega arith, patch_more l.invariant.1 l.i _ (omega arith) (omega arith) c.padded_byte.ensures)

pub shape_of-block : goal.shape_of-block
shape_of-block c =
    c.loop-i.invariant.1.kept

pub returns : goal.returns
unfolding block_from
returns c =
    patched_all _ c.loop-i.invariant.1 refl (omega arith)
