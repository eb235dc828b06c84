-- The byte is one of the first part, one of the last part, or one of the padding.
-- Assumes nothing.
use mathlib.Core.Path.{◌∙◌}
use native.Mathlib.Omega.{arith}
use Rattle.shake.proofs.Bytes.{parts_size, in_first, in_last, in_padding}
use Rattle.shake.proofs.padding.padded_byte.Goals as goal

pub returns-then-i-first : goal.returns-then-i-first
returns-then-i-first c =
    let s = c.args in
    in_first s.first.now s.last.now s.i c.if-i-first.true

pub returns-then-at-last : goal.returns-then-at-last
returns-then-at-last c =
    let s = c.args in
    in_last s.first.now s.last.now s.i _ (omega arith) c.if-at-last.true

pub overflow_add-first : goal.overflow_add-first
overflow_add-first c =
    omega (arith, c.requires.message.short, c.requires.message.fits)

pub pad-requires : goal.pad-requires
pad-requires c =
    let p = c.requires.message in
    let l = parts_size c.args.first.now c.args.last.now in
    record { block_fits = omega (arith, p.short, p.fits); byte_fits = omega (arith, p.short, p.fits, c.requires.place, l) }

pub returns : goal.returns
returns c =
    let s = c.args in
    c.pad.ensures ∙ in_padding s.first.now s.last.now s.i (omega arith)
