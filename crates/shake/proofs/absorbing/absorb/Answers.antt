-- After j turns the state is that after j blocks.
-- Assumes nothing.
use Prim.Native.Nat.{◌+◌, ◌/◌}
use mathlib.Core.Path.{◌≡◌, refl}
use mathlib.Core.List.{◌++◌}
use native.Mathlib.Omega.{arith}
use lib.ListN.{length}
use Rattle.keccak.specs.Lanes.{lanes_of, sheet_of}
use Rattle.shake.specs.Shake.{rate, absorbed, blocks_of}
use Rattle.shake.proofs.Bytes.{parts_size}
use Rattle.shake.proofs.Sponge.{absorbed_next}
use Rattle.shake.proofs.absorbing.absorb.Goals as goal

pub overflow_add-blocks : goal.overflow_add-blocks
overflow_add-blocks c =
    omega (arith, c.requires.short, c.requires.fits)

pub loop-j-init : goal.loop-j-init
unfolding absorbed lanes_of sheet_of
loop-j-init c =
    (omega arith, refl)

pub overflow_mul-j : goal.overflow_mul-j
overflow_mul-j c =
    omega (arith, c.requires.short, c.requires.fits)

pub absorb_block-next-requires : goal.absorb_block-next-requires
absorb_block-next-requires c =
    record { message = c.requires; place = omega (arith, parts_size c.args.first.now c.args.last.now) }

pub loop-j-preserved : goal.loop-j-preserved
loop-j-preserved c =
    let s = c.args in
    (omega arith, absorbed_next (s.first.now ++ s.last.now) c.loop-j.j c.loop-j.invariant.1 c.absorb_block-next.ensures)

pub returns : goal.returns
unfolding blocks_of
returns c =
    let s = c.args in
    let l = parts_size s.first.now s.last.now in
    let e : c.loop-j.j ≡ length (s.first.now ++ s.last.now) / rate + 1 = omega (arith, l) in
    rw e at c.loop-j.invariant.1
