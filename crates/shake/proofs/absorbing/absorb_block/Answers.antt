-- A block that lies in the last part is read where it lies (`block_in_last`); any other is written out.
-- Assumes nothing.
use Prim.Native.Nat.{◌+◌, ◌-◌}
use mathlib.Core.List.{◌++◌}
use native.Mathlib.Omega.{arith}
use lib.ListN.{length}
use Rattle.shake.proofs.Bytes.{parts_size, block_in_last}
use Rattle.shake.proofs.Sponge.{block_made}
use Rattle.shake.proofs.absorbing.absorb_block.Goals as goal

pub overflow_add-end : goal.overflow_add-end
overflow_add-end c =
    omega (arith, c.requires.message.short, c.requires.message.fits, c.requires.place, parts_size c.args.first.now c.args.last.now)

pub returns : goal.returns
returns c =
    let s = c.args in
    let at = s.start - length s.first.now in
    let inside = block_in_last s.first.now s.last.now s.start at (at + 136 - at) (omega arith) (omega arith) (omega arith) in
    block_made (s.first.now ++ s.last.now) s.start s.a inside c.add_block.ensures c.permute.ensures
