-- The block is written out, added and permuted (`block_made`).
-- Assumes nothing.
use mathlib.Core.List.{◌++◌}
use Rattle.shake.proofs.Bytes.{block_written}
use Rattle.shake.proofs.Sponge.{block_made}
use Rattle.shake.proofs.absorbing.absorb_written.Goals as goal

pub returns : goal.returns
returns c =
    let s = c.args in
    let message = s.first.now ++ s.last.now in
    let written = block_written message s.start 136 c.fill.ensures in
    block_made message s.start s.a written c.add_block.ensures c.permute.ensures
