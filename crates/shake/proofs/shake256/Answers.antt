-- The message is the last of two parts, the first being empty; the output is that of the state which it makes (`squeezed_held`).
-- Assumes nothing.
use mathlib.Core.Path.{◌∙◌}
use lib.ListN.{length}
use Rattle.shake.specs.Shake.{shake256}
use Rattle.shake.specs.Shake.{absorbed, blocks_of}
use Rattle.shake.proofs.Sponge.{squeezed_held}
use Rattle.shake.proofs.shake256.Goals as goal

pub returns : goal.returns
unfolding shake256
returns c =
    let s = c.args in
    let message = s.message.now in
    c.squeeze.ensures
    ∙ squeezed_held (absorbed message (blocks_of message)) c.absorb-a.ensures (length s.output.now)
