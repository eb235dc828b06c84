-- The number of the eight bytes is that of the eight places (`word_read`).
-- Assumes nothing.
use native.Mathlib.Omega.{arith}
use Rattle.shake.specs.Shake.{word_of}
use Rattle.shake.proofs.block.word.Goals as goal

pub returns : goal.returns
unfolding word_of
returns c = omega (arith, c.from_le_bytes.ensures)
