-- The masks are those that the byte table makes: antt computes all 243 and compares them.
-- Assumes nothing.
use mathlib.Core.Path.{refl}
use Rattle.trits.specs.Planes.{tabulate, from_bits}
use Rattle.packed.specs.Packed.{digit_of, byte_table}
use Rattle.packed.specs.Steps.{piece_of, byte_masks}
use Rattle.placing.proofs.masks.byte_masks.Goals as goal

pub returns : goal.returns
unfolding byte_masks byte_table digit_of from_bits piece_of tabulate
returns c = refl
