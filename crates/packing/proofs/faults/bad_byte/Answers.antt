-- A turn asks one byte more, and what was found stays (`big_turn`).
-- Assumes nothing.
use mathlib.Core.Path.{refl}
use native.Mathlib.Omega.{arith}
use Rattle.trits.specs.Trit.{any_to}
use Rattle.packed.proofs.Keeping.{big_turn, big_all}
use Rattle.packing.proofs.faults.bad_byte.Goals as goal

pub loop-b-init : goal.loop-b-init
unfolding any_to
loop-b-init c = refl

pub loop-b-preserved : goal.loop-b-preserved
loop-b-preserved c = big_turn c.args.bytes.now c.loop-b.b-index c.loop-b.invariant

pub returns : goal.returns
returns c = big_all _ c.loop-b.b-index (omega arith) c.loop-b.invariant
