-- A turn asks one byte more, and what was found stays (`big_turn`).
-- Assumes nothing.
use mathlib.Core.Path.{◌≡◌}
use Rattle.trits.specs.Trit.{any_to}
use Rattle.packed.proofs.Keeping.{big}
use Rattle.packing.proofs.faults.bad_byte.Given as goal

abbrev pub invariant-loop-b : goal.invariant-loop-b
invariant-loop-b l = l.bad ≡ any_to (big l.bytes) l.b-index
