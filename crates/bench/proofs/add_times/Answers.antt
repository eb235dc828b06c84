-- A turn adds the source once more (`added_turn`).
-- Assumes nothing.
use mathlib.Core.Path.{refl}
use Rattle.bench.specs.{added_to}
use Rattle.bench.proofs.Laws.{added_turn}
use Rattle.bench.proofs.add_times.Goals as goal

pub loop-init : goal.loop-init
unfolding added_to
loop-init c = record { row = c.requires.row; size = refl; trits = refl }

pub loop-preserved : goal.loop-preserved
loop-preserved c = added_turn c.loop.counter _ _ c.loop.invariant c.add_row.ensures
