-- A turn adds the source once more (`added_turn`).
-- Assumes nothing.
use lib.ListN.{length}
use Rattle.trits.specs.Planes.{trit_at, Reads}
use Rattle.bench.specs.{added_to}
use Rattle.bench.proofs.add_times.Given as goal

abbrev pub invariant-loop : goal.invariant-loop
invariant-loop l =
    Reads l.ones l.twos (length l.initial.ones) (added_to l.counter (trit_at l.initial.ones l.initial.twos) (trit_at l.source.ones.now l.source.twos.now))
