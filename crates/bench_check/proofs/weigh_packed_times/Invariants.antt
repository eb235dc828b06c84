-- Each turn works out the same ones and twos (`after_turn`); the working space keeps its lengths.
-- Assumes nothing.
use mathlib.Core.Path.{◌≡◌}
use lib.ListN.{length}
use Rattle.packed.specs.Packed.{packed_row}
use Rattle.check_tests.specs.Check.{held_counts}
use Rattle.bench_check.specs.{after}
use Rattle.bench_check.proofs.weigh_packed_times.Given as goal

abbrev pub invariant-loop-i : goal.invariant-loop-i
invariant-loop-i l =
    (length l.work_ones ≡ length l.initial.work_ones) × (length l.work_twos ≡ length l.initial.work_twos)
    × (l.counts ≡ after l._i (held_counts l.begun.held l.key.ones.now l.key.twos.now (packed_row l.y) (packed_row l.s)))
