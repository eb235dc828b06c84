-- After i turns the first i rows, each times its trit of s, are taken, and `counts` has the ones and twos of these trits.
-- Assumes nothing.
use mathlib.Core.Path.{◌≡◌}
use lib.ListN.{length}
use Rattle.trits.specs.Trit.{sub_t, zip_v, counts_v}
use Rattle.trits.specs.Planes.{trit_at, Reads}
use Rattle.packed.specs.Packed.{packed_row}
use Rattle.verdict.specs.Verdict.{times_key}
use Rattle.held_key.specs.Held.{held_key}
use Rattle.checker.proofs.weighing.take_by_table.Given as goal

abbrev pub invariant-loop-i : goal.invariant-loop-i
invariant-loop-i l =
    (l.counts ≡ counts_v (packed_row l.s) l.i)
    × Reads l.work_ones l.work_twos (length l.initial.work_ones)
    (zip_v sub_t (trit_at l.initial.work_ones l.initial.work_twos) (times_key l.i (held_key l.held l.key.ones.now l.key.twos.now) (packed_row l.s)))
