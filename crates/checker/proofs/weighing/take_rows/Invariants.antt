-- After i turns the first i rows, each times its trit of s, are taken.
-- Assumes nothing.
use lib.ListN.{length}
use Rattle.trits.specs.Trit.{sub_t, zip_v}
use Rattle.trits.specs.Planes.{trit_at, Reads}
use Rattle.verdict.specs.Verdict.{times_key}
use Rattle.held_key.specs.Held.{held_key}
use Rattle.checker.proofs.weighing.take_rows.Given as goal

abbrev pub invariant-loop-i : goal.invariant-loop-i
invariant-loop-i l =
    Reads l.work_ones l.work_twos (length l.initial.work_ones)
    (zip_v sub_t (trit_at l.initial.work_ones l.initial.work_twos)
    (times_key l.i (held_key l.held l.key.ones.now l.key.twos.now) (trit_at l.s.ones.now l.s.twos.now)))
