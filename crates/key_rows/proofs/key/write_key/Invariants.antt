-- Each turn makes the columns of one word and writes the rows that stand in them (`writing_turn`).
-- Assumes nothing.
use Prim.Native.Nat.{◌-◌, ◌≤◌}
use Rattle.key_rows.proofs.Written.{Writing}
use Rattle.key_rows.proofs.key.write_key.Given as goal

abbrev pub invariant-loop-i : goal.invariant-loop-i
invariant-loop-i l =
    (l.i ≤ l.k) × Writing l.w l.r l.kw l.i l.initial.ones l.initial.twos l.initial.ko l.initial.kt l.ones l.twos l.ko l.kt

abbrev pub decreases-loop-i : goal.decreases-loop-i
decreases-loop-i l = l.k - l.i
