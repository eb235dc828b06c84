-- The masks make the sum of two trits at every bit (`add_op`), and a turn of the loop makes one word of each plane.
-- Assumes nothing.
use Prim.Native.Nat.{◌≤◌}
use lib.ListN.{length}
use Rattle.trits.proofs.Patches.{Patched, words_at}
use Rattle.trits.proofs.WordOps.{add_ones, add_twos}
use Rattle.rows.proofs.add_row.Given as goal

abbrev pub invariant-loop-i : goal.invariant-loop-i
invariant-loop-i l =
    (l.i ≤ length l.initial.ones)
    × Patched (words_at add_ones l.initial.ones l.initial.twos l.src.ones.now l.src.twos.now 0) 0 l.i l.initial.ones l.ones
    × Patched (words_at add_twos l.initial.ones l.initial.twos l.src.ones.now l.src.twos.now 0) 0 l.i l.initial.twos l.twos
