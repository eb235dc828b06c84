-- Each turn copies one word: the part is the first words of the row, and then its own (`copy_turn`).
-- Assumes nothing.
use Prim.Native.Nat.{◌≤◌}
use mathlib.Core.Path.{◌≡◌}
use mathlib.Core.List.{◌++◌}
use lib.ListN.{length, take, drop}
use Rattle.planes.proofs.words.write_row.Given as goal

abbrev pub invariant-loop-i : goal.invariant-loop-i
invariant-loop-i l =
    (l.i ≤ length l.row) × (length l.part ≡ length l.initial.part) × (l.part ≡ take l.i l.row ++ drop l.i l.initial.part)
