-- Only the last word of a row has places past the length; the bits of the last words are gathered row
-- by row (`gather_turn`), and one is set from bit m % 64 on where some row has it.
-- Assumes nothing.
use Prim.Native.Nat.{◌/◌, ◌%◌, ◌≤◌, ◌^◌}
use mathlib.Core.Path.{◌≡◌}
use mathlib.Core.Bool.{not}
use lib.Dec.{eqb}
use Rattle.trits.specs.Trit.{any_to}
use Rattle.trits.proofs.Matrix.{row_past}
use Rattle.planes.proofs.faults.rows_past_end.Given as goal

abbrev pub invariant-loop-i : goal.invariant-loop-i
invariant-loop-i l =
    (l.i ≤ l.rows) × (not (eqb (l.past / 2 ^ (l.m % 64)) 0) ≡ any_to (row_past l.ones l.twos l.rows l.m) l.i)
