-- Each turn clears one column more in the rows from b on (`among_turn`), by a row that is 0 before it (`among_outside`).
-- Assumes nothing.
use Prim.Native.Nat.{◌-◌, ◌≤◌}
use Rattle.trits.specs.Rows.{matrix_at}
use Rattle.grid.specs.Steps.{Grid}
use Rattle.raising.specs.Steps.{risen_from}
use Rattle.raising.proofs.raise.raise_among.Given as goal

abbrev pub invariant-loop-j : goal.invariant-loop-j
invariant-loop-j l = (l.b ≤ l.j) × Grid l.ones l.twos l.rows l.w (risen_from l.b (l.e - l.j) l.j (matrix_at l.w l.initial.ones l.initial.twos))
