-- Each turn takes one of the untried columns: it has a pivot (`taking_pivot`), or it changes places with the last of them (`taking_turn`).
-- Assumes nothing.
use Prim.Native.Nat.{◌≤◌}
use Rattle.trits.specs.Rows.{matrix_at}
use Rattle.grid.specs.Steps.{Rows}
use Rattle.arranging.specs.Columns.{PivotsTaken}
use Rattle.arranging.proofs.arrange.take_pivots.Given as goal

abbrev pub invariant-loop-k : goal.invariant-loop-k
invariant-loop-k l =
    (l.k ≤ l.end) × Rows l.ones l.twos l.rows l.w
    × PivotsTaken l.r l.at l.k l.left l.n l.initial.order l.order (matrix_at l.w l.initial.ones l.initial.twos) (matrix_at l.w l.ones l.twos)

abbrev pub decreases-loop-k : goal.decreases-loop-k
decreases-loop-k l = l.n
