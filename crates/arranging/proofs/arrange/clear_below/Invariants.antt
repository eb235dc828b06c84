-- Each turn takes the pivots of a block and clears the rows below it (`going_block`), until every row has its pivot.
-- Assumes nothing.
use Prim.Native.Nat.{◌-◌, min}
use Rattle.trits.specs.Rows.{matrix_at}
use Rattle.grid.specs.Steps.{Rows}
use Rattle.arranging.proofs.Taking.{Going}
use Rattle.arranging.proofs.arrange.clear_below.Given as goal

abbrev pub invariant-loop-at : goal.invariant-loop-at
invariant-loop-at l =
    Rows l.ones l.twos l.rows l.w × Going l.r (matrix_at l.w l.initial.ones l.initial.twos) l.initial.order l.left (min l.at l.r)
    (matrix_at l.w l.ones l.twos) l.order

abbrev pub decreases-loop-at : goal.decreases-loop-at
decreases-loop-at l = l.r - l.at
