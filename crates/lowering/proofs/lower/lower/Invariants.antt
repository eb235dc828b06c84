-- Each turn tries the columns of a block, or one that has no pivot (`lowering_next`), until no column or no row is left (`lowering_done`).
-- Assumes nothing.
use Prim.Native.Nat.{◌-◌, ◌≤◌}
use Rattle.trits.specs.Rows.{matrix_at}
use Rattle.matrix.proofs.Lowering.{Lowering}
use Rattle.grid.specs.Steps.{Rows}
use Rattle.lowering.proofs.lower.lower.Given as goal

abbrev pub invariant-loop-c : goal.invariant-loop-c
invariant-loop-c l =
    (l.c ≤ l.m) × Rows l.ones l.twos l.rows l.w × Lowering l.r (matrix_at l.w l.initial.ones l.initial.twos) l.c l.at (matrix_at l.w l.ones l.twos)

abbrev pub decreases-loop-c : goal.decreases-loop-c
decreases-loop-c l = l.m - l.c
