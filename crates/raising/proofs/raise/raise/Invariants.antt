-- What is still to be cleared gives the result, and a block is so many columns of it (`rising_turn`).
-- Assumes nothing.
use Prim.Native.Nat.{◌-◌}
use Rattle.trits.specs.Rows.{matrix_at}
use Rattle.grid.specs.Steps.{Rows}
use Rattle.raising.proofs.Passes.{Rising}
use Rattle.raising.proofs.raise.raise.Given as goal

abbrev pub invariant-loop-done : goal.invariant-loop-done
invariant-loop-done l =
    Rows l.ones l.twos l.rows l.w × Rising l.r (l.r - l.done) (matrix_at l.w l.initial.ones l.initial.twos) (matrix_at l.w l.ones l.twos)

abbrev pub decreases-loop-done : goal.decreases-loop-done
decreases-loop-done l = l.r - l.done
