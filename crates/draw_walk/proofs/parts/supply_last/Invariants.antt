-- Each turn puts the trit of one place more of the last part (`last_turn`).
-- Assumes nothing.
use Prim.Native.Nat.{◌+◌}
use lib.ListN.{take, drop}
use Rattle.trits.specs.Planes.{trit_at}
use Rattle.trits.specs.Rows.{matrix_at}
use Rattle.matrix.specs.Linear.{fill}
use Rattle.grid.specs.Steps.{Grid, put_row}
use Rattle.draw_walk.proofs.parts.supply_last.Given as goal

abbrev pub invariant-loop-i : goal.invariant-loop-i
invariant-loop-i l =
    Grid l.ones l.twos l.rows l.w
    (put_row l.e (fill (take l.i (drop l.from l.order)) (λ j. trit_at l.v.ones.now l.v.twos.now (l.g + j)) ((matrix_at l.w l.initial.ones l.initial.twos) l.e))
    (matrix_at l.w l.initial.ones l.initial.twos))
