-- Each turn puts one more trit of y at its place of the order (`place_turn`); where an order lists each place once, no trit is put over another.
-- Assumes nothing.
use Rattle.trits.specs.Rows.{matrix_at}
use Rattle.trits.specs.Planes.{trit_at}
use Rattle.matrix.specs.Linear.{zeros}
use Rattle.grid.specs.Steps.{Grid}
use Rattle.scheme.specs.Draw.{placed}
use Rattle.scheme.specs.Secret.{join}
use Rattle.draw_pairs.specs.Steps.{placed_rows}
use Rattle.draw_pairs.proofs.places.place_syndrome.Given as goal

abbrev pub invariant-loop-i : goal.invariant-loop-i
invariant-loop-i l =
    Grid l.ones l.twos l.rows l.w (placed_rows l.l l.half (placed l.p (join l.i (trit_at l.y.ones.now l.y.twos.now) zeros))
    (matrix_at l.w l.initial.ones l.initial.twos))
