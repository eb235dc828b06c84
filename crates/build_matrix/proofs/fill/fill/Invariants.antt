-- Each turn makes both halves of one row more (`halves_turn`).
-- Assumes nothing.
use Rattle.trits.specs.Rows.{matrix_at}
use Rattle.grid.specs.Steps.{Grid}
use Rattle.build_matrix.specs.Steps.{halves_in, half_of}
use Rattle.build_matrix.proofs.fill.fill.Given as goal

abbrev pub invariant-loop-i : goal.invariant-loop-i
invariant-loop-i l =
    let H = matrix_at l.w l.h.ones.now l.h.twos.now in
    Grid l.ones l.twos l.rows l.w
    (halves_in l.first l.i (λ i. half_of l.left (H i)) (λ i. half_of l.right (H i)) (matrix_at l.w l.initial.ones l.initial.twos))
