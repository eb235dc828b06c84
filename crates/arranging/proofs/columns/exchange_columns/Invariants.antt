-- Each turn exchanges the trits of one row more (`exchanged_turn`); past the rows every trit is 0.
-- Assumes nothing.
use Rattle.trits.specs.Rows.{matrix_at}
use Rattle.grid.specs.Steps.{Grid}
use Rattle.arranging.proofs.Exchanges.{exchanged_to}
use Rattle.arranging.proofs.columns.exchange_columns.Given as goal

abbrev pub invariant-loop-i : goal.invariant-loop-i
invariant-loop-i l = Grid l.ones l.twos l.rows l.w (exchanged_to l.a l.b l.i (matrix_at l.w l.initial.ones l.initial.twos))
