-- Each turn solves one row more, from the last on (`solving_turn`); the rows above e are read as they were.
-- Assumes nothing.
use Rattle.trits.specs.Rows.{matrix_at}
use Rattle.matrix.specs.Linear.{range}
use Rattle.draw_walk.proofs.Solving.{Solving}
use Rattle.draw_walk.proofs.walk.solve_pivots.Given as goal

abbrev pub invariant-loop-c : goal.invariant-loop-c
invariant-loop-c l = Solving l.rows l.w l.e (matrix_at l.w l.initial.ones l.initial.twos) (range l.m) l.r l.c l.ones l.twos
