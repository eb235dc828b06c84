-- Each turn solves one row more, from the last on (`solving_turn`); the rows above e are read as they were.
-- Assumes nothing.
use native.Mathlib.Omega.{arith}
use Rattle.draw_walk.proofs.Solving.{solving_turn, solving_done}
use Rattle.draw_walk.proofs.walk.solve_pivots.Goals as goal

pub loop-c-preserved : goal.loop-c-preserved
loop-c-preserved c =
    let l = c.loop-c in
    solving_turn l.invariant (omega arith) (omega arith) c.pivot_place-q.ensures.value c.lessen.ensures

pub returns : goal.returns
returns c = solving_done c.loop-c.invariant (omega arith)
