-- No row is left, or row c tells it by its trit there (`next_row`).
-- Assumes nothing.
use native.Mathlib.Omega.{arith}
use Rattle.trits.specs.Rows.{matrix_at}
use Rattle.draw_walk.proofs.Puts.{next_row}
use Rattle.draw_walk.proofs.walk.is_next.Goals as goal

pub returns-then-c-r : goal.returns-then-c-r
returns-then-c-r c =
    let a = c.args in
    next_row a.r (matrix_at a.w a.a.ones.now a.a.twos.now) a.c a.q (omega arith) c.cell.ensures
