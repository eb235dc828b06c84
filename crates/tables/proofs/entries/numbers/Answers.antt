-- The numbers of the two planes are small, and come together.
-- Assumes nothing.
use native.Mathlib.Omega.{arith}
use Rattle.tables.proofs.Numbers.{pairs_lt}
use Rattle.tables.proofs.entries.numbers.Goals as goal

pub overflow_mul-result : goal.overflow_mul-result
overflow_mul-result c =
    let a = c.args in
    omega (arith, pairs_lt a.x, pairs_lt a.y, c.pairs-2.ensures)

pub overflow_add-result : goal.overflow_add-result
overflow_add-result c =
    let a = c.args in
    omega (arith, pairs_lt a.x, pairs_lt a.y, c.pairs.ensures, c.pairs-2.ensures)
