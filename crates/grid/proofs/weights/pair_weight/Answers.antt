-- The sum of the weights of two rows, which is at most two for each place (`weight_le`).
-- Assumes nothing.
use Prim.Native.Nat.{◌*◌}
use native.Mathlib.Omega.{arith}
use Rattle.trits.specs.Rows.{matrix_at}
use Rattle.trits.proofs.Counting.{weight_le}
use Rattle.grid.proofs.weights.pair_weight.Goals as goal

pub overflow_add-result : goal.overflow_add-result
overflow_add-result c =
    let a = c.args in
    let A = matrix_at a.w a.m.ones.now a.m.twos.now in
    omega (arith, weight_le (A a.u) (64 * a.w), weight_le (A a.v) (64 * a.w), c.row_weight-a.ensures, c.row_weight-b.ensures, c.requires.narrow)
