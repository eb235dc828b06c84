-- The row is lent as a part to the function that exchanges its planes; in the matrix that part is row i (`negated_grid`).
-- Assumes nothing.
use Prim.Native.Nat.{◌+◌, ◌-◌, ◌*◌}
use native.Mathlib.Omega.{arith}
use Rattle.trits.proofs.Matrix.{row_le}
use Rattle.trits.proofs.Parts.{length_mid}
use Rattle.grid.proofs.Joins.{negated_grid}
use Rattle.grid.proofs.one_row.negate.Goals as goal

pub returns : goal.returns
returns c =
    let a = c.args in
    let k = a.i * a.w + a.w - a.i * a.w in
    let h = row_le a.w {i = a.i} {m = a.rows} c.requires.i_lt_rows in
    negated_grid a.w a.i c.requires.rows c.requires.i_lt_rows k (omega arith) (length_mid (a.i * a.w) k a.ones.now (omega (arith, h, c.requires.rows.size)))
    c.negate_row.ensures
