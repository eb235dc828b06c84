-- The row is lent as a part, multiplied, and comes back as row i (`mul_grid`).
-- Assumes nothing.
use Prim.Native.Nat.{◌+◌, ◌-◌, ◌*◌}
use native.Mathlib.Omega.{arith}
use Rattle.trits.specs.Planes.{trit_at}
use Rattle.trits.proofs.Parts.{length_mid}
use Rattle.trits.proofs.Matrix.{row_le}
use Rattle.grid.proofs.RowProducts.{mul_grid}
use Rattle.grid.proofs.products.mul_by.Goals as goal

pub returns : goal.returns
returns c =
    let a = c.args in
    let k = a.i * a.w + a.w - a.i * a.w in
    let h = row_le a.w {i = a.i} {m = a.rows} c.requires.i_in in
    let lo = length_mid (a.i * a.w) k a.ones.now (omega (arith, h, c.requires.grid.size)) in
    mul_grid a.w a.i c.requires.grid c.requires.i_in k (trit_at a.source.ones.now a.source.twos.now) (omega arith) lo c.mul_row.ensures
