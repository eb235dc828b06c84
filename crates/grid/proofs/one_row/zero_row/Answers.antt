-- The row is lent as a part, made 0, and comes back as row i (`zero_grid`).
-- Assumes nothing.
use Prim.Native.Nat.{◌+◌, ◌-◌, ◌*◌}
use native.Mathlib.Omega.{arith}
use Rattle.trits.proofs.Parts.{length_mid}
use Rattle.trits.proofs.Matrix.{row_le}
use Rattle.grid.proofs.RowParts.{zero_grid}
use Rattle.grid.proofs.one_row.zero_row.Goals as goal

pub returns : goal.returns
returns c =
    let a = c.args in
    let k = a.i * a.w + a.w - a.i * a.w in
    let h = row_le a.w {i = a.i} {m = a.rows} c.requires.i_lt_rows in
    let lo = length_mid (a.i * a.w) k a.ones.now (omega (arith, h, c.requires.rows.size)) in
    let lt = length_mid (a.i * a.w) k a.twos.now (omega (arith, h, c.requires.rows.size, c.requires.rows.row.same)) in
    zero_grid a.w a.i c.requires.rows c.requires.i_lt_rows k (omega arith) lo lt c.zero_words.ensures c.zero_words-2.ensures
