-- The row is lent as a part, and comes back as row j (`put_grid`).
-- Assumes nothing.
use Prim.Native.Nat.{◌+◌, ◌-◌, ◌*◌}
use native.Mathlib.Omega.{arith}
use Rattle.trits.specs.Planes.{trit_at}
use Rattle.trits.proofs.Matrix.{row_le}
use Rattle.trits.proofs.Parts.{length_mid}
use Rattle.grid.proofs.RowParts.{put_grid, past_words}
use Rattle.build_matrix.proofs.HalfRows.{half_past}
use Rattle.build_matrix.proofs.halves.Half.put.Goals as goal

pub returns : goal.returns
returns c =
    let a = c.args in
    let k = a.j * a.w + a.w - a.j * a.w in
    let fits = row_le a.w {i = a.j} {m = a.rows} c.requires.j_in in
    put_grid a.w a.j c.requires.grid c.requires.j_in k (omega arith) (length_mid (a.j * a.w) k a.ones.now (omega (arith, fits, c.requires.grid.size)))
    c.make.ensures
    (λ q l. half_past a.self (trit_at a.h.ones.now a.h.twos.now) q (past_words a.w c.requires.h_row c.requires.h_size q l))
