-- Each turn lends the part of row j to the row writer, and what comes back is one row more (`written_turn`).
-- Assumes nothing.
use Prim.Native.Nat.{◌+◌, ◌-◌, ◌*◌}
use native.Mathlib.Omega.{arith}
use Rattle.trits.proofs.Matrix.{row_le}
use Rattle.trits.proofs.Parts.{length_mid}
use Rattle.key_rows.proofs.Written.{written_turn}
use Rattle.key_rows.proofs.key.write_group.Goals as goal

pub loop-j-preserved : goal.loop-j-preserved
loop-j-preserved c =
    let a = c.args in
    let l = c.loop-j in
    let n = l.j * a.kw + a.kw - l.j * a.kw in
    let fits = row_le a.kw {i = l.j} {m = a.e} c.loop-j-test.true in
    written_turn a.plane.now a.at n (omega arith) l.invariant (omega arith) (omega (arith, fits, c.requires.size)) c.write_row.ensures
    (length_mid (l.j * a.kw) n l.key (omega (arith, fits, c.requires.size, l.invariant.kept)))
