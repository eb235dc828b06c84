-- The part that is lent is a row of its own, and holds the trits of row i (`lent_part`).
-- Assumes nothing.
use Prim.Native.Nat.{◌+◌, ◌-◌, ◌*◌}
use native.Mathlib.Omega.{arith}
use Rattle.grid.proofs.RowParts.{lent_part}
use Rattle.grid.proofs.one_row.row_of.Goals as goal

pub returns : goal.returns
returns c =
    let a = c.args in
    lent_part c.requires.rows a.i c.requires.i_lt_rows (a.i * a.w + a.w - a.i * a.w) (omega arith)
