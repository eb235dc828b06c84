-- The remainder of j by 4 says which power of 3 the row counts.
-- Assumes nothing.
use native.Mathlib.Omega.{arith}
use Rattle.matrix.proofs.BasisRows.{pow3_0, pow3_1, pow3_2, pow3_3, basis_digit}
use Rattle.blocks.proofs.block_rows.basis_row.Goals as goal

pub returns-in-0 : goal.returns-in-0
returns-in-0 c =
    let a = c.args in
    basis_digit a.r a.j 0 1 c.in-0.is pow3_0

pub returns-in-1 : goal.returns-in-1
returns-in-1 c =
    let a = c.args in
    basis_digit a.r a.j 1 3 c.in-1.is pow3_1

pub returns-in-2 : goal.returns-in-2
returns-in-2 c =
    let a = c.args in
    basis_digit a.r a.j 2 9 c.in-2.is pow3_2

pub returns-in_default : goal.returns-in_default
returns-in_default c =
    let a = c.args in
    basis_digit a.r a.j 3 27 (omega arith) pow3_3
