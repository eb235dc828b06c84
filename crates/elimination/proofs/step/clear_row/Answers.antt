-- The trit of the row is 1, 2 or 0: the pivot's row is subtracted once, added (which is subtracted twice), or left.
-- Assumes nothing.
use Rattle.std.proofs.Common.{rules}
use Rattle.trits.specs.Rows.{matrix_at}
use Rattle.grid.proofs.Cells.{read_one, read_two, read_none, grid_to, grid_of}
use Rattle.elimination.proofs.Clears.{clear_one, clear_two, clear_none}
use Rattle.elimination.proofs.step.clear_row.Goals as goal

pub returns-in-1 : goal.returns-in-1
returns-in-1 c =
    let a = c.args in
    let e = read_one a.w a.ones.now a.twos.now a.i a.c _ c.requires.column c.trit_at.ensures c.in-1.is in
    grid_to c.sub_rows.ensures (clear_one a.i a.at a.c (matrix_at a.w a.ones.now a.twos.now) e)

pub returns-in-2 : goal.returns-in-2
returns-in-2 c =
    let a = c.args in
    let e = read_two a.w a.ones.now a.twos.now a.i a.c _ c.requires.column c.trit_at.ensures c.in-2.is in
    grid_to c.add_rows.ensures (clear_two a.i a.at a.c (matrix_at a.w a.ones.now a.twos.now) e)

pub returns-in_default : goal.returns-in_default
returns-in_default c =
    let a = c.args in
    let e = read_none a.w a.ones.now a.twos.now a.i a.c _ c.requires.column c.trit_at.ensures (search rules)
    (search rules) in
    grid_of c.requires.grid (clear_none a.i a.at a.c (matrix_at a.w a.ones.now a.twos.now) e)
