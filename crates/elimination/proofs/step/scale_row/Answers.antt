-- A trit that is not 0 is 1, and the row stays, or 2, and the row is negated: both times the row times its trit.
-- Assumes nothing.
use Rattle.trits.specs.Rows.{matrix_at}
use Rattle.grid.proofs.Cells.{read_two, read_unit, grid_to, grid_of}
use Rattle.elimination.proofs.Clears.{scaled_one, scaled_two}
use Rattle.elimination.proofs.step.scale_row.Goals as goal

pub returns-then-trit_at-eq2 : goal.returns-then-trit_at-eq2
returns-then-trit_at-eq2 c =
    let a = c.args in
    let e = read_two a.w a.ones.now a.twos.now a.at a.c _ c.requires.column c.trit_at.ensures c.if-trit_at-eq2.true in
    grid_to c.negate.ensures (scaled_two a.at a.c (matrix_at a.w a.ones.now a.twos.now) e)

pub returns-else-trit_at-eq2 : goal.returns-else-trit_at-eq2
returns-else-trit_at-eq2 c =
    let a = c.args in
    let e = read_unit a.w a.ones.now a.twos.now a.at a.c _ c.requires.column c.trit_at.ensures c.requires.set c.if-trit_at-eq2.false in
    grid_of c.requires.grid (scaled_one a.at a.c (matrix_at a.w a.ones.now a.twos.now) e)
