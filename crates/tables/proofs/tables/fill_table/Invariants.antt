-- Each turn makes one entry more the sum of entry p and one before it (`extended_more`).
-- Assumes nothing.
use Rattle.trits.specs.Rows.{matrix_at}
use Rattle.grid.specs.Steps.{Rows}
use Rattle.tables.specs.Tables.{Extended}
use Rattle.tables.proofs.tables.fill_table.Given as goal

abbrev pub invariant-loop-a : goal.invariant-loop-a
invariant-loop-a l =
    Rows l.ones l.twos l.rows l.w × Extended l.f l.v l.z l.p l.a (matrix_at l.w l.initial.ones l.initial.twos) (matrix_at l.w l.ones l.twos)
