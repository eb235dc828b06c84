-- Each turn puts one trit of the word at the next place (`column_turn`).
-- Assumes nothing.
use lib.ListN.{length}
use Rattle.trits.specs.Rows.{matrix_at}
use Rattle.trits.specs.Planes.{Reads}
use Rattle.trits.specs.Trit.{up_to}
use Rattle.draw_pairs.specs.Steps.{written_from}
use Rattle.draw_pairs.proofs.places.put_places.Given as goal

abbrev pub invariant-loop-j : goal.invariant-loop-j
invariant-loop-j l =
    Reads l.oo l.ot (length l.initial.oo) (up_to l.j (written_from l.half (matrix_at l.w l.m.ones.now l.m.twos.now l.u)
    (matrix_at l.w l.m.ones.now l.m.twos.now l.v) l.p l.from))
