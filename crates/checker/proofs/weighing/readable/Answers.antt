-- The words of two slices are in their range, so that no bit in both planes means that they can be read (`planes_row`).
-- Assumes nothing.
use Rattle.trits.proofs.Refusals.{planes_row}
use Rattle.checker.proofs.weighing.readable.Goals as goal

pub returns : goal.returns
returns c = λ rows m passed same. planes_row rows m passed same c.type_inv.ones c.type_inv.twos
