-- Each turn copies one word: the part is the first words of the row, and then its own (`copy_turn`).
-- Assumes nothing.
use mathlib.Core.Path.{refl, ◌∙◌}
use native.Mathlib.Omega.{arith}
use lib.ListN.{length-set}
use Rattle.trits.proofs.Lists.{copy_turn, copy_all}
use Rattle.planes.proofs.words.write_row.Goals as goal

pub loop-i-init : goal.loop-i-init
loop-i-init c =
    (omega arith, refl, refl)

pub loop-i-preserved : goal.loop-i-preserved
loop-i-preserved c =
    let l = c.loop-i in
    let a = c.args in
    (omega arith, length-set l.part l.i _ ∙ l.invariant.1, copy_turn a.row.now a.part.now l.i (omega arith) (omega arith) l.invariant.2)

pub returns : goal.returns
returns c =
    copy_all _ _ c.loop-i.i (omega arith) c.loop-i.invariant.2
