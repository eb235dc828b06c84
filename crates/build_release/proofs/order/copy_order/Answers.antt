-- Each turn copies one place: p is the first places of the order, and then its own (`copy_turn`).
-- Assumes nothing.
use mathlib.Core.Path.{refl, ◌∙◌}
use native.Mathlib.Omega.{arith}
use lib.ListN.{length-set}
use Rattle.trits.proofs.Lists.{copy_turn, copy_all, copied}
use Rattle.build_release.proofs.order.copy_order.Goals as goal

pub loop-i-init : goal.loop-i-init
loop-i-init c =
    (omega arith, refl, refl)

pub loop-i-preserved : goal.loop-i-preserved
loop-i-preserved c =
    let l = c.loop-i in
    let a = c.args in
    (omega arith, length-set l.p l.i _ ∙ l.invariant.1, copy_turn a.order.now a.p.now l.i (omega arith) (omega arith) l.invariant.2)

pub returns : goal.returns
returns c =
    let l = c.loop-i in
    copied _ _ (copy_all _ _ l.i (omega arith) l.invariant.2) c.requires
