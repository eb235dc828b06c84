-- A position below m has the place of its column; past it there is 0.
-- Assumes nothing.
use mathlib.Core.Path.{sym, ap, ◌∙◌}
use native.Mathlib.Omega.{arith}
use lib.ListN.{get_or}
use Rattle.gathering.proofs.Blocks.{picked_in, picked_past}
use Rattle.gathering.proofs.gather.pick.Goals as goal

pub returns-then-p-m : goal.returns-then-p-m
returns-then-p-m c =
    let a = c.args in
    ap (λ q. get_or a.work.now q 0) c.from.ensures ∙ sym (picked_in (λ q. get_or a.work.now q 0) a.order.now a.m a.p (omega arith))

pub returns-else-p-m : goal.returns-else-p-m
returns-else-p-m c =
    let a = c.args in
    sym (picked_past (λ q. get_or a.work.now q 0) a.order.now a.m a.p (omega arith))
