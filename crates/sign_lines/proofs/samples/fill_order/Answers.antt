-- Each place is the one before turned on, is below the length, and is written in its turn.
-- Assumes nothing.
use mathlib.Core.Path.{refl, ◌∙◌}
use native.Mathlib.Omega.{arith}
use lib.ListN.{length}
use Rattle.sign_lines.specs.{ring_place, ring_order}
use Rattle.sign_lines.proofs.Made.{place_next, order_next}
use Rattle.sign_lines.proofs.samples.fill_order.Goals as goal

pub loop-item-init : goal.loop-item-init
unfolding ring_order ring_place
loop-item-init c = (omega arith, refl, refl)

pub loop-item-preserved : goal.loop-item-preserved
loop-item-preserved c =
    let l = c.loop-item in
    let a = c.args in
    let n = length a.order.now in
    let j = l.item-index in (
      c.turn-q.ensures.upper_bound,
      c.turn-q.ensures.value ∙ place_next n a.a a.b j l.q l.invariant.1,
      order_next n a.a a.b j l.order c.place.result (omega arith) l.invariant.2 (omega (arith, c.place.ensures, l.invariant.1)),
    )
