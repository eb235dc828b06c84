-- Each turn marks one place more (`marked_turn`).
-- Assumes nothing.
use mathlib.Core.Path.{refl, ap, ◌∙◌}
use native.Mathlib.Omega.{arith}
use lib.ListN.{length, get_or}
use Rattle.calls.proofs.Marks.{mark_length, marked_turn, marked_all}
use Rattle.calls.proofs.order.mark_places.Goals as goal

pub loop-place-init : goal.loop-place-init
loop-place-init c =
    ((omega arith, refl), c.requires.marked)

pub mark_place-requires : goal.mark_place-requires
mark_place-requires c =
    let l = c.loop-place in
    omega (arith, l.invariant.0.1, c.requires.n_in_bounds)

pub loop-place-preserved : goal.loop-place-preserved
loop-place-preserved c =
    let l = c.loop-place in
    let o = c.args.order.now in
    let e = rw c.from.ensures at c.mark_place.ensures in (
      (omega arith, ap length e ∙ mark_length (get_or o l.place-index 0) c.args.n l.flags ∙ l.invariant.0.1),
      marked_turn o l.place-index l.invariant.1 (omega arith) (omega (arith, l.invariant.0.1, c.requires.n_in_bounds)) e,
    )

pub shape_of-flags : goal.shape_of-flags
shape_of-flags c =
    c.loop-place.invariant.0.1

pub returns : goal.returns
returns c =
    marked_all c.args.order.now c.loop-place.place-index c.loop-place.invariant.1 (omega arith)
