-- All flags are set exactly when each place stands in the order (`marked_order`).
-- Assumes nothing.
use mathlib.Core.Path.{refl, ◌∙◌}
use native.Mathlib.Omega.{arith}
use lib.ListN.{length}
use Rattle.calls.proofs.Marks.{marked_none, marked_order}
use Rattle.calls.proofs.order.is_order.Goals as goal

pub mark_places-requires : goal.mark_places-requires
mark_places-requires c =
    record {
      n_in_bounds = omega arith;
      marked = marked_none (length c.args.order.now) 16384 c.requires;
    }

pub returns : goal.returns
returns c =
    let o = c.args.order.now in
    c.all_marked.ensures ∙ marked_order (length o) o _ refl c.mark_places.ensures
