-- Each turn gathers up to 64 rows more (`own_plane_turn`).
-- Assumes nothing.
use Prim.Native.Nat.{min}
use lib.ListN.{length}
use Rattle.build_columns.specs.Steps.{columns_of, OwnRows}
use Rattle.build_columns.proofs.gather_own.gather_own_plane.Given as goal

abbrev pub invariant-loop-i : goal.invariant-loop-i
invariant-loop-i l =
    OwnRows l.w l.r 0 (min l.i l.r) (columns_of l.places.half l.places.hw l.places.order.now) (length l.places.order.now) l.initial.plane l.plane
