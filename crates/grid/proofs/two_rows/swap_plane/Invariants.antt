-- Each turn exchanges one word of the two rows (`swap_turn`), which share none.
-- Assumes nothing.
use Rattle.grid.proofs.Swaps.{SwappedTo}
use Rattle.grid.proofs.two_rows.swap_plane.Given as goal

abbrev pub invariant-loop-j : goal.invariant-loop-j
invariant-loop-j l = SwappedTo l.a l.b l.w l.j l.initial.plane l.plane
