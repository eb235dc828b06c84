-- Each turn gathers up to 64 rows more (`plane_turn`); the last may end before row i + 64.
-- Assumes nothing.
use Rattle.std.specs.Prelude.{min}
use Rattle.gathering.specs.Steps.{GatheredRows}
use Rattle.gathering.proofs.gather.gather_plane.Given as goal

abbrev pub invariant-loop-i : goal.invariant-loop-i
invariant-loop-i l =
    GatheredRows l.w l.r 0 (min l.i l.r) l.h l.order l.m l.initial.plane l.plane
