-- The columns are made first; each turn gathers one word more of each row (`gathering_turn`).
-- Assumes nothing.
use lib.ListN.{length}
use Rattle.build_columns.specs.Steps.{columns_of}
use Rattle.build_columns.proofs.Planes.{OwnGathering}
use Rattle.build_columns.proofs.gather_own.gather_own_rows.Given as goal

abbrev pub invariant-loop-c : goal.invariant-loop-c
invariant-loop-c l =
    OwnGathering l.w l.r l.i l.e (columns_of l.places.half l.places.hw l.places.order.now) (length l.places.order.now) l.c l.initial.plane l.plane
