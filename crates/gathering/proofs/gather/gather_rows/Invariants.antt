-- The columns are made first; each turn gathers one word more of each row (`rows_turn`).
-- Assumes nothing.
use Rattle.gathering.proofs.Planes.{GatheringRows}
use Rattle.gathering.proofs.gather.gather_rows.Given as goal

abbrev pub invariant-loop-c : goal.invariant-loop-c
invariant-loop-c l =
    GatheringRows l.w l.r l.i l.e l.h l.order l.m l.c l.initial.plane l.plane
