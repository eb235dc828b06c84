-- The columns are made first; each turn gathers one word more of each row (`gathering_turn`).
-- Assumes nothing.
use native.Mathlib.Omega.{arith}
use Rattle.build_columns.proofs.Columns.{columns_below}
use Rattle.build_columns.proofs.Planes.{gathering_turn, gathering_done}
use Rattle.build_columns.proofs.gather_own.gather_own_rows.Goals as goal

pub loop-c-preserved : goal.loop-c-preserved
loop-c-preserved c =
    gathering_turn c.requires.rows c.loop-c-test.true (columns_below c.requires.plane_of.halves) c.loop-c.invariant c.gather_own_word.ensures

pub returns : goal.returns
returns c =
    gathering_done (omega (arith, c.requires.plane_of.room)) c.requires.rows c.turn_own.ensures c.loop-c.invariant (omega arith)
