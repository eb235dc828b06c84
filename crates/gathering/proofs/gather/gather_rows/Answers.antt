-- The columns are made first; each turn gathers one word more of each row (`rows_turn`).
-- Assumes nothing.
use Prim.Native.Nat.{ℕ, ◌+◌, ◌-◌, ◌*◌, ◌<◌}
use native.Mathlib.Omega.{arith}
use borrow.Rule.Slice.PartMut.{put_mid}
use lib.ListN.{get_or}
use Rattle.gathering.proofs.Planes.{GatheringRows, rows_none, rows_turn, rows_done}
use Rattle.gathering.proofs.gather.gather_rows.Goals as goal

pub loop-c-preserved : goal.loop-c-preserved
loop-c-preserved c =
    let a = c.args in
    let p = c.requires.plane_of in
    let inside : (j : ℕ) → j < a.m → get_or a.order.now j 0 < 64 * a.w = λ j h. p.places j (omega (arith, p.front)) in
    rows_turn c.requires.rows c.loop-c-test.true inside c.loop-c.invariant c.gather_word.ensures

pub returns : goal.returns
returns c =
    -- The columns stand after the rows, and no word of them is gathered yet.
    let rows_first :
    let a = c.args in GatheringRows a.w a.r a.i a.e a.h.now a.order.now a.m 0 a.plane.now
    (put_mid (a.r * a.w) (a.r * a.w + 243 * a.w - a.r * a.w) a.plane.now c.turn_columns.new.work) =
    let a = c.args in
    rows_none (a.r * a.w + 243 * a.w - a.r * a.w) (omega arith) c.requires.plane_of.room c.requires.rows c.turn_columns.ensures in
    rows_done (rows_first) c.loop-c.invariant (omega arith)
