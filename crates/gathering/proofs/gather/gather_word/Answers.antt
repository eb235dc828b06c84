-- The picked word of each row is made in the working words and stored (`word_gathered`).
-- Assumes nothing.
use Prim.Native.Nat.{ℕ, ◌+◌, ◌-◌, ◌*◌, ◌<◌}
use native.Mathlib.Omega.{arith}
use lib.ListN.{get_or}
use Rattle.gathering.proofs.Planes.{word_gathered}
use Rattle.gathering.proofs.gather.gather_word.Goals as goal

pub returns : goal.returns
returns c =
    let a = c.args in
    let p = c.requires.plane_of in
    let inside : (j : ℕ) → j < a.m → get_or a.order.now j 0 < 64 * a.w = λ j h. p.places j (omega (arith, p.front)) in
    word_gathered a.plane.now a.order.now a.w a.r a.i a.e a.m a.c (a.r * a.w + 243 * a.w - a.r * a.w) (omega arith)
    p.room c.requires.rows c.requires.column inside c.turn_pick.ensures c.store_block.ensures
