-- The eight bytes of the lane are added where it is one of the first 17.
-- Assumes nothing.
use Prim.Native.Nat.{◌+◌, ◌*◌}
use mathlib.Core.Path.{sym, ap, ◌∙◌}
use mathlib.Core.List.{[]}
use borrow.Author.Tests.{lt-ltb, le-ltb}
use lib.Bits.{bit_xor}
use lib.ListN.{get_or}
use Rattle.keccak.specs.Lanes.{lane_at}
use Rattle.shake.specs.Shake.{added}
use Rattle.shake.proofs.block.add_lane.Goals as goal

pub returns-then-p-lt136 : goal.returns-then-p-lt136
unfolding added lane_at
returns-then-p-lt136 c =
    let s = c.args in
    let e = lt-ltb (8 * (5 * s.y + s.x)) 136 c.if-p-lt136.true in
    ap (bit_xor (get_or (get_or s.a s.x []) s.y 0)) c.word.ensures ∙ sym (rw e)

pub returns-else-p-lt136 : goal.returns-else-p-lt136
unfolding added lane_at
returns-else-p-lt136 c =
    let s = c.args in
    let e = le-ltb (8 * (5 * s.y + s.x)) 136 c.if-p-lt136.false in
    sym (rw e)
