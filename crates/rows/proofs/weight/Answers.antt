-- A turn adds the number of bits set in one word of either plane, which is the number of its places that are not 0 (`weight_turn`).
-- Assumes nothing.
use Prim.Native.Nat.{◌*◌}
use mathlib.Core.Path.{◌≡◌}
use native.Mathlib.Omega.{arith}
use lib.ListN.{length}
use Rattle.trits.specs.Planes.{trit_at}
use Rattle.trits.specs.Trit.{sum_to}
use Rattle.trits.proofs.Counting.{count_le, weight_turn, weight_le}
use Rattle.rows.proofs.weight.Goals as goal

pub loop-i-init : goal.loop-i-init
unfolding sum_to
loop-i-init c =
    omega arith

pub overflow_add-sum : goal.overflow_add-sum
overflow_add-sum c =
    let i = c.loop-i.i in
    let a = c.args.row in
    omega (arith, count_le (c.type_inv.ones i) (c.type_inv.twos i), weight_le (trit_at a.ones.now a.twos.now) (64 * i))

pub loop-i-preserved : goal.loop-i-preserved
loop-i-preserved c =
    let s = c.loop-i in
    (omega arith, rw c.from-sum.ensures (weight_turn _ _ s.i (c.type_inv.ones s.i) (c.type_inv.twos s.i) s.sum s.invariant.1))

pub returns : goal.returns
returns c =
    let e : c.loop-i.i ≡ length c.args.row.ones.now = omega arith in
    rw (← e) c.loop-i.invariant.1
