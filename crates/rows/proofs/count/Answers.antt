-- A turn adds the bits set in one word of each plane, which are its places that hold 1 and those that hold 2 (`ones_turn`, `twos_turn`).
-- Assumes nothing.
use Prim.Native.Nat.{◌*◌}
use mathlib.Core.Path.{◌≡◌}
use native.Mathlib.Omega.{arith}
use lib.ListN.{length}
use Rattle.trits.specs.Planes.{trit_at}
use Rattle.trits.specs.Trit.{sum_to}
use Rattle.trits.proofs.Counting.{counts_le, word_le, ones_turn, twos_turn}
use Rattle.trits.proofs.Counted.{same_counts}
use Rattle.rows.proofs.count.Goals as goal

pub loop-i-init : goal.loop-i-init
unfolding sum_to
loop-i-init c = omega arith

pub overflow_add-in_ones : goal.overflow_add-in_ones
overflow_add-in_ones c =
    let i = c.loop-i.i in
    let a = c.args.row in
    omega (arith, word_le (c.type_inv.ones i), counts_le (trit_at a.ones.now a.twos.now) (64 * i))

pub overflow_add-in_twos : goal.overflow_add-in_twos
overflow_add-in_twos c =
    let i = c.loop-i.i in
    let a = c.args.row in
    omega (arith, word_le (c.type_inv.twos i), counts_le (trit_at a.ones.now a.twos.now) (64 * i))

pub loop-i-preserved : goal.loop-i-preserved
loop-i-preserved c =
    let a = c.args.row in
    let l = c.loop-i in
    let apart = c.requires.row.apart in
    let ho = c.type_inv.ones l.i in
    let ht = c.type_inv.twos l.i in (
      omega arith,
      rw c.from-in_ones.ensures (ones_turn a.ones.now a.twos.now apart l.i ho ht l.in_ones l.invariant.1),
      rw c.from-in_twos.ensures (twos_turn a.ones.now a.twos.now apart l.i ho ht l.in_twos l.invariant.2),
    )

pub returns : goal.returns
returns c =
    let l = c.loop-i in
    let e : l.i ≡ length c.args.row.ones.now = omega arith in
    rw (← e) (same_counts l.invariant.1 l.invariant.2)
