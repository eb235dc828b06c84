-- Only the last word of a row has places past the length; the bits of the last words are gathered row
-- by row (`gather_turn`), and one is set from bit m % 64 on where some row has it.
-- Assumes nothing.
use Prim.Native.Nat.{ℕ, ◌+◌, ◌*◌, ◌/◌, ◌%◌, ◌^◌}
use mathlib.Core.Path.{◌≡◌, ap}
use native.Mathlib.Omega.{arith}
use native.Mathlib.Nat.{zero-div}
use mathlib.Core.Bool.{not, false}
use lib.Dec.{eqb}
use Rattle.trits.specs.Trit.{any_to}
use Rattle.trits.specs.Planes.{words_for}
use Rattle.trits.proofs.Matrix.{rows_full, gather_turn, gathered}
use Rattle.planes.proofs.faults.rows_past_end.Goals as goal

pub returns-then-used-eq0 : goal.returns-then-used-eq0
returns-then-used-eq0 c =
    rows_full _ _ c.args.rows c.args.m c.requires.ones_size c.if-used-eq0.true

pub loop-i-init : goal.loop-i-init
unfolding any_to
loop-i-init c =
    let z : not (eqb (0 / 2 ^ (c.args.m % 64)) 0) ≡ false = ap (λ (n : ℕ). not (eqb n 0)) (zero-div (2 ^ (c.args.m % 64))) in
    (omega arith, z)

pub loop-i-preserved : goal.loop-i-preserved
loop-i-preserved c =
    let l = c.loop-i in
    let a = c.args.planes in
    let m = c.args.m in
    let p = c.requires in
    -- a row has one word more than those that its length fills
    let words : m / 64 + 1 ≡ words_for m = omega arith in (
      omega arith,
      gather_turn a.ones.now a.twos.now c.args.rows m l.i p.ones_size p.twos_size c.loop-i-test.true
          c.if-used-eq0.false l.past
          (ap (λ (n : ℕ). l.i * n + m / 64) words)
          (c.type_inv.ones _) (c.type_inv.twos _) l.invariant.1,
    )

pub returns : goal.returns
returns c =
    gathered _ _ c.args.rows c.args.m c.loop-i.i c.loop-i.past (omega arith) c.loop-i.invariant.1
