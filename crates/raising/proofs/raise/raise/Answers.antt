-- What is still to be cleared gives the result, and a block is so many columns of it (`rising_turn`).
-- Assumes nothing.
use Prim.Native.Nat.{ℕ, ◌+◌, ◌-◌, ◌<◌}
use mathlib.Core.Path.{◌≡◌, subst}
use mathlib.Core.Logic.{◌⊎◌, inl, inr}
use native.Mathlib.Decide.{dec_lt}
use native.Mathlib.Omega.{arith}
use Rattle.trits.specs.Rows.{matrix_at}
use Rattle.raising.proofs.Passes.{Rising, rising_turn, rising_done}
use Rattle.raising.proofs.raise.raise.Goals as goal

-- a block that is not the first has twelve rows
twelve : (e : ℕ) {b : ℕ} → b ≡ e - 12 → (b ≡ 0) ⊎ (e ≡ b + 12)
twelve e {b} z = by (dec_lt e 12)
  where
    by : Dec (e < 12) → (b ≡ 0) ⊎ (e ≡ b + 12)
    by (yes h) = inl (omega arith)
    by (no h) = inr (omega arith)

pub loop-done-preserved : goal.loop-done-preserved
loop-done-preserved c =
    let a = c.args in
    let l = c.loop-done in
    let d = c.raise_block.ensures in
    let A = matrix_at a.w a.ones.now a.twos.now in
    let B = matrix_at a.w c.raise_block.new.ones c.raise_block.new.twos in
    let e : c.saturating_sub.result ≡ a.r - (l.done + 12) = omega arith in
    (d.rows, subst (λ n. Rising a.r n A B) e (rising_turn c.saturating_sub.result l.invariant.1 (omega arith) d.at_ends))

pub returns : goal.returns
returns c =
    let a = c.args in
    let l = c.loop-done in
    let A = matrix_at a.w a.ones.now a.twos.now in
    let e : a.r - l.done ≡ 0 = omega arith in
    record { rows = l.invariant.0; at_ends = rising_done (subst (λ n. Rising a.r n A (matrix_at a.w l.ones l.twos)) e l.invariant.1) }

-- after the last turn
pub returns-2 : goal.returns-2
returns-2 c =
    let d = c.raise_block.ensures in
    let a = c.args in
    let A = matrix_at a.w a.ones.now a.twos.now in
    let B = matrix_at a.w c.raise_block.new.ones c.raise_block.new.twos in
    let e : c.saturating_sub.result ≡ 0 = omega arith in
    record {
      rows = d.rows;
      at_ends = rising_done (subst (λ n. Rising a.r n A B) e (rising_turn c.saturating_sub.result c.loop-done.invariant.1 (omega arith) d.at_ends));
    }
