-- Each turn tries the columns of a block, or one that has no pivot (`lowering_next`), until no column or no row is left (`lowering_done`).
-- Assumes nothing.
use Prim.Native.Nat.{ℕ, zero, suc, ◌+◌, max}
use mathlib.Core.Path.{◌≡◌, refl}
use mathlib.Core.Logic.{◌⊎◌, inl, inr}
use native.Mathlib.Omega.{arith}
use Rattle.trits.specs.Rows.{matrix_at}
use Rattle.matrix.proofs.Lowering.{lowering_start, lowering_next, lowering_done, lowering_low, lowering_past}
use Rattle.lowering.proofs.lower.lower.Goals as goal

-- a block's columns, or one that has no pivot
tried : (k c : ℕ) {t : ℕ} → t ≡ max k 1 → ((k ≡ 0) × (c + t ≡ c + 1)) ⊎ ((k ≡ 0 → ⊥) × (c + t ≡ c + k))
tried zero c e = inl (refl, omega (arith, e))
tried (suc k) c e = inr ((λ z. omega (arith, z)), omega (arith, e))

pub loop-c-init : goal.loop-c-init
loop-c-init c =
    let a = c.args in
    (omega arith, c.requires.grid, lowering_start a.r (matrix_at a.w a.ones.now a.twos.now))

pub pass_block-k-requires : goal.pass_block-k-requires
pass_block-k-requires c =
    let l = c.loop-c in
    let g = l.invariant.1 in
    let n = l.invariant.2 in record {
      grid = g;
      small = omega (arith, g.size, c.requires.grid.size, c.requires.small);
      narrow = c.requires.narrow;
      room = c.requires.room;
      width = c.requires.width;
      row_next = omega (arith, n.room);
      column = omega arith;
      columns = c.requires.columns;
      low = λ i t h k b. lowering_low n t b i h k;
      past = λ i t h k b. lowering_past n t (λ j e. c.requires.past j t e b) i k;
    }

pub loop-c-preserved : goal.loop-c-preserved
loop-c-preserved c =
    let e = c.pass_block-k.ensures in
    (omega (arith, e.advanced.columns), e.rows, lowering_next c.loop-c.invariant.2 e.advanced (tried _ _ c.max-c.ensures))

pub returns-else-at-r : goal.returns-else-at-r
returns-else-at-r c =
    let l = c.loop-c in
    let d = lowering_done c.args.m l.invariant.2 l.invariant.0 (inr c.if-at-r.false) in
    record { value = d.0; rows = l.invariant.1; front = d.1 }

pub returns-after-loop-c : goal.returns-after-loop-c
returns-after-loop-c c =
    let l = c.loop-c in
    let d = lowering_done c.args.m l.invariant.2 l.invariant.0 (inl c.loop-c-test.false) in
    record { value = d.0; rows = l.invariant.1; front = d.1 }
