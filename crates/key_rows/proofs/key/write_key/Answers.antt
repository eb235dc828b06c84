-- Each turn makes the columns of one word and writes the rows that stand in them (`writing_turn`).
-- Assumes nothing.
use mathlib.Core.List.{List}
use Prim.Native.Nat.{ℕ, ◌+◌, ◌*◌, ◌≤◌}
use mathlib.Core.Path.{◌≡◌}
use native.Mathlib.Nat.{mul-le-mul_right}
use native.Mathlib.Omega.{arith}
use lib.ListN.{length}
use Rattle.trits.specs.Rows.{matrix_at}
use Rattle.key_rows.specs.Steps.{ForWriteKey}
use Rattle.key_rows.proofs.Written.{writing_turn, key_ones_law, key_twos_law}
use Rattle.key_rows.proofs.key.write_key.Goals as goal

-- the working rows are within reach
free : {ones twos ko kt : List ℕ} {rows w r k kw : ℕ} → ForWriteKey ones twos rows w r k kw ko kt → r * w + 243 * w ≤ length ones
free {w = w} g = omega (arith, mul-le-mul_right w g.room, g.grid.size)

pub overflow_add-c : goal.overflow_add-c
overflow_add-c c =
    omega (arith, c.requires.columns, c.requires.narrow)

pub turn_group-requires : goal.turn_group-requires
turn_group-requires c =
    let v = c.loop-i.invariant.1 in record {
      room = omega (arith, free c.requires, c.requires.words, v.ones_kept);
      small = omega (arith, c.requires.small, v.ones_kept);
      column = omega (arith, c.requires.columns, c.loop-i-test.true);
    }

pub turn_group-requires-in-loop-i : goal.turn_group-requires-in-loop-i
turn_group-requires-in-loop-i c =
    let v = c.loop-i.invariant.1 in record {
      room = omega (arith, free c.requires, c.requires.words, v.twos_kept, c.requires.grid.row.same);
      small = omega (arith, c.requires.small, v.twos_kept, c.requires.grid.row.same);
      column = omega (arith, c.requires.columns, c.loop-i-test.true);
    }

pub overflow_mul-r : goal.overflow_mul-r
overflow_mul-r c =
    omega (arith, free c.requires, c.requires.small)

pub overflow_add-r : goal.overflow_add-r
overflow_add-r c =
    omega (arith, free c.requires, c.requires.small)

pub write_group-requires : goal.write_group-requires
write_group-requires c =
    let v = c.loop-i.invariant.1 in
    let e = c.group_end-e.ensures in record {
      begins = omega (arith, e.some);
      room = λ j g h o. omega (arith, free c.requires, c.requires.words, v.ones_kept, c.turn_group.ensures.kept, e.near);
      near = omega (arith, free c.requires, c.requires.small, e.near, c.requires.columns);
      size = omega (arith, mul-le-mul_right c.args.kw e.within, v.ones_rows.kept, c.requires.ones_size);
    }

pub write_group-requires-in-loop-i : goal.write_group-requires-in-loop-i
write_group-requires-in-loop-i c =
    let v = c.loop-i.invariant.1 in
    let e = c.group_end-e.ensures in record {
      begins = omega (arith, e.some);
      room = λ j g h o. omega (arith, free c.requires, c.requires.words, v.twos_kept, c.requires.grid.row.same, c.turn_group-in-loop-i.ensures.kept, e.near);
      near = omega (arith, free c.requires, c.requires.small, e.near, c.requires.columns);
      size = omega (arith, mul-le-mul_right c.args.kw e.within, v.twos_rows.kept, c.requires.twos_size);
    }

pub loop-i-preserved : goal.loop-i-preserved
loop-i-preserved c =
    let e = c.group_end-e.ensures in (
      e.within,
      writing_turn c.requires.grid (omega (arith, c.requires.room)) c.requires.columns c.loop-i.invariant.1 e c.turn_group.ensures
          c.turn_group-in-loop-i.ensures (λ p. (c.slice_known-in-loop-i-1.given p).fits)
          (λ p. (c.slice_known-in-loop-i-2-1.given p).fits)
          c.write_group.ensures c.write_group-in-loop-i.ensures,
    )

pub returns : goal.returns
returns c =
    let l = c.loop-i in
    let a = c.args in
    let A = matrix_at a.w a.ones.now a.twos.now in
    let e : l.i ≡ a.k = omega (arith, c.loop-i-test.false, l.invariant.0) in
    record {
      ko_after = key_ones_law a.r A a.k l.invariant.1.ones_rows e c.requires.ones_size;
      kt_after = key_twos_law a.r A a.k l.invariant.1.twos_rows e c.requires.twos_size;
    }
