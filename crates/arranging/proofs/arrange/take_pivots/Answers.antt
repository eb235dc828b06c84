-- Each turn takes one of the untried columns: it has a pivot (`taking_pivot`), or it changes places with the last of them (`taking_turn`).
-- Assumes nothing.
use mathlib.Core.List.{List}
use Prim.Native.Nat.{ℕ, ◌+◌, ◌-◌, ◌<◌}
use mathlib.Core.Path.{◌≡◌}
use native.Mathlib.Omega.{arith}
use lib.ListN.{length}
use Rattle.trits.specs.Rows.{matrix_at}
use Rattle.grid.proofs.Cells.{cell_past}
use Rattle.matrix.specs.Linear.{Matrix}
use Rattle.arranging.specs.Columns.{column_rule, most, PivotsTaken}
use Rattle.arranging.proofs.Taking.{taking_none, taking_some, taking_pivot, taking_turn, block_outside, rows_outside}
use Rattle.arranging.proofs.arrange.take_pivots.Goals as goal

pub loop-k-init : goal.loop-k-init
loop-k-init c =
    let a = c.args in
    (omega arith, c.requires.grid, taking_none a.r a.at a.left a.order.now (matrix_at a.w a.ones.now a.twos.now) c.requires.within)

-- the next row, and a column that is left
more : {r at k left n end : ℕ} {p q : List ℕ} {A M : Matrix} → PivotsTaken r at k left n p q A M → k < end → end ≡ most r at
    → (column_rule r left at A p).kept ≡ r → (k < 12) × (at + k < r) × (0 < n)
more {r} {at} {k} g l e f = let h : at + k < r = omega arith in (omega arith, h, taking_some g h f)

-- the two columns
columns_fit : {r at k left n end : ℕ} {p q : List ℕ} {A M : Matrix} → PivotsTaken r at k left n p q A M → k < end → end ≡ most r at
    → (column_rule r left at A p).kept ≡ r → at + k + (n - 1) < length q
columns_fit g l e f = omega (arith, g.room, g.size, (more g l e f).2)

pub overflow_sub-n : goal.overflow_sub-n
overflow_sub-n c = omega (arith, (more c.loop-k.invariant.2 c.loop-k-test.true c.min-end.ensures c.requires.full).2)

pub next_pivot-requires : goal.next_pivot-requires
next_pivot-requires c =
    let g = c.loop-k.invariant.1 in
    let t = c.loop-k.invariant.2 in
    let m = more t c.loop-k-test.true c.min-end.ensures c.requires.full in
    record {
      grid = g;
      small = omega (arith, g.size, c.requires.grid.size, c.requires.small);
      narrow = c.requires.narrow;
      room = c.requires.room;
      few = m.0;
      column = omega (arith, t.room, m.2, c.requires.places_fit);
      row_next = m.1;
      width = omega arith;
      unit = t.unit;
      outside = block_outside t c.requires.low c.args.w (cell_past c.args.w _ _);
      rows_outside = rows_outside t c.requires.low c.args.w (cell_past c.args.w _ _);
    }

pub loop-k-smaller-then-next_pivot : goal.loop-k-smaller-then-next_pivot
loop-k-smaller-then-next_pivot c = omega (arith, (more c.loop-k.invariant.2 c.loop-k-test.true c.min-end.ensures c.requires.full).2)

pub loop-k-preserved-then-next_pivot : goal.loop-k-preserved-then-next_pivot
loop-k-preserved-then-next_pivot c =
    let m = more c.loop-k.invariant.2 c.loop-k-test.true c.min-end.ensures c.requires.full in
    let e = c.next_pivot.ensures in
    (omega arith, e.rows, taking_pivot c.loop-k.invariant.2 m.1 m.2 e.next_pivot c.if-next_pivot.true)

pub exchange_columns-requires : goal.exchange_columns-requires
exchange_columns-requires c =
    let g = c.next_pivot.ensures.rows in
    let f = columns_fit c.loop-k.invariant.2 c.loop-k-test.true c.min-end.ensures c.requires.full in
    record {
      grid = g;
      small = omega (arith, g.size, c.requires.grid.size, c.requires.small);
      first = omega (arith, f, c.loop-k.invariant.2.size, c.requires.places_fit);
      second = omega (arith, f, c.loop-k.invariant.2.size, c.requires.places_fit);
    }

pub exchange-requires : goal.exchange-requires
exchange-requires c =
    let f = columns_fit c.loop-k.invariant.2 c.loop-k-test.true c.min-end.ensures c.requires.full in
    (omega (arith, f), omega (arith, f))

pub loop-k-smaller : goal.loop-k-smaller
loop-k-smaller c = omega (arith, (more c.loop-k.invariant.2 c.loop-k-test.true c.min-end.ensures c.requires.full).2)

pub loop-k-preserved : goal.loop-k-preserved
loop-k-preserved c =
    let m = more c.loop-k.invariant.2 c.loop-k-test.true c.min-end.ensures c.requires.full in
    let x = c.exchange_columns.ensures in (
      c.loop-k.invariant.0,
      x.rows,
      taking_turn c.loop-k.invariant.2 m.1 m.2 c.next_pivot.ensures.next_pivot c.if-next_pivot.false x.cells c.exchange.ensures,
    )
