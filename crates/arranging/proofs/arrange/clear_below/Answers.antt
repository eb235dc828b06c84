-- Each turn takes the pivots of a block and clears the rows below it (`going_block`), until every row has its pivot.
-- Assumes nothing.
use mathlib.Core.List.{List}
use mathlib.Core.Path.{◌≡◌, subst}
use Prim.Native.Nat.{ℕ, min, ◌+◌, ◌<◌}
use native.Mathlib.Omega.{arith}
use Rattle.trits.specs.Rows.{matrix_at}
use Rattle.grid.proofs.Cells.{cell_past}
use Rattle.matrix.specs.Linear.{Matrix}
use Rattle.arranging.proofs.Taking.{Going, block_outside, block_taken, going_block, going_done}
use Rattle.arranging.proofs.arrange.clear_below.Goals as goal

-- before the last row the pass stands where the loop does
here : {r left at : ℕ} {A M : Matrix} {p q : List ℕ} → Going r A p left (min at r) M q → at < r → Going r A p left at M q
here {r} {left} {at} {A} {M} {p} {q} g l = let e : min at r ≡ at = omega arith in subst (λ n. Going r A p left n M q) e g

pub clear_block-requires : goal.clear_block-requires
clear_block-requires c =
    let a = c.args in
    let g = c.take_pivots-left.ensures.rows in
    let n = here c.loop-at.invariant.1 c.loop-at-test.true in
    let p = block_taken c.min-k.ensures c.take_pivots-left.ensures.pivots_taken in
    record {
      grid = g;
      small = omega (arith, g.size, c.requires.grid.size, c.requires.small);
      narrow = c.requires.narrow;
      room = c.requires.room;
      few = omega arith;
      columns = omega (arith, p.room, n.size, c.requires.places_fit);
      ordered = omega arith;
      end = omega arith;
      width = omega arith;
      unit = p.unit;
      outside = block_outside p n.low a.w (cell_past a.w _ _);
    }

pub loop-at-preserved : goal.loop-at-preserved
loop-at-preserved c =
    let a = c.args in
    let l = c.loop-at in
    let d = c.clear_block.ensures in
    let p = block_taken c.min-k.ensures c.take_pivots-left.ensures.pivots_taken in
    let e : l.at + c.min-k.result ≡ min (l.at + 12) a.r = omega arith in (
      d.rows,
      subst (λ n. Going a.r (matrix_at a.w a.ones.now a.twos.now) a.order.now c.take_pivots-left.result n
          (matrix_at a.w c.clear_block.new.ones c.clear_block.new.twos) c.take_pivots-left.new.order) e
          (going_block (here l.invariant.1 c.loop-at-test.true) p (omega arith) d.cleared),
    )

pub returns : goal.returns
returns c =
    let l = c.loop-at in
    record { rows = l.invariant.0; arranged = going_done l.invariant.1 (omega arith) }

-- after the last turn
pub returns-2 : goal.returns-2
returns-2 c =
    let d = c.clear_block.ensures in
    let p = block_taken c.min-k.ensures c.take_pivots-left.ensures.pivots_taken in
    record {
      rows = d.rows;
      arranged = going_done (going_block (here c.loop-at.invariant.1 c.loop-at-test.true) p (omega arith) d.cleared) (omega arith);
    }
