-- Each turn takes one pivot more (`block_more`); a column without one ends the block, and it is the first only where no pivot was taken.
-- Assumes nothing.
use native.Mathlib.Omega.{arith}
use Rattle.trits.specs.Rows.{matrix_at}
use Rattle.matrix.proofs.Blocks.{block_none}
use Rattle.pivoting.proofs.Pivots.{block_stops, block_ended, block_goes}
use Rattle.pivoting.proofs.pivot.take_block.Goals as goal

pub loop-k-init : goal.loop-k-init
loop-k-init c =
    let a = c.args in (
      c.requires.grid,
      block_none a.r a.at a.c a.m (matrix_at a.w a.ones.now a.twos.now) (omega (arith, c.requires.row_next)) (omega (arith, c.requires.column)),
    )

pub returns-then-not-next_pivot : goal.returns-then-not-next_pivot
returns-then-not-next_pivot c =
    let e = c.next_pivot.ensures in
    let f = c.if-not-next_pivot.true in
    record {
      rows = e.rows;
      block = block_stops c.loop-k.invariant.1 e.next_pivot f;
      ended = block_ended c.loop-k.invariant.1 e.next_pivot f;
    }

pub loop-k-preserved : goal.loop-k-preserved
loop-k-preserved c =
    let e = c.next_pivot.ensures in
    (e.rows, block_goes c.loop-k.invariant.1 e.next_pivot c.if-not-next_pivot.false (omega arith) (omega arith) (omega arith))
