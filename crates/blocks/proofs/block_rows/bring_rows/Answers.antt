-- Each turn clears one row more (`clearing_turn`); none of them is one of the block's.
-- Assumes nothing.
use mathlib.Core.Path.{ap, ◌∙◌}
use native.Mathlib.Omega.{arith}
use Rattle.matrix.specs.Linear.{Matrix}
use Rattle.blocks.proofs.BringRows.{clearing_basis, clearing_unit, clearing_turn}
use Rattle.blocks.proofs.block_rows.bring_rows.Goals as goal

pub bring-requires : goal.bring-requires
bring-requires c =
    let g = c.loop-i.invariant in record {
      grid = g.grid;
      small = omega (arith, g.grid.size, c.requires.grid.size, c.requires.small);
      narrow = c.requires.narrow;
      room = c.requires.room;
      few = c.requires.few;
      columns = c.requires.columns;
      i_in = omega (arith, c.requires.end);
      width = c.requires.width;
      unit = clearing_unit g (omega (arith, c.requires.end)) c.requires.unit;
      outside = λ j t h o. ap (λ (b : Matrix). b j t) (clearing_basis g (omega (arith, c.requires.end))) ∙ c.requires.outside j t h o;
    }

pub loop-i-preserved : goal.loop-i-preserved
loop-i-preserved c =
    clearing_turn c.loop-i.invariant (omega (arith, c.requires.end)) c.loop-i.auto.i c.bring.ensures
