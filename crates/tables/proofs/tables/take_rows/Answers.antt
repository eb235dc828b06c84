-- Each turn clears one row more (`taken_more`); the tables stay as they are.
-- Assumes nothing.
use Prim.Native.Nat.{◌≤◌}
use mathlib.Core.Path.{ap, ◌∙◌}
use native.Mathlib.Omega.{arith}
use Rattle.matrix.specs.Linear.{Vector}
use Rattle.tables.proofs.Takes.{taken_more, same_block, taken_tabled}
use Rattle.tables.proofs.tables.take_rows.Goals as goal

pub take_entries-requires : goal.take_entries-requires
take_entries-requires c =
    let l = c.loop-i in
    let h : l.i ≤ c.args.r = omega (arith, c.requires.clears.end) in
    let g = l.invariant.0 in record {
      clears = record {
        grid = g;
        small = omega (arith, g.size, c.requires.clears.grid.size, c.requires.clears.small);
        room = c.requires.clears.room;
        ordered = omega arith;
        end = omega (arith, c.requires.clears.end);
        width = c.requires.clears.width;
        columns = c.requires.clears.columns;
        outside = λ j t m o. ap (λ (v : Vector). v t) (same_block h l.invariant.1 j) ∙ c.requires.clears.outside j t m o;
      };
      tabled = taken_tabled h l.invariant.1 c.requires.tabled;
    }

pub loop-i-preserved : goal.loop-i-preserved
loop-i-preserved c =
    let l = c.loop-i in
    let e = c.take_entries.ensures in
    (e.rows, taken_more (omega (arith, c.requires.clears.end)) l.invariant.1 l.auto.i e.cells)
