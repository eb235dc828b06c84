-- The copied words hold the first columns (`front_cells`), on which alone their rank depends (`rank_alike`).
-- Assumes nothing.
use Prim.Native.Nat.{◌+◌}
use mathlib.Core.Path.{ap, ◌∙◌}
use native.Mathlib.Omega.{arith}
use Rattle.trits.specs.Planes.{zero_words}
use Rattle.matrix.proofs.FirstPart.{rank_alike}
use Rattle.grid.proofs.Cells.{cell_past}
use Rattle.build_ranks.proofs.Fronts.{front_rows, front_cells}
use Rattle.build_ranks.proofs.ranks.rank_in.Goals as goal

pub lower-requires : goal.lower-requires
lower-requires c =
    let a = c.args in
    let p = c.requires in
    let e = c.zero_words.ensures ∙ ap zero_words p.work_ones in
    let f = c.zero_words-2.ensures ∙ ap zero_words p.work_twos in
    let g = front_rows c.copy_front.ensures c.copy_front-2.ensures (a.rows + 243) p.grid e f in record {
      grid = g;
      small = omega (arith, g.size, p.work_ones, p.small);
      narrow = p.narrow;
      room = omega arith;
      width = omega arith;
      columns = p.columns;
      past = λ i t h l. cell_past a.v _ _ i t l;
    }

pub returns : goal.returns
returns c =
    let p = c.requires in
    let same = front_cells c.copy_front.ensures c.copy_front-2.ensures p.width in
    c.lower.ensures.value
    ∙ rank_alike c.args.rows c.args.n _ _ (λ i t h l. same i t h (omega (arith, p.columns)))
