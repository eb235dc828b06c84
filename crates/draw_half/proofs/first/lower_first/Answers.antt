-- The columns gathered, with their products, are those of the lent matrix at the places; so they are after elimination (`first_lowered`).
-- Assumes nothing.
use Prim.Native.Nat.{◌*◌}
use mathlib.Core.Path.{◌∙◌}
use Rattle.trits.specs.Rows.{matrix_at}
use Rattle.draw_half.proofs.Firsts.{first_rank, first_lowered}
use Rattle.draw_half.proofs.first.lower_first.Goals as goal

pub returns : goal.returns
returns c =
    let A = matrix_at c.args.w c.args.ones.now c.args.twos.now in
    let H = matrix_at c.args.w c.args.half.h.ones.now c.args.half.h.twos.now in
    let a = c.args in
    let p = c.requires in
    let g = c.gather.ensures.front in
    let k = c.put_known.ensures.cells in
    let l = c.lower.ensures in record {
      value = l.value
          ∙ first_rank a.half.r a.m (64 * a.w) a.half.order.now p.is_order p.front p.places_fit H A a.e p.e_past p.e_ends g k;
      rows = l.rows;
      lowered_first = first_lowered a.half.r a.m (64 * a.w) a.half.order.now p.is_order p.front p.places_fit H A a.e p.e_past p.e_ends g k
          l.front;
    }
