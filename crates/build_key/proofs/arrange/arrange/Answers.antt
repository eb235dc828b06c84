-- The first pass leaves 1 on the diagonal and 0 below it, and the last pass the key (`key_left`).
-- Assumes nothing.
use native.Mathlib.Omega.{arith}
use Rattle.build_matrix.specs.Steps.{placed_at}
use Rattle.build_key.proofs.BothPasses.{first_triangular, key_left}
use Rattle.build_key.proofs.arrange.arrange.Goals as goal

pub raise-requires : goal.raise-requires
raise-requires c =
    let g = c.first_pass.ensures.rows in
    let f = c.first_pass.ensures.first_pass in record {
      grid = g;
      small = omega (arith, g.size, c.requires.grid.size, c.requires.small);
      room = c.requires.room;
      columns = omega (arith, f.fits, c.requires.places_fit, c.requires.half_fits, c.requires.words);
      triangular = first_triangular f;
    }

pub returns : goal.returns
returns c =
    let a = c.args in
    let e = c.first_pass.ensures in
    let g = c.raise.ensures in
    record {
      order_after = e.order_after;
      keyed = key_left a.r (placed_at a.half a.hw a.w a.ones.now a.twos.now) a.order.now c.requires.is_order c.requires.rank_full
          e.order_after e.first_pass g.at_ends;
      rows = g.rows;
    }
