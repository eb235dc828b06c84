-- The columns come into the order and stand for the places (`gathered_placed`), and the rule on them is that of the definition (`pass_left`).
-- Assumes nothing.
use native.Mathlib.Omega.{arith}
use Rattle.build_matrix.specs.Steps.{placed_at}
use Rattle.build_key.proofs.BothPasses.{gathered_placed, rule_full, order_left, pass_left}
use Rattle.build_key.proofs.arrange.first_pass.Goals as goal

pub clear_below-requires : goal.clear_below-requires
clear_below-requires c =
    let a = c.args in
    let g = c.gather_own.ensures in
    let o = a.order.now in
    let H = placed_at a.half a.hw a.w a.ones.now a.twos.now in
    record {
      grid = g.rows;
      small = omega (arith, g.rows.size, c.requires.grid.size, c.requires.small);
      narrow = c.requires.narrow;
      room = c.requires.room;
      places_fit = omega (arith, c.requires.places_fit, c.requires.half_fits, c.requires.words);
      full = rule_full a.r H o c.requires.is_order c.requires.rank_full (gathered_placed a.r a.half a.hw a.w a.ones.now a.twos.now o g.front);
    }

pub returns : goal.returns
returns c =
    let a = c.args in
    let g = c.clear_below.ensures in
    let o = a.order.now in
    let H = placed_at a.half a.hw a.w a.ones.now a.twos.now in
    let z = gathered_placed a.r a.half a.hw a.w a.ones.now a.twos.now o c.gather_own.ensures.front in
    record {
      order_after = order_left a.r H o c.requires.is_order c.requires.rank_full z g.arranged;
      first_pass = pass_left a.r H o c.requires.is_order c.requires.rank_full z g.arranged;
      rows = g.rows;
    }
