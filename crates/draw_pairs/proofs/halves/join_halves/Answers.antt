-- b·e_V is added to e_U, which is e_L, and c·e_L to e_V (`joined_pair_grid`; what the rows are: `joined_left`, `joined_right`).
-- Assumes nothing.
use Rattle.trits.specs.Planes.{trit_at}
use Rattle.draw_pairs.proofs.PlacedHalves.{joined_pair_grid}
use Rattle.draw_pairs.proofs.halves.join_halves.Goals as goal

pub returns : goal.returns
returns c =
    let a = c.args in
    joined_pair_grid a.w a.ones.now a.twos.now (trit_at a.b.ones.now a.b.twos.now) (trit_at a.c.ones.now a.c.twos.now) a.u a.v a.t
    c.add_product.ensures c.add_product-2.ensures
