-- c·L is taken from R, which is x_V, and b·x_V from L (`parted_grid`; what the rows are: `parted_left`, `parted_right`).
-- Assumes nothing.
use Rattle.trits.specs.Planes.{trit_at}
use Rattle.draw_pairs.proofs.PlacedHalves.{parted_grid}
use Rattle.draw_pairs.proofs.halves.part_halves.Goals as goal

pub returns : goal.returns
returns c =
    let a = c.args in
    parted_grid a.w a.ones.now a.twos.now (trit_at a.b.ones.now a.b.twos.now) (trit_at a.c.ones.now a.c.twos.now) a.l
    c.sub_product.ensures c.sub_product-2.ensures
