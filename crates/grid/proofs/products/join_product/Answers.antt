-- The product is made in row t, and row t is joined to row a (`product_joined_grid`).
-- Assumes nothing.
use native.Mathlib.Omega.{arith}
use Rattle.trits.specs.Planes.{trit_at}
use Rattle.grid.proofs.Cells.{whole_row}
use Rattle.grid.proofs.RowProducts.{product_joined_grid}
use Rattle.grid.proofs.products.join_product.Goals as goal

pub join_rows-requires : goal.join_rows-requires
join_rows-requires g c =
    record {
      grid = c.put_product.ensures.rows;
      width = omega arith;
      i_in = c.requires.a_in;
      j_in = c.requires.t_in;
      apart = c.requires.a_apart;
      outside = λ t o. whole_row c.args.w _ _ c.args.t t o;
    }

pub returns : goal.returns
returns g c =
    let n = c.args in
    product_joined_grid n.w n.ones.now n.twos.now g.O.Operation.op n.a n.i n.t (trit_at n.source.ones.now n.source.twos.now) c.requires.a_apart
    c.put_product.ensures c.join_rows.ensures
