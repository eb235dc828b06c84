-- Row t is made 0, row i is added to it, and it is multiplied (`made_grid`).
-- Assumes nothing.
use native.Mathlib.Omega.{arith}
use Rattle.grid.proofs.Cells.{whole_row}
use Rattle.grid.proofs.products.put_product.Goals as goal

pub add_rows-requires : goal.add_rows-requires
add_rows-requires c =
    record {
      grid = c.zero_row.ensures.rows;
      width = omega arith;
      i_in = c.requires.t_in;
      j_in = c.requires.i_in;
      apart = c.requires.apart;
      outside = λ t o. whole_row c.args.w _ _ c.args.i t o;
    }
