-- Row i negated and row j added to it is row j less row i (`taken_from`).
-- Assumes nothing.
use native.Mathlib.Omega.{arith}
use Rattle.grid.proofs.Cells.{whole_row}
use Rattle.grid.proofs.two_rows.take_from.Goals as goal

pub add_rows-requires : goal.add_rows-requires
add_rows-requires c =
    record {
      grid = c.negate.ensures.rows;
      width = omega arith;
      i_in = c.requires.i_in;
      j_in = c.requires.j_in;
      apart = c.requires.apart;
      outside = λ t o. whole_row c.args.w _ _ c.args.j t o;
    }
