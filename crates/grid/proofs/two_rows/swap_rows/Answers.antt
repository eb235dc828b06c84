-- A row that changes places with itself stays (`swapped_none`); rows exchanged in both planes are exchanged in the matrix (`swapped_grid`).
-- Assumes nothing.
use Rattle.grid.proofs.Swaps.{swapped_grid}
use Rattle.grid.proofs.two_rows.swap_rows.Goals as goal

pub returns : goal.returns
returns c =
    swapped_grid c.requires.grid c.swap_plane.ensures c.swap_plane-2.ensures
