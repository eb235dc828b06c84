-- Place q of row i is one place of the planes, and no other row has it (`put_cell`).
-- Assumes nothing.
use Rattle.trits.specs.Trit.{trit_of}
use Rattle.grid.proofs.RowParts.{put_cell}
use Rattle.grid.proofs.places.put_at.Goals as goal

pub returns : goal.returns
returns c =
    let a = c.args in
    put_cell a.i a.q (trit_of a.t) c.requires.grid c.requires.place c.put_trit.ensures
