-- The row writer is lent the part from the row's start on; the words before it stay, and so do those behind the row (`put_front`).
-- Assumes nothing.
use Rattle.trits.proofs.Parts.{put_front}
use Rattle.planes.proofs.words.put_row.Goals as goal

pub returns : goal.returns
returns c =
    let a = c.args in
    put_front a.start a.row.now a.plane.now _ c.requires c.write_row.ensures
