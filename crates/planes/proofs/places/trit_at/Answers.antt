-- The bit of the place in each plane tells the trit (`reads_one`, `reads_two`, `reads_none`).
-- Assumes nothing.
use Rattle.trits.proofs.Put.{reads_one, reads_two, reads_none}
use Rattle.planes.proofs.places.trit_at.Goals as goal

pub returns-then-row-j-ne0 : goal.returns-then-row-j-ne0
returns-then-row-j-ne0 c =
    let a = c.args in
    reads_one a.row.ones.now a.row.twos.now a.i c.if-row-j-ne0.true

pub returns-then-row-j-ne0-2 : goal.returns-then-row-j-ne0-2
returns-then-row-j-ne0-2 c =
    let a = c.args in
    reads_two a.row.ones.now a.row.twos.now a.i c.if-row-j-ne0.false c.if-row-j-ne0-2.true

pub returns-else-row-j-ne0-2 : goal.returns-else-row-j-ne0-2
returns-else-row-j-ne0-2 c =
    let a = c.args in
    reads_none a.row.ones.now a.row.twos.now a.i c.if-row-j-ne0.false c.if-row-j-ne0-2.false
