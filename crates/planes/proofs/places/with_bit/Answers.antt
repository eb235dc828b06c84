-- Each bit of the result is the word's own, but for bit b (`with_on`, `with_off`).
-- Assumes nothing.
use Rattle.trits.proofs.Put.{with_on, with_off}
use Rattle.planes.proofs.places.with_bit.Goals as goal

pub returns-then-on : goal.returns-then-on
returns-then-on c =
    let a = c.args in
    rw c.if-on.true (with_on a.b a.w c.requires c.ranges.w.fits)

pub returns-else-on : goal.returns-else-on
returns-else-on c =
    let a = c.args in
    rw c.if-on.false (with_off a.b a.w c.requires c.ranges.w.fits)
