-- Each branch puts the trit into the row of its half (`put_low`, `put_high`).
-- Assumes nothing.
use native.Mathlib.Omega.{arith}
use Rattle.trits.specs.Rows.{matrix_at}
use Rattle.trits.specs.Trit.{trit_of}
use Rattle.draw_pairs.proofs.PlacedHalves.{put_low, put_high}
use Rattle.draw_pairs.proofs.places.put_place.Goals as goal

pub returns-then-q-half : goal.returns-then-q-half
returns-then-q-half c =
    let a = c.args in
    put_low a.u a.v a.half a.q (trit_of a.t) (matrix_at a.w a.ones.now a.twos.now) c.if-q-half.true c.put_at.ensures

pub returns-else-q-half : goal.returns-else-q-half
returns-else-q-half c =
    let a = c.args in
    put_high a.u a.v a.half a.q (trit_of a.t) (matrix_at a.w a.ones.now a.twos.now) (omega (arith, c.if-q-half.false))
    c.put_at-else-q-half.ensures
