-- Each branch reads the row of its half (`read_low`, `read_high`).
-- Assumes nothing.
use native.Mathlib.Omega.{arith}
use Rattle.draw_pairs.proofs.PlacedHalves.{read_low, read_high}
use Rattle.draw_pairs.proofs.places.trit_of_place.Goals as goal

pub returns-then-q-half : goal.returns-then-q-half
returns-then-q-half c =
    let a = c.args in
    read_low a.w a.m.ones.now a.m.twos.now a.u a.v a.half a.q _ c.if-q-half.true c.requires.half_fits c.trit_at.ensures

pub returns-else-q-half : goal.returns-else-q-half
returns-else-q-half c =
    let a = c.args in
    read_high a.w a.m.ones.now a.m.twos.now a.u a.v a.half a.q _ (omega (arith, c.if-q-half.false)) c.requires.place c.requires.half_fits
    c.trit_at-else-q-half.ensures
