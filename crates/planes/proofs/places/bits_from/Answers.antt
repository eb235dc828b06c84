-- The bits stand in one word, or in the last, or in two of which the second is moved behind the first (`word_within`, `word_last`, `word_across`).
-- Assumes nothing.
use Prim.Native.Nat.{◌/◌}
use native.Mathlib.Omega.{arith}
use Rattle.trits.proofs.Reading.{word_within, word_last, word_across}
use Rattle.planes.proofs.places.bits_from.Goals as goal
use Rattle.planes.proofs.places.bits_from.Goals.{then-b-eq0-via-then-b-eq0, then-b-eq0-via-else-b-eq0+then-plane-j}

pub returns-then-b-eq0 : goal.returns-then-b-eq0
returns-then-b-eq0 c =
    let a = c.args in
    let fits = (c.type_inv.plane (a.p / 64)).fits in
    elim c.then-b-eq0.branch [
      | then-b-eq0-via-then-b-eq0 w ↦ word_within a.plane.now a.p fits w.if-b-eq0.true
      | then-b-eq0-via-else-b-eq0+then-plane-j w ↦ word_last a.plane.now a.p fits w.if-plane-j.true
    ]

pub returns : goal.returns
returns c =
    let a = c.args in
    word_across a.plane.now a.p (c.type_inv.plane (a.p / 64)).fits (omega arith)
