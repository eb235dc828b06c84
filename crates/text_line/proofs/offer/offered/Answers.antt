-- The words that are counted stand within either plane: both have 16.
use mathlib.Core.Path.{sym, ap}
use native.Mathlib.Omega.{arith}
use lib.ListN.{length}
use lib.Seq.{length-take-le}
use Rattle.trits.proofs.Lists.{length_zeros}
use Rattle.text_line.proofs.offer.offered.Goals as goal

pub slice_bounds-result-end : goal.slice_bounds-result-end
slice_bounds-result-end c =
    let p = c.requires in
    let o = c.offer-words in
    sym (length-take-le _ _ (omega (arith, ap length p.ones_zero, ap length p.twos_zero, length_zeros 16, o.auto.ones, o.auto.twos, o.ensures.upper_bound)))

pub slice_bounds-result-end-2 : goal.slice_bounds-result-end-2
slice_bounds-result-end-2 c =
    let p = c.requires in
    let o = c.offer-words in
    sym (length-take-le _ _ (omega (arith, ap length p.ones_zero, ap length p.twos_zero, length_zeros 16, o.auto.ones, o.auto.twos, o.ensures.upper_bound)))
