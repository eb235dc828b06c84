-- The words of products are counted, those that are 1 and those that are 2; the two counts give the sum modulo 3 (`dot_number`).
-- Assumes nothing.
use Prim.Native.Nat.{◌*◌, ◌≤◌}
use mathlib.Core.Path.{◌≡◌}
use lib.ListN.{length}
use Rattle.trits.specs.Planes.{trit_at}
use Rattle.trits.specs.Trit.{mul_t, ones_v, twos_v, zip_v}
use Rattle.rows.proofs.dot.Given as goal

abbrev pub invariant-loop-i : goal.invariant-loop-i
invariant-loop-i l =
    (l.i ≤ length l.a_ones) × (l.ones ≤ 64 * l.i) × (l.twos ≤ 64 * l.i)
    × (l.ones ≡ ones_v (zip_v mul_t (trit_at l.a_ones l.a_twos) (trit_at l.b_ones l.b_twos)) (64 * l.i))
    × (l.twos ≡ twos_v (zip_v mul_t (trit_at l.a_ones l.a_twos) (trit_at l.b_ones l.b_twos)) (64 * l.i))
