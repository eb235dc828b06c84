-- Each turn puts one digit's trit at the next place (`digit_put`).
-- Assumes nothing.
use Prim.Native.Nat.{ℕ, ◌<◌, ◌^◌}
use lib.ListN.{length, get_or}
use Rattle.text.specs.Digits.{digit_at}
use Rattle.trits.specs.Planes.{Reads}
use Rattle.trits.specs.Trit.{up_to}
use Rattle.text.proofs.digits.put_digits.Given as goal

abbrev pub invariant-loop-i : goal.invariant-loop-i
invariant-loop-i l = Reads l.ones l.twos (length l.initial.ones) (up_to l.i (digit_at l.field)) × ((j : ℕ) → get_or l.ones j 0 < 2 ^ 64)
    × ((j : ℕ) → get_or l.twos j 0 < 2 ^ 64)
