-- What the exported functions answer and leave, also where lengths do not fit. Assumes nothing.
use Rattle.std.specs.Prelude.{Bool, cond, List, ℕ, zero, suc, ◌*◌, eqb, leb, length}
use Rattle.trits.specs.Trit.{Trit, add_t, zip_v, weight_v}
use Rattle.trits.specs.Planes.{trit_at, ones_of, twos_of, words_for, both_set}
use Rattle.trits.specs.Rows.{rows_past_end}
use Rattle.trits.specs.Refusal.{refuse, demand, at_exit}

-- v is added to u so many times
unfoldable pub added_to : ℕ → (ℕ → Trit) → (ℕ → Trit) → ℕ → Trit
added_to zero u v = u
added_to (suc n) u v = zip_v add_t (added_to n u v) v

-- planes of one length, and no bit in both of a pair
unfoldable pub sum_refusal : List ℕ → List ℕ → List ℕ → List ℕ → ℕ
sum_refusal ones twos so st =
    demand (eqb (length twos) (length ones)) 2
    (demand (eqb (length so) (length ones)) 2
    (demand (eqb (length st) (length ones)) 2
    (refuse (both_set ones twos) 3
    (refuse (both_set so st) 3
    0))))

unfoldable pub sum_ones : ℕ → List ℕ → List ℕ → List ℕ → List ℕ → List ℕ
sum_ones times ones twos so st = at_exit (sum_refusal ones twos so st) (ones_of (added_to times (trit_at ones twos) (trit_at so st)) (length ones)) ones

unfoldable pub sum_twos : ℕ → List ℕ → List ℕ → List ℕ → List ℕ → List ℕ
sum_twos times ones twos so st = at_exit (sum_refusal ones twos so st) (twos_of (added_to times (trit_at ones twos) (trit_at so st)) (length ones)) twos

-- 1 for yes
abbrev pub flag : Bool → ℕ
flag b = cond b 1 0

-- the weight, or 0 where the planes differ in length or have more than 65,536 words
unfoldable pub weight_of : List ℕ → List ℕ → ℕ
weight_of ones twos = cond (eqb (length twos) (length ones)) (cond (leb (length ones) 65536) (weight_v (trit_at ones twos) (64 * length ones)) 0) 0

-- whether a bit is in both, or 2 where the planes differ in length
unfoldable pub both_of : List ℕ → List ℕ → ℕ
both_of ones twos = cond (eqb (length twos) (length ones)) (flag (both_set ones twos)) 2

-- whether a bit is past the length in some row, or 2 where the sizes do not fit
unfoldable pub past_of : List ℕ → List ℕ → ℕ → ℕ → ℕ
past_of ones twos rows m =
    cond (leb m 16384)
    (cond (leb rows 16384)
    (cond (eqb (length ones) (rows * words_for m))
    (cond (eqb (length twos) (rows * words_for m)) (flag (rows_past_end ones twos rows m)) 2)
    2)
    2)
    2
