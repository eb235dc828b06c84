-- Ones and twos of a trit, and those of two words, computed (request C-13). Assumes nothing.
use mathlib.Core.Path.{◌≡◌, refl}
use Prim.Native.Nat.{ℕ, zero, suc, ◌+◌, ◌/◌, ◌%◌, ◌<◌}
use native.Mathlib.Omega.{arith}
use Rattle.trits.specs.Trit.{Trit, t0, t1, t2, trit_of, non_zero, one, two, sum_to, counts_v}
use Rattle.trits.specs.declared.Counts.{Counts}

-- equal numbers
pub same_counts : {a b c d : ℕ} → a ≡ c → b ≡ d → ◌≡◌ {A = Counts} (record { ones = a; twos = b }) (record { ones = c; twos = d })
same_counts e f = rw (e, f)

-- a trit that is not 0 is one of the two
pub one_or_two : (x : Trit) → one x + two x ≡ non_zero x
one_or_two t0 = refl
one_or_two t1 = refl
one_or_two t2 = refl

-- of the numbers 0, 1 and 2, one alone is odd, and one alone has the half 1
pub odd_one : (t : ℕ) → t < 3 → t % 2 ≡ one (trit_of t)
odd_one zero h = refl
odd_one (suc zero) h = refl
odd_one (suc (suc zero)) h = refl
odd_one (suc (suc (suc t))) h = absurd (omega arith)

pub half_two : (t : ℕ) → t < 3 → t / 2 ≡ two (trit_of t)
half_two zero h = refl
half_two (suc zero) h = refl
half_two (suc (suc zero)) h = refl
half_two (suc (suc (suc t))) h = absurd (omega arith)

-- ---- two words

-- the request's example, 2111: three 1s and one 2; and 0202, in which 0 counts for neither
word_2111 : ℕ → Trit
word_2111 zero = t2
word_2111 (suc i) = t1

word_0202 : ℕ → Trit
word_0202 zero = t0
word_0202 (suc zero) = t2
word_0202 (suc (suc i)) = word_0202 i

counts_2111 : counts_v word_2111 4 ≡ record { ones = 3; twos = 1 }
unfolding sum_to word_2111
counts_2111 = refl

counts_0202 : counts_v word_0202 4 ≡ record { ones = 0; twos = 2 }
unfolding sum_to word_0202
counts_0202 = refl
