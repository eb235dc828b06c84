-- Rows of trits as two planes of 64-bit words (the paper's "Trits in words and bytes"). Assumes nothing.
use Rattle.std.specs.Prelude.{◌≡◌, List, [], ◌∷◌, Bool, ◌&&◌, ◌||◌, cond, ℕ, zero, suc, ◌+◌, ◌-◌, ◌*◌, ◌/◌, ◌%◌, ◌^◌, length, get_or, eqb}
use Rattle.std.specs.Int.Bits.{bit_and}
use Rattle.trits.specs.Trit.{Trit, t0, t1, t2, one, two, up_to, any_to}

-- ---- bits

-- bit i of the number n, the least significant first
unfoldable pub bit : ℕ → ℕ → ℕ
bit i n = n / 2 ^ i % 2

-- the number of k bits whose bit i is f i
unfoldable pub from_bits : (ℕ → ℕ) → ℕ → ℕ
from_bits f zero = 0
from_bits f (suc k) = f 0 + 2 * from_bits (λ i. f (suc i)) k

-- the word w with c for its bit b
unfoldable pub with_bit : ℕ → ℕ → ℕ → ℕ
with_bit b c w = from_bits (λ k. cond (eqb k b) c (bit k w)) 64

-- ---- trit 1 sets its bit in the ones plane, trit 2 in the twos plane: a trit's bits there are `one` and `two` of it

-- the trit of a bit of the ones plane and a bit of the twos plane (both set is no trit: such planes are refused, 3)
abbrev pub trit : ℕ → ℕ → Trit
trit zero zero = t0
trit zero (suc b) = t2
trit (suc a) b = t1

-- ---- reading: place i is bit i % 64 of word i / 64; past the words there is 0

unfoldable pub bit_at : List ℕ → ℕ → ℕ
bit_at ws i = bit (i % 64) (get_or ws (i / 64) 0)

-- the vector that two planes hold
unfoldable pub trit_at : List ℕ → List ℕ → ℕ → Trit
trit_at ones twos i = trit (bit_at ones i) (bit_at twos i)

-- ---- writing: the planes of a vector

-- f 0, f 1, .. f (n - 1)
unfoldable pub tabulate : (ℕ → ℕ) → ℕ → List ℕ
tabulate f zero = []
tabulate f (suc n) = f 0 ∷ tabulate (λ i. f (suc i)) n

-- word j of each plane of v
abbrev pub ones_word : (ℕ → Trit) → ℕ → ℕ
ones_word v j = from_bits (λ b. one (v (64 * j + b))) 64

abbrev pub twos_word : (ℕ → Trit) → ℕ → ℕ
twos_word v j = from_bits (λ b. two (v (64 * j + b))) 64

-- the n words of each plane, which hold the first 64 * n places of v
unfoldable pub ones_of : (ℕ → Trit) → ℕ → List ℕ
ones_of v n = tabulate (ones_word v) n

unfoldable pub twos_of : (ℕ → Trit) → ℕ → List ℕ
twos_of v n = tabulate (twos_word v) n

-- the words that a row of m trits takes
abbrev pub words_for : ℕ → ℕ
words_for m = (m + 63) / 64

-- n words of 0
unfoldable pub zero_words : ℕ → List ℕ
zero_words n = tabulate (λ j. 0) n

-- ---- a pair of planes

-- the ones plane and the twos plane that a host lends together
pub record Pair : Type 0 where
  pub ones : List ℕ
  pub twos : List ℕ

abbrev pub pair_of : List ℕ → List ℕ → Pair
pair_of ones twos = record { ones = ones; twos = twos }

-- the planes of the first m trits of v
abbrev pub row_pair : ℕ → (ℕ → Trit) → Pair
row_pair m v = pair_of (ones_of (up_to m v) (words_for m)) (twos_of (up_to m v) (words_for m))

-- ---- what is said of two planes

-- no bit is set in both
pub record Apart (ones twos : List ℕ) : Type 0 where
  pub word : (j : ℕ) → bit_and (get_or ones j 0) (get_or twos j 0) ≡ 0

-- they can be read: as many words in each, and no bit in both
pub record Row (ones twos : List ℕ) : Type 0 where
  pub same : length twos ≡ length ones
  pub apart : Apart ones twos

-- they can be read, have n words each, and hold v (so their words are known: `reads_holds` of the laws)
pub record Reads (ones twos : List ℕ) (n : ℕ) (v : ℕ → Trit) : Type 0 where
  pub row : Row ones twos
  pub size : length ones ≡ n
  pub trits : trit_at ones twos ≡ v

-- their words are those of v
pub record Holds (ones twos : List ℕ) (n : ℕ) (v : ℕ → Trit) : Type 0 where
  pub ones_are : ones ≡ ones_of v n
  pub twos_are : twos ≡ twos_of v n

-- ---- the two faults of planes ("Turned back by the input", 3 and 4)

-- a bit is set in both planes at place i
abbrev pub both_at : List ℕ → List ℕ → ℕ → Bool
both_at ones twos i = eqb (bit_at ones i) 1 && eqb (bit_at twos i) 1

-- a bit is set in one of the planes at place i
abbrev pub either_at : List ℕ → List ℕ → ℕ → Bool
either_at ones twos i = eqb (bit_at ones i) 1 || eqb (bit_at twos i) 1

-- "one bit set in both planes, anywhere in the words"
unfoldable pub both_set : List ℕ → List ℕ → Bool
both_set ones twos = any_to (both_at ones twos) (64 * length ones)

-- "a bit set past the length", of a row of m trits
unfoldable pub past_end : List ℕ → List ℕ → ℕ → Bool
past_end ones twos m = any_to (λ k. either_at ones twos (m + k)) (64 * length ones - m)
