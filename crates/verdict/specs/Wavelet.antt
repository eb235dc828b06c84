-- The second form of a key, the M of source document 001 (Algorithms 4 and 8), beside R (request C-11, "The Wavelet key form"). Assumes nothing.
use Rattle.std.specs.Prelude.{Bool, cond, ℕ, ◌+◌, ◌-◌, ◌%◌, eqb, ltb}
use Rattle.trits.specs.Trit.{Trit, add_t, sub_t, neg_t, counts_v, sum_of}
use Rattle.trits.specs.declared.Counts.{Counts}
use Rattle.verdict.specs.Verdict.{Key, times_key, full_word}

-- ---- k trits that go in pairs

-- what becomes of the first and of the second trit of a pair, and of the last trit where k is odd
pub record PairRule : Type 0 where
  pub first : Trit → Trit → Trit
  pub second : Trit → Trit → Trit
  pub last : Trit → Trit

-- what a rule makes of the first k places of v: places 0 and 1 are a pair, 2 and 3 the next
unfoldable pub in_pairs : PairRule → ℕ → (ℕ → Trit) → ℕ → Trit
in_pairs rule k v i =
    cond (eqb (i % 2) 1) (rule.second (v (i - 1)) (v i))
    (cond (ltb (i + 1) k) (rule.first (v i) (v (i + 1)))
    (rule.last (v i)))

-- ---- the changed trits of s: of each pair its sum, then its difference; at odd k the last trit goes unchanged

abbrev pub changing : PairRule
changing = record { first = λ a b. add_t a b; second = λ a b. sub_t a b; last = λ a. a }

unfoldable pub changed_trits : ℕ → (ℕ → Trit) → ℕ → Trit
changed_trits k s = in_pairs changing k s

-- ---- the rows of M: each pair of rows of R-transposed becomes its sum and its difference; at odd k the last row is negated

abbrev pub to_m : PairRule
to_m = record { first = λ a b. add_t a b; second = λ a b. sub_t a b; last = λ a. neg_t a }

unfoldable pub rows_of_m : ℕ → Key → Key
rows_of_m k R i j = in_pairs to_m k (λ q. R q j) i

-- ---- and back: with the sum a and the difference b of a pair, its rows are -(a + b) and b - a, for 2 is -1

abbrev pub to_r : PairRule
to_r = record { first = λ a b. neg_t (add_t a b); second = λ a b. sub_t b a; last = λ a. neg_t a }

unfoldable pub rows_of_r : ℕ → Key → Key
rows_of_r k M i j = in_pairs to_r k (λ q. M q j) i

-- ---- the full word of y and s under M: y plus the k rows of M, each times its changed trit, in the first m places; then s, which is not changed
unfoldable pub full_word_m : ℕ → ℕ → Key → (ℕ → Trit) → (ℕ → Trit) → ℕ → Trit
full_word_m m k M y s q = cond (ltb q m) (add_t (y q) (times_key k M (changed_trits k s) q)) (s (q - m))

-- ---- a key of either form: its form is 0 for R, and any other number, of which only 1 can be held, for M

abbrev pub is_r : ℕ → Bool
is_r form = eqb form 0

-- the full word
unfoldable pub full_word_in : ℕ → ℕ → ℕ → Key → (ℕ → Trit) → (ℕ → Trit) → ℕ → Trit
full_word_in form m k X y s q = cond (is_r form) (full_word m k X y s q) (full_word_m m k X y s q)

-- the answer: its ones and its twos
unfoldable pub full_counts_in : ℕ → ℕ → ℕ → Key → (ℕ → Trit) → (ℕ → Trit) → Counts
full_counts_in form m k X y s = counts_v (full_word_in form m k X y s) (m + k)

-- and yes where their sum is w
unfoldable pub says_yes_in : ℕ → ℕ → ℕ → ℕ → Key → (ℕ → Trit) → (ℕ → Trit) → Bool
says_yes_in form m k w X y s = eqb (sum_of (full_counts_in form m k X y s)) w

-- ---- conversion

-- the other form
unfoldable pub other_form : ℕ → ℕ
other_form form = 1 - form

-- the rows in the other form
unfoldable pub other_rows : ℕ → ℕ → Key → Key
other_rows form k X = cond (is_r form) (rows_of_m k X) (rows_of_r k X)

-- the R that a key converts to: itself where it is held as R
unfoldable pub as_r : ℕ → ℕ → Key → Key
as_r form k X = cond (is_r form) X (rows_of_r k X)
