-- The verdict on y and s under a key ("The verdict"); the syndrome of a word and what it extends,
-- terms that the paper defines itself ("The words of demand 3"). Assumes nothing.
use Rattle.std.specs.Prelude.{◌≡◌, Bool, cond, ℕ, ◌+◌, ◌-◌, ◌<◌, eqb, ltb}
use Rattle.trits.specs.Trit.{Trit, add_t, sub_t, dot_v, weight_v, counts_v, sum_of}
use Rattle.trits.specs.declared.Counts.{Counts}

-- a key (identity | R) as it is held: k rows of m = n-k trits, row i being column i of R
abbrev pub Key : Type 0
Key = ℕ → ℕ → Trit

-- s·R-transposed: the sum of the k rows, each times its trit of s
unfoldable pub times_key : ℕ → Key → (ℕ → Trit) → ℕ → Trit
times_key k R s j = dot_v s (λ i. R i j) k

-- the full word of y and s: y - s·R-transposed in the first m places, then s
unfoldable pub full_word : ℕ → ℕ → Key → (ℕ → Trit) → (ℕ → Trit) → ℕ → Trit
full_word m k R y s q = cond (ltb q m) (sub_t (y q) (times_key k R s q)) (s (q - m))

-- the answer: how many of its trits are 1, and how many are 2, in place of its weight (request C-13)
unfoldable pub full_counts : ℕ → ℕ → Key → (ℕ → Trit) → (ℕ → Trit) → Counts
full_counts m k R y s = counts_v (full_word m k R y s) (m + k)

-- and yes where their sum, which is its weight, is w
unfoldable pub says_yes : ℕ → ℕ → ℕ → Key → (ℕ → Trit) → (ℕ → Trit) → Bool
says_yes m k w R y s = eqb (sum_of (full_counts m k R y s)) w

-- the syndrome of a word: its first m trits plus t·R-transposed, t being its last k
unfoldable pub syndrome : ℕ → ℕ → Key → (ℕ → Trit) → ℕ → Trit
syndrome m k R e j = add_t (e j) (times_key k R (λ i. e (m + i)) j)

-- the word e has the syndrome y
abbrev pub HasSyndrome : ℕ → ℕ → Key → (ℕ → Trit) → (ℕ → Trit) → Type 0
HasSyndrome m k R e y = (j : ℕ) → j < m → syndrome m k R e j ≡ y j

-- the word e extends the signature s: s is its last k trits
abbrev pub Extends : ℕ → ℕ → (ℕ → Trit) → (ℕ → Trit) → Type 0
Extends m k e s = (i : ℕ) → i < k → e (m + i) ≡ s i

-- it has the syndrome y and extends s
pub record Extending (m k : ℕ) (R : Key) (y s e : ℕ → Trit) : Type 0 where
  pub has_syndrome : HasSyndrome m k R e y
  pub extends : Extends m k e s

-- some word of weight w, of n = m + k trits, does
pub record Found (m k w : ℕ) (R : Key) (y s : ℕ → Trit) : Type 0 where
  pub word : ℕ → Trit
  pub weighs : weight_v word (m + k) ≡ w
  pub extending : Extending m k R y s word
