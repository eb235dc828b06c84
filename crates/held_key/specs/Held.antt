-- The module's state, and the rows of the key that it holds in the caller's words ("The two halves",
-- "Trits in words and bytes", "Held key and lines of text"). Assumes nothing.
-- What depends on the largest key number is defined with any other in its place, by a name that ends in `Under`.
use Rattle.std.specs.Prelude.{Bool, ◌&&◌, cond, List, [], ℕ, ◌-◌, ◌*◌, ◌%◌, eqb, leb, ltb}
use Rattle.trits.specs.Planes.{trit_at, words_for}
use Rattle.trits.specs.Rows.{row_part}
use Rattle.held_key.specs.declared.state.Held.{Held}
use Rattle.verdict.specs.Verdict.{Key}

-- the largest key number (request C-15)
abbrev pub most_key_number : ℕ
most_key_number = 4294967295

-- the numbers of a key are in their ranges: its key number from 0 to most, n even from 4 to 16,384, k from 2 to n-2, w from 1 to n
unfoldable pub numbers_fit_under : ℕ → ℕ → ℕ → ℕ → ℕ → Bool
numbers_fit_under most number n k w =
    leb number most && (leb 4 n && (leb n 16384 && (eqb (n % 2) 0 && (leb 2 k && (leb k (n - 2) && (leb 1 w && leb w n))))))

abbrev pub numbers_fit : ℕ → ℕ → ℕ → ℕ → Bool
numbers_fit number n k w = numbers_fit_under most_key_number number n k w

-- a state that is begun, with its numbers in their ranges and no more than k rows counted
unfoldable pub sound_under : ℕ → Held → Bool
sound_under most h = eqb h.begun 1 && (numbers_fit_under most h.number h.n h.k h.w && leb h.rows h.k)

abbrev pub sound : Held → Bool
sound h = sound_under most_key_number h

-- a row of the key has n-k trits
abbrev pub row_trits : Held → ℕ
row_trits h = h.n - h.k

-- the words of a row in one plane
abbrev pub row_words : Held → ℕ
row_words h = words_for (row_trits h)

-- the words of the whole key in one plane
abbrev pub key_words : Held → ℕ
key_words h = h.k * row_words h

-- row i of the held key is that stretch of the lent plane; for a row not stored, a plane of a wrong length, or a state that is not sound, the stretch is empty
unfoldable pub held_row_under : ℕ → Held → List ℕ → ℕ → List ℕ
held_row_under most h plane i = cond (sound_under most h && ltb i h.rows) (row_part plane h.k (row_words h) i) []

abbrev pub held_row : Held → List ℕ → ℕ → List ℕ
held_row h plane i = held_row_under most_key_number h plane i

-- the held key: row i is what the two stretches hold
unfoldable pub held_key_under : ℕ → Held → List ℕ → List ℕ → Key
held_key_under most h ones twos i = trit_at (held_row_under most h ones i) (held_row_under most h twos i)

abbrev pub held_key : Held → List ℕ → List ℕ → Key
held_key h ones twos = held_key_under most_key_number h ones twos
