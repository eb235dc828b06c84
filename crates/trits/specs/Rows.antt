-- The rows of a matrix in two planes, one after another, each beginning a new word ("Trits in words and bytes"). Assumes nothing.
use Rattle.std.specs.Prelude.{Bool, ◌&&◌, cond, List, [], ◌++◌, ℕ, zero, suc, ◌+◌, ◌*◌, eqb, ltb, length, take, drop}
use Rattle.trits.specs.Trit.{Trit, t0, any_to}
use Rattle.trits.specs.Planes.{trit_at, words_for, past_end}

-- the words of k rows, one after another: f 0, f 1, .. f (k - 1)
unfoldable pub rows_of : (ℕ → List ℕ) → ℕ → List ℕ
rows_of f zero = []
rows_of f (suc k) = rows_of f k ++ f k

-- row i of a plane of `rows` rows of w words each is that stretch of its words; for no such row, or words of a wrong length, the stretch is empty
unfoldable pub row_part : List ℕ → ℕ → ℕ → ℕ → List ℕ
row_part plane rows w i = cond (eqb (length plane) (rows * w) && ltb i rows) (take w (drop (i * w) plane)) []

-- place q of row i, 0 past the row's words
unfoldable pub matrix_at : ℕ → List ℕ → List ℕ → ℕ → ℕ → Trit
matrix_at w ones twos i q = cond (ltb q (64 * w)) (trit_at ones twos (64 * (i * w) + q)) t0

-- a plane with other words from word `start` on: as many as there are of them, and no more
unfoldable pub put_words : ℕ → List ℕ → List ℕ → List ℕ
put_words start plane row = take start plane ++ (row ++ drop (start + length row) plane)

-- a bit is set past the length in one of the rows, each of m trits
unfoldable pub rows_past_end : List ℕ → List ℕ → ℕ → ℕ → Bool
rows_past_end ones twos rows m = any_to (λ i. past_end (row_part ones rows (words_for m) i) (row_part twos rows (words_for m) i) m) rows
