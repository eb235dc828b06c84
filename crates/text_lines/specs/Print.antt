-- What a whole text prints ("Held key and lines of text"). Assumes nothing.
-- What depends on the largest key number is defined with any other in its place, by a name that ends in `Under`.
use Rattle.std.specs.Prelude.{cond, List, [], ◌∷◌, ◌++◌, ℕ, eqb, length}
use Rattle.trits.specs.Planes.{zero_words}
use Rattle.text.specs.Fields.{split}
use Rattle.text.specs.Forms.{line_of}
use Rattle.text.specs.Answers.{header}
use Rattle.held_key.specs.Held.{most_key_number}
use Rattle.held_key.specs.Load.{Holding}
use Rattle.text_line.specs.Answer.{line_prints_under, line_kept_under}

-- parts without the last, if that is empty
unfoldable pub without_empty_end : List (List ℕ) → List (List ℕ)
without_empty_end [] = []
without_empty_end (line ∷ []) = cond (eqb (length line) 0) [] (line ∷ [])
without_empty_end (line ∷ next ∷ rest) = line ∷ without_empty_end (next ∷ rest)

-- the lines of a text: each ends at byte 10, and what follows the last byte 10 is a line if it is not empty
unfoldable pub lines_of : List ℕ → List (List ℕ)
lines_of text = without_empty_end (split 10 text)

-- what lines print, one after another, where key numbers go from 0 to most
unfoldable pub answers_under : ℕ → Holding → List (List ℕ) → List ℕ
answers_under most kept [] = []
answers_under most kept (line ∷ rest) =
    line_prints_under most kept (line_of most line) ++ answers_under most (line_kept_under most kept (line_of most line)) rest

abbrev pub answers : Holding → List (List ℕ) → List ℕ
answers kept lines = answers_under most_key_number kept lines

-- the words of one plane that the largest key takes: 191 rows of 65 trits at n = 256
abbrev pub most_words : ℕ
most_words = 382

-- no key begun
unfoldable pub no_key : Holding
no_key = record { held = record { begun = 0; number = 0; n = 0; k = 0; w = 0; rows = 0 }; ones = zero_words most_words; twos = zero_words most_words }

-- what the program prints for a text: the header, and the answers
unfoldable pub prints_under : ℕ → List ℕ → List ℕ
prints_under most text = header ++ answers_under most no_key (lines_of text)

abbrev pub prints : List ℕ → List ℕ
prints text = prints_under most_key_number text
