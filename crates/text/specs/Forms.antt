-- The three forms of a line ("Held key and lines of text"). Assumes nothing.
use Rattle.std.specs.Prelude.{Bool, false, ◌&&◌, cond, List, [], ◌∷◌, ℕ, eqb, ltb, length}
use Rattle.text.specs.Fields.{fields}
use Rattle.text.specs.Numbers.{is_number, value, in_range}
use Rattle.text.specs.Digits.{is_digits}

-- what a line says
pub data Line : Type 0 where
  -- none of the three forms
  no_form : Line
  -- P: key number, n, k, w
  key_line : ℕ → ℕ → ℕ → ℕ → Line
  -- K: the digits of a row
  row_line : List ℕ → Line
  -- S: key number, formula number, the digits of y and of s
  sign_line : ℕ → ℕ → List ℕ → List ℕ → Line

-- the fields after the letter, where they are exactly one, or exactly four; any other number of fields makes no form
unfoldable pub one_field : (List ℕ → Line) → List (List ℕ) → Line
one_field f [] = no_form
one_field f (a ∷ []) = f a
one_field f (a ∷ b ∷ more) = no_form

unfoldable pub four_fields : (List ℕ → List ℕ → List ℕ → List ℕ → Line) → List (List ℕ) → Line
four_fields f [] = no_form
four_fields f (a ∷ []) = no_form
four_fields f (a ∷ b ∷ []) = no_form
four_fields f (a ∷ b ∷ c ∷ []) = no_form
four_fields f (a ∷ b ∷ c ∷ d ∷ []) = f a b c d
four_fields f (a ∷ b ∷ c ∷ d ∷ e ∷ more) = no_form

-- the largest formula number
abbrev pub most_formula : ℕ
most_formula = 65535

-- P: a key number in its range, and three numbers (their ranges are the checker's to judge)
unfoldable pub key_of : ℕ → List ℕ → List ℕ → List ℕ → List ℕ → Line
key_of most_key number n k w =
    cond (in_range most_key number && is_number n && is_number k && is_number w) (key_line (value number) (value n) (value k) (value w)) no_form

-- K: digits (their count is the checker's to judge)
unfoldable pub row_of : List ℕ → Line
row_of digits = cond (is_digits digits) (row_line digits) no_form

-- S: a key number and a formula number in their ranges, and two digit fields
unfoldable pub sign_of : ℕ → List ℕ → List ℕ → List ℕ → List ℕ → Line
sign_of most_key number formula y s =
    cond (in_range most_key number && in_range most_formula formula && is_digits y && is_digits s) (sign_line (value number) (value formula) y s) no_form

-- the first field is this letter and nothing else
unfoldable pub is_letter : ℕ → List ℕ → Bool
is_letter letter [] = false
is_letter letter (b ∷ []) = eqb b letter
is_letter letter (b ∷ c ∷ field) = false

-- the form that the letter P, K or S names, with its fields
unfoldable pub form_of : ℕ → List (List ℕ) → Line
form_of most_key [] = no_form
form_of most_key (letter ∷ rest) =
    cond (is_letter 80 letter) (four_fields (key_of most_key) rest)
    (cond (is_letter 75 letter) (one_field row_of rest)
    (cond (is_letter 83 letter) (four_fields (sign_of most_key) rest)
    no_form))

-- "a line above 1,024 bytes, its line end not counted"
abbrev pub most_bytes : ℕ
most_bytes = 1024

-- what a line says, where key numbers go from 0 to most_key
unfoldable pub line_of : ℕ → List ℕ → Line
line_of most_key line = cond (ltb most_bytes (length line)) no_form (form_of most_key (fields line))
