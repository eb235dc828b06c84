-- What request C-15 leaves as it was, line by line: what a line says under two bounds of key numbers. Assumes nothing.
use Rattle.std.specs.Prelude.{◌≡◌, List, [], ◌∷◌, ℕ, ◌≤◌, ◌<◌}
use Rattle.text.specs.Forms.{Line, no_form, key_line, row_line, sign_line, line_of}

-- the key number of a P or an S line; no other line brings one, and 0 stands for that
unfoldable pub key_number_of : Line → ℕ
key_number_of no_form = 0
key_number_of (key_line number n k w) = number
key_number_of (row_line digits) = 0
key_number_of (sign_line number formula y s) = number

-- what a line says under the lower of two bounds, beside what it says under the higher: the same, or none of the forms
-- where its key number is above the lower
pub record Lowered (most : ℕ) (lower higher : Line) : Type 0 where
  pub same : key_number_of higher ≤ most → lower ≡ higher
  pub none : most < key_number_of higher → lower ≡ no_form

-- no line that is a P or an S under the bound `new` has a key number above `old`
abbrev pub NoKeyBetween : ℕ → ℕ → List (List ℕ) → Type 0
NoKeyBetween old new [] = Unit {0}
NoKeyBetween old new (line ∷ rest) = (key_number_of (line_of new line) ≤ old) × NoKeyBetween old new rest

-- "an input with no key number above": no line that is a P or an S, whatever bound it is read under, has a key number above `most`
abbrev pub NoKeyAbove : ℕ → List (List ℕ) → Type 0
NoKeyAbove most [] = Unit {0}
NoKeyAbove most (line ∷ rest) = ((bound : ℕ) → key_number_of (line_of bound line) ≤ most) × NoKeyAbove most rest
