-- What inner functions work with: a text parted at a tab, numbers too large for any range, and what a form that was read says. Assumes nothing.
use Rattle.std.specs.Prelude.{◌≡◌, cond, true, List, [], ◌∷◌, ◌++◌, ℕ, ◌+◌, ◌*◌, ◌≤◌, ltb, length, Option, None, Some}
use Rattle.trits.specs.Planes.{zero_words}
use Rattle.text.specs.Fields.{fields}
use Rattle.text.specs.Numbers.{decimal}
use Rattle.text.specs.Answers.{dash, refused_word}
use Rattle.text.specs.Digits.{is_digits}
use Rattle.text.specs.Forms.{Line, no_form, key_line, row_line, sign_line, four_fields}
use Rattle.text.specs.declared.forms.Form.{Form}
use Rattle.text.specs.declared.forms.Form.TheVariants.{Key, Row, Sign}

-- a text parted at its first tab: its fields are what stands before the tab, and those of what follows it
pub record PartedAt (text field rest : List ℕ) : Type 0 where
  pub are : fields text ≡ field ∷ fields rest
  pub size : length text ≡ length field + length rest + 1

-- a number above every range, of which ten times fits into a word: whatever is larger counts as this
abbrev pub large : ℕ
large = 1000000000000000000

unfoldable pub at_most_large : ℕ → ℕ
at_most_large v = cond (ltb v large) v large

-- the fields of a text are these four, the last two no longer than the text
pub record FourOf (text first second third fourth : List ℕ) : Type 0 where
  pub are : fields text ≡ first ∷ second ∷ third ∷ fourth ∷ []
  pub third_size : length third ≤ length text
  pub fourth_size : length fourth ≤ length text

-- the fields of a text are not four
abbrev pub NotFour : List ℕ → Type 0
NotFour text = (f : List ℕ → List ℕ → List ℕ → List ℕ → Line) → four_fields f (fields text) ≡ no_form

-- what a form says
abbrev pub says : Option Form → Line
says None = no_form
says (Some (Key number n k w)) = key_line number n k w
says (Some (Row digits)) = row_line digits.now
says (Some (Sign number formula y s)) = sign_line number formula y.now s.now

-- the fields that a form gives have digits, and are no longer than this
pub record DigitsTo (most : ℕ) (field : List ℕ) : Type 0 where
  pub are_digits : is_digits field ≡ true
  pub size : length field ≤ most

abbrev pub DigitsOf : ℕ → Option Form → Type 0
DigitsOf most None = Unit {0}
DigitsOf most (Some (Key number n k w)) = Unit {0}
DigitsOf most (Some (Row digits)) = DigitsTo most digits.now
DigitsOf most (Some (Sign number formula y s)) = DigitsTo most y.now × DigitsTo most s.now

-- a line whose sizes, where too large for any range, count as `large`
unfoldable pub bounded : Line → Line
bounded no_form = no_form
bounded (key_line number n k w) = key_line number (at_most_large n) (at_most_large k) (at_most_large w)
bounded (row_line digits) = row_line digits
bounded (sign_line number formula y s) = sign_line number formula y s

-- the first two fields of an answer, each with its tab
unfoldable pub pair : ℕ → ℕ → List ℕ
pair key formula = decimal key ++ (9 ∷ decimal formula ++ (9 ∷ []))

-- the last two fields of an answer to a line that is refused
unfoldable pub refused_end : ℕ → List ℕ
refused_end refusal = dash ++ (9 ∷ refused_word refusal ++ (10 ∷ []))

-- a field of digits, and a row of zeros with room for them
pub record ForPutDigits (field ones twos : List ℕ) : Type 0 where
  pub are_digits : is_digits field ≡ true
  pub ones_zero : ones ≡ zero_words (length ones)
  pub twos_zero : twos ≡ zero_words (length ones)
  pub room : length field ≤ 64 * length ones
