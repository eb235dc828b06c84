-- A digit field, and the row of trits that it writes down ("Held key and lines of text"). Assumes nothing.
use Rattle.std.specs.Prelude.{Bool, ◌&&◌, List, ℕ, ◌-◌, ltb, length, get_or}
use Rattle.trits.specs.Trit.{Trit, trit_of, up_to}
use Rattle.text.specs.Fields.{all_between}

-- "a digit field is one or more of 0, 1, 2"
unfoldable pub is_digits : List ℕ → Bool
is_digits field = ltb 0 (length field) && all_between 48 50 field

-- the trit of a digit
unfoldable pub digit_at : List ℕ → ℕ → Trit
digit_at field i = trit_of (get_or field i 0 - 48)

-- the row of a digit field: as many trits as digits, 0 past them
unfoldable pub digit_row : List ℕ → ℕ → Trit
digit_row field = up_to (length field) (digit_at field)
