-- Numbers in decimal without leading zeros, read and written ("Held key and lines of text"). Assumes nothing.
use Rattle.std.specs.Prelude.{Bool, false, ◌&&◌, not, cond, List, [], ◌∷◌, ◌++◌, ℕ, zero, suc, ◌+◌, ◌-◌, ◌*◌, ◌/◌, ◌%◌, eqb, leb, ltb}
use Rattle.text.specs.Fields.{all_between}

-- a field is a number: digits 0 to 9, one or more, and a 0 in front only if it stands alone
unfoldable pub is_number : List ℕ → Bool
is_number [] = false
is_number (b ∷ []) = all_between 48 57 (b ∷ [])
is_number (b ∷ c ∷ field) = not (eqb b 48) && all_between 48 57 (b ∷ c ∷ field)

-- the value of digits that follow what has the value v
unfoldable pub value_from : ℕ → List ℕ → ℕ
value_from v [] = v
value_from v (b ∷ field) = value_from (10 * v + (b - 48)) field

-- the value of a number, of any number of digits
unfoldable pub value : List ℕ → ℕ
value field = value_from 0 field

-- a number from 0 to most
unfoldable pub in_range : ℕ → List ℕ → Bool
in_range most field = is_number field && leb (value field) most

-- the digits of n, at most `count` of them: those of n / 10 where that is not 0, then the last
unfoldable pub decimal_to : ℕ → ℕ → List ℕ
decimal_to zero n = []
decimal_to (suc count) n = cond (ltb n 10) ((48 + n) ∷ []) (decimal_to count (n / 10) ++ ((48 + n % 10) ∷ []))

-- a number written in decimal: it has fewer digits than its value and one
unfoldable pub decimal : ℕ → List ℕ
decimal n = decimal_to (suc n) n
