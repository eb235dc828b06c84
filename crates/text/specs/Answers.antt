-- The lines that are printed: key, formula, weight, verdict ("Held key and lines of text"; request C-13 for the weight). Assumes nothing.
use Rattle.std.specs.Prelude.{Bool, cond, List, [], ◌∷◌, ◌++◌, ℕ}
use Rattle.text.specs.Numbers.{decimal}

-- four fields parted by tabs, and the line's end
unfoldable pub printed : List ℕ → List ℕ → List ℕ → List ℕ → List ℕ
printed key formula weight verdict = key ++ (9 ∷ formula ++ (9 ∷ weight ++ (9 ∷ verdict ++ (10 ∷ []))))

-- "-"
abbrev pub dash : List ℕ
dash = 45 ∷ []

-- "yes" and "no"
abbrev pub yes_no : Bool → List ℕ
yes_no yes' = cond yes' (121 ∷ 101 ∷ 115 ∷ []) (110 ∷ 111 ∷ [])

-- "r" and the number of a refusal
unfoldable pub refused_word : ℕ → List ℕ
refused_word refusal = 114 ∷ decimal refusal

-- the header: "key", "formula", "weight", "verdict"
unfoldable pub header : List ℕ
header = printed (107 ∷ 101 ∷ 121 ∷ []) (102 ∷ 111 ∷ 114 ∷ 109 ∷ 117 ∷ 108 ∷ 97 ∷ []) (119 ∷ 101 ∷ 105 ∷ 103 ∷ 104 ∷ 116 ∷ [])
    (118 ∷ 101 ∷ 114 ∷ 100 ∷ 105 ∷ 99 ∷ 116 ∷ [])

-- the weight as it is printed: ones, a plus sign, twos
unfoldable pub ones_plus_twos : ℕ → ℕ → List ℕ
ones_plus_twos ones twos = decimal ones ++ (43 ∷ decimal twos)

-- the answer to an S line that is not refused
unfoldable pub verdict_answer : ℕ → ℕ → ℕ → ℕ → Bool → List ℕ
verdict_answer key formula ones twos yes' = printed (decimal key) (decimal formula) (ones_plus_twos ones twos) (yes_no yes')

-- the answer to a well-formed S line that is refused
unfoldable pub sign_refused : ℕ → ℕ → ℕ → List ℕ
sign_refused key formula refusal = printed (decimal key) (decimal formula) dash (refused_word refusal)

-- the answer to any other line that is refused
unfoldable pub line_refused : ℕ → List ℕ
line_refused refusal = printed dash dash dash (refused_word refusal)
