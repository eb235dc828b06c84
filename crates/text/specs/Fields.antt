-- Parts of a text between marks: lines end at byte 10, fields are parted by tabs (the paper's "Held key and lines of text"). Assumes nothing.
use Rattle.std.specs.Prelude.{Bool, ◌&&◌, cond, List, [], ◌∷◌, ℕ, eqb, leb}
use Rattle.std.specs.List.{list_all}

-- parts with one byte more at the front of the first of them
unfoldable pub onto : ℕ → List (List ℕ) → List (List ℕ)
onto b [] = (b ∷ []) ∷ []
onto b (part ∷ parts) = (b ∷ part) ∷ parts

-- a text parted at every mark: one part more than there are marks, any of them may be empty
unfoldable pub split : ℕ → List ℕ → List (List ℕ)
split mark [] = [] ∷ []
split mark (b ∷ text) = cond (eqb b mark) ([] ∷ split mark text) (onto b (split mark text))

-- the fields of a line: parted at every tab
abbrev pub fields : List ℕ → List (List ℕ)
fields line = split 9 line

-- every byte of a field is one of those from low to high
unfoldable pub all_between : ℕ → ℕ → List ℕ → Bool
all_between low high field = list_all (λ b. leb low b && leb b high) field
