-- How the code holds a state: five arrays of five lanes, array x having the lanes (x, 0) to (x, 4). Assumes nothing.
use Rattle.std.specs.Prelude.{List, [], ◌∷◌, ℕ, get_or}
use Rattle.keccak.specs.Keccak.{State}

-- the state that five arrays hold
unfoldable pub lane_at : List (List ℕ) → State
lane_at a x y = get_or (get_or a x []) y 0

-- the array of the lanes at x, which the standard calls a sheet, and the five arrays of a state
unfoldable pub sheet_of : State → ℕ → List ℕ
sheet_of s x = s x 0 ∷ s x 1 ∷ s x 2 ∷ s x 3 ∷ s x 4 ∷ []

unfoldable pub lanes_of : State → List (List ℕ)
lanes_of s = sheet_of s 0 ∷ sheet_of s 1 ∷ sheet_of s 2 ∷ sheet_of s 3 ∷ sheet_of s 4 ∷ []
