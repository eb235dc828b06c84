-- Orders of places: the permutations of the paper ("7 an order is no permutation"). Assumes nothing.
use Rattle.std.specs.Prelude.{◌≡◌, Bool, true, false, not, ◌&&◌, List, [], ◌∷◌, ℕ, ◌<◌, eqb, length}
use Rattle.trits.specs.Trit.{any_to}
use Rattle.matrix.specs.Linear.{elem}

-- no place is listed twice
abbrev pub Distinct : List ℕ → Type 0
Distinct [] = Unit {0}
Distinct (p ∷ ps) = (elem p ps ≡ false) × Distinct ps

-- a list of n places in which each place below n stands
pub record Order (n : ℕ) (ps : List ℕ) : Type 0 where
  pub size : length ps ≡ n
  pub every : (q : ℕ) → q < n → elem q ps ≡ true

-- the same, as a test
unfoldable pub is_order : ℕ → List ℕ → Bool
is_order n ps = eqb (length ps) n && not (any_to (λ q. not (elem q ps)) n)
