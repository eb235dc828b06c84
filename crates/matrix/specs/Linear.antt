-- Matrices over the trits: solving, independence and rank, by trying every value. The paper uses these terms
-- ("The secret pairs", "Building a key", "One draw") without defining them. Assumes nothing.
use Rattle.std.specs.Prelude.{Bool, true, false, cond, not, ◌||◌, List, [], ◌∷◌, ◌++◌, ℕ, zero, suc, eqb, length}
use Rattle.std.proofs.Math.Option.{Option, none, some}
use Rattle.trits.specs.Trit.{Trit, t0, t1, t2, sub_t, is_set, any_to, dot_v, put_v}

-- a vector has a trit at each place; those below a length count
abbrev pub Vector : Type 0
Vector = ℕ → Trit

-- 0 at every place
abbrev pub zeros : Vector
zeros i = t0

-- the vectors have the same trits below r
unfoldable pub agree : ℕ → Vector → Vector → Bool
agree r u v = not (any_to (λ i. is_set (sub_t (u i) (v i))) r)

-- a matrix: row, then column
abbrev pub Matrix : Type 0
Matrix = ℕ → ℕ → Trit

-- column p, from the first row on
abbrev pub column : Matrix → ℕ → Vector
column H p i = H i p

-- the matrix, of n columns, times a vector
abbrev pub times : ℕ → Matrix → Vector → Vector
times n H w i = dot_v (H i) w n

-- ---- solving

-- the first of two that is there
abbrev pub or_else : Option Vector → Option Vector → Option Vector
or_else (some w) o = some w
or_else none o = o

-- the first vector that passes the test, of those that may differ from w at the places listed
unfoldable pub find : (Vector → Bool) → List ℕ → Vector → Option Vector
find test [] w = cond (test w) (some w) none
find test (p ∷ ps) w = or_else (find test ps (put_v w p t0)) (or_else (find test ps (put_v w p t1)) (find test ps (put_v w p t2)))

-- the first vector u, differing from w only at the places ps, with H u = v in the rows below r
unfoldable pub solve : ℕ → ℕ → Matrix → Vector → List ℕ → Vector → Option Vector
solve r n H v ps w = find (λ u. agree r (times n H u) v) ps w

-- whether there is one
abbrev pub found : Option Vector → Bool
found (some w) = true
found none = false

-- the one that there is, or zeros
abbrev pub or_zeros : Option Vector → Vector
or_zeros (some w) = w
or_zeros none = zeros

-- ---- span, pivots, rank

-- v is a combination of the columns at the places ps
unfoldable pub in_span : ℕ → ℕ → Matrix → List ℕ → Vector → Bool
in_span r n H ps v = found (solve r n H v ps zeros)

-- go through the places ps, and keep each whose column is independent of those kept
unfoldable pub keep : ℕ → ℕ → Matrix → List ℕ → List ℕ → List ℕ
keep r n H kept [] = kept
keep r n H kept (p ∷ ps) = elim (in_span r n H kept (column H p)) [ true ↦ keep r n H kept ps | false ↦ keep r n H (kept ++ (p ∷ [])) ps ]

-- the pivots: the first independent columns, in the order of the places
unfoldable pub pivots : ℕ → ℕ → Matrix → List ℕ → List ℕ
pivots r n H ps = keep r n H [] ps

-- the rank of the columns at the places ps: how many of them are kept
unfoldable pub rank : ℕ → ℕ → Matrix → List ℕ → ℕ
rank r n H ps = length (pivots r n H ps)

-- ---- lists of places

-- whether q is listed
abbrev pub elem : ℕ → List ℕ → Bool
elem q [] = false
elem q (p ∷ ps) = eqb q p || elem q ps

-- the places of ps that are not in qs, in their order
unfoldable pub without : List ℕ → List ℕ → List ℕ
without qs [] = []
without qs (p ∷ ps) = cond (elem p qs) (without qs ps) (p ∷ without qs ps)

-- w with v 0, v 1, .. at the places listed, in their order
unfoldable pub fill : List ℕ → Vector → Vector → Vector
fill [] v w = w
fill (p ∷ ps) v w = put_v (fill ps (λ j. v (suc j)) w) p (v 0)

-- 0, 1, .., n - 1
unfoldable pub range : ℕ → List ℕ
range zero = []
range (suc n) = range n ++ (n ∷ [])
