-- Vectors and matrices written in digits, as the paper writes its examples. Assumes nothing.
use Rattle.std.specs.Prelude.{List, [], ◌∷◌, ◌++◌, ℕ, zero, suc, get_or}
use Rattle.trits.specs.Trit.{Trit, number, trit_of}
use Rattle.trits.specs.Planes.{tabulate}

-- the vector of these digits, 0 past them
abbrev pub vector : List ℕ → ℕ → Trit
vector l i = trit_of (get_or l i 0)

-- the first n digits of a vector
abbrev pub digits : ℕ → (ℕ → Trit) → List ℕ
digits n v = tabulate (λ i. number (v i)) n

-- the matrix of these rows
abbrev pub matrix : List (List ℕ) → ℕ → ℕ → Trit
matrix rows i = vector (get_or rows i [])

-- the first r rows of a matrix, n digits each
unfoldable pub digit_rows : ℕ → ℕ → (ℕ → ℕ → Trit) → List (List ℕ)
digit_rows zero n A = []
digit_rows (suc r) n A = digit_rows r n A ++ (digits n (A r) ∷ [])
