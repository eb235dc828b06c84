-- Elimination by row operations, as it is run: the matrix after it, and the places whose columns were kept. No
-- rule of the paper: code is tied to it, and its laws to `pivots` and `solve`. Assumes nothing.
use Rattle.std.specs.Prelude.{Bool, cond, List, [], ◌∷◌, ◌++◌, ℕ, zero, suc, ◌-◌, eqb, ltb, length, get_or}
use Rattle.trits.specs.Trit.{Trit, sub_t, mul_t, put_v, is_set}
use Rattle.matrix.specs.Linear.{Vector, Matrix, times}

-- rows a and b change places
abbrev pub swap_rows : ℕ → ℕ → Matrix → Matrix
swap_rows a b A i = A (cond (eqb i a) b (cond (eqb i b) a i))

-- row j times x
abbrev pub scale_row : ℕ → Trit → Matrix → Matrix
scale_row j x A i t = cond (eqb i j) (mul_t x (A i t)) (A i t)

-- row j, whose trit at q is 1, is taken from the rows below it so often that they have 0 there
abbrev pub take_below : ℕ → ℕ → Matrix → Matrix
take_below j q A i t = cond (ltb j i) (sub_t (A i t) (mul_t (A i q) (A j t))) (A i t)

-- and so from the rows above it
abbrev pub take_above : ℕ → ℕ → Matrix → Matrix
take_above j q A i t = cond (ltb i j) (sub_t (A i t) (mul_t (A i q) (A j t))) (A i t)

-- row a, whose trit at q is not 0, comes to j, is made to have 1 there, and is taken from the rows below
abbrev pub pivoted : ℕ → ℕ → ℕ → Matrix → Matrix
pivoted j q a A = take_below j q (scale_row j (A a q) (swap_rows j a A))

-- the first of the k rows from `at` on whose trit at q is not 0; at + k where there is none
unfoldable pub first_row : Matrix → ℕ → ℕ → ℕ → ℕ
first_row A q at zero = at
first_row A q at (suc k) = cond (is_set (A at q)) at (first_row A q (suc at) k)

-- the pivot's row for the column q, of r rows of which the first `at` have one; r where there is none
abbrev pub pivot_row : ℕ → Matrix → ℕ → ℕ → ℕ
pivot_row r A q at = first_row A q at (r - at)

-- whether the column q has a pivot
unfoldable pub has_pivot : ℕ → ℕ → ℕ → Matrix → Bool
has_pivot r at q A = ltb (pivot_row r A q at) r

-- one step: where there is a pivot, its row comes to `at` and the column is cleared below it
unfoldable pub step_of : ℕ → ℕ → ℕ → Matrix → Matrix
step_of r at q A = cond (has_pivot r at q A) (pivoted at q (pivot_row r A q at) A) A

-- the matrix and the places kept so far
pub record Stage : Type 0 where
  pub cells : Matrix
  pub kept : List ℕ

-- the place q is tried
unfoldable pub tried : ℕ → ℕ → Stage → Stage
tried r q s = record {
  cells = step_of r (length s.kept) q s.cells;
  kept = cond (has_pivot r (length s.kept) q s.cells) (s.kept ++ (q ∷ [])) s.kept;
}

-- the places are tried one after another
unfoldable pub eliminate : ℕ → List ℕ → Stage → Stage
eliminate r [] s = s
eliminate r (q ∷ qs) s = eliminate r qs (tried r q s)

-- before any is tried
abbrev pub begun : Matrix → Stage
begun A = record { cells = A; kept = [] }

-- the matrix after elimination at the places
unfoldable pub eliminated : ℕ → Matrix → List ℕ → Matrix
eliminated r A ps = (eliminate r ps (begun A)).cells

-- ---- the last pass

-- the first c kept columns are cleared above the diagonal, from the last of them to the first
unfoldable pub raised : List ℕ → ℕ → Matrix → Matrix
raised ps zero A = A
raised ps (suc c) A = raised ps c (take_above c (get_or ps c 0) A)

-- ---- values at the pivots, after the first pass alone

-- the first of the places at which v is not 0; 0 where there is none
unfoldable pub first_set : Vector → List ℕ → ℕ
first_set v [] = 0
first_set v (q ∷ qs) = cond (is_set (v q)) q (first_set v qs)

-- rows c - 1 to 0 have their pivots at p (c - 1) to p 0: at each of these places, from the last row on, u loses the product of row and u
unfoldable pub backed : ℕ → Matrix → (ℕ → ℕ) → ℕ → Vector → Vector
backed n A p zero u = u
backed n A p (suc c) u = backed n A p c (put_v u (p c) (sub_t (u (p c)) (times n A u c)))
