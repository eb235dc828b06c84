-- The walk along places in a lowered matrix, which finds the pivots again, and the rows that a half is made in. No rule of the paper:
-- code is tied to it, and its laws to `pivots` and `without`. Assumes nothing.
use Rattle.std.specs.Prelude.{Bool, ◌&&◌, cond, List, [], ◌∷◌, ℕ, suc, ltb, get_or, drop}
use Rattle.trits.specs.Trit.{sub_t, is_set, put_v}
use Rattle.matrix.specs.Linear.{Vector, Matrix, zeros, times, fill, range}
use Rattle.matrix.specs.Steps.{first_set}

-- the rows below r are those of B, the others those of A
abbrev pub over : ℕ → Matrix → Matrix → Matrix
over r B A i q = cond (ltb i r) (B i q) (A i q)

-- with c pivots behind, the place q has the next one: row c of the r rows is not 0 there
abbrev pub is_next : ℕ → Matrix → ℕ → ℕ → Bool
is_next r A c q = ltb c r && is_set (A c q)

-- the places that have pivots, c of them being behind
unfoldable pub taken : ℕ → Matrix → ℕ → List ℕ → List ℕ
taken r A c [] = []
taken r A c (q ∷ qs) = cond (is_next r A c q) (q ∷ taken r A (suc c) qs) (taken r A c qs)

-- the places that are passed over
unfoldable pub passed : ℕ → Matrix → ℕ → List ℕ → List ℕ
passed r A c [] = []
passed r A c (q ∷ qs) = cond (is_next r A c q) (passed r A (suc c) qs) (q ∷ passed r A c qs)

-- the place of row c's pivot: the first of the places from position c on at which the row is not 0
abbrev pub pivot_place : Matrix → List ℕ → ℕ → ℕ
pivot_place A ps c = first_set (A c) (drop c ps)

-- the first i positions of an order: x at the place of each, less the trit of v that it takes where it is passed over; u past them
abbrev pub firsts_of : ℕ → Matrix → List ℕ → ℕ → Vector → Vector → Vector → Vector
firsts_of r A order i v x u j = cond (ltb j i) (sub_t (x (get_or order j 0)) (fill (passed r A 0 (range i)) v zeros j)) (u j)

-- at the places listed x less what stands there
abbrev pub lasts_of : List ℕ → Vector → Vector → Vector
lasts_of ps x u = fill ps (λ j. sub_t (x (get_or ps j 0)) (u (get_or ps j 0))) u

-- the first k rows take at column m their products by H, of n columns, with z
abbrev pub with_products : ℕ → ℕ → ℕ → Matrix → Vector → Matrix → Matrix
with_products k m n H z A = over k (λ i. put_v (A i) m (times n H z i)) A
