-- Worked cases of the algebra, on matrices small enough to be followed by hand. Assumes nothing.
use Rattle.std.specs.Prelude.{◌≡◌, [], ◌∷◌}
use Rattle.trits.specs.InDigits.{vector, digits, matrix, digit_rows}
use Rattle.matrix.specs.Linear.{Matrix, zeros, solve, or_zeros, pivots, rank}
use Rattle.matrix.specs.Steps.{eliminated, raised, backed}

-- columns 10, 10, 01 and 11
abbrev pub columns4 : Matrix
columns4 = matrix ((1 ∷ 1 ∷ 0 ∷ 1 ∷ []) ∷ (0 ∷ 0 ∷ 1 ∷ 1 ∷ []) ∷ [])

-- rows 21 and 11
abbrev pub rows2111 : Matrix
rows2111 = matrix ((2 ∷ 1 ∷ []) ∷ (1 ∷ 1 ∷ []) ∷ [])

pub record Cases : Type 0 where
  -- of columns 10, 10, 01 and 11 the first and the third are kept; from the last to the first, 11 and 01
  pub pivots_0123 : pivots 2 4 columns4 (0 ∷ 1 ∷ 2 ∷ 3 ∷ []) ≡ 0 ∷ 2 ∷ []
  pub pivots_3210 : pivots 2 4 columns4 (3 ∷ 2 ∷ 1 ∷ 0 ∷ []) ≡ 3 ∷ 2 ∷ []
  -- columns 10 and 10 have rank 1
  pub rank_01 : rank 2 4 columns4 (0 ∷ 1 ∷ []) ≡ 1
  -- 2·x is 1 for x = 2
  pub solve_2 : digits 1 (or_zeros (solve 1 1 (matrix ((2 ∷ []) ∷ [])) (vector (1 ∷ [])) (0 ∷ []) zeros)) ≡ 2 ∷ []
  -- rows 01 and 10 change places
  pub lowered_0110 : digit_rows 2 2 (eliminated 2 (matrix ((0 ∷ 1 ∷ []) ∷ (1 ∷ 0 ∷ []) ∷ [])) (0 ∷ 1 ∷ [])) ≡ (1 ∷ 0 ∷ []) ∷ (0 ∷ 1 ∷ []) ∷ []
  -- rows 21 and 11 are brought to 12 and 01 by the first pass, and to 10 and 01 by the last
  pub lowered_2111 : digit_rows 2 2 (eliminated 2 rows2111 (0 ∷ 1 ∷ [])) ≡ (1 ∷ 2 ∷ []) ∷ (0 ∷ 1 ∷ []) ∷ []
  pub raised_2111 : digit_rows 2 2 (raised (0 ∷ 1 ∷ []) 2 (eliminated 2 rows2111 (0 ∷ 1 ∷ []))) ≡ (1 ∷ 0 ∷ []) ∷ (0 ∷ 1 ∷ []) ∷ []
  -- with rows 12 and 01, the vector 11 loses 1 at its last place, and then 1 at its first
  pub backed_11 : digits 2 (backed 2 (matrix ((1 ∷ 2 ∷ []) ∷ (0 ∷ 1 ∷ []) ∷ [])) (λ c. c) 2 (vector (1 ∷ 1 ∷ []))) ≡ 0 ∷ 0 ∷ []
