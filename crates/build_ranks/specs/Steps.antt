-- The two matrices of a secret ("The secret pairs"). Assumes nothing.
use Rattle.std.specs.Prelude.{◌≡◌, List, ℕ, ◌+◌, ◌*◌, ◌≤◌, ◌<◌, length, get_or}
use Rattle.trits.specs.Rows.{matrix_at}
use Rattle.matrix.specs.Linear.{zeros}
use Rattle.grid.specs.Steps.{Rows}
use Rattle.scheme.specs.declared.sizes.Sizes.{Sizes}
use Rattle.scheme.specs.Secret.{Secret}
use Rattle.scheme.specs.Sizes.{ru, rv}
use Rattle.calls.specs.Lent.{half_words}
use Rattle.calls.specs.BuildCall.{build_work_words}

-- H_U and H_V alone, with no b and c
abbrev pub matrices : Sizes → List ℕ → List ℕ → List ℕ → List ℕ → Secret
matrices z a b c d = record { hu = matrix_at (half_words z) a b; hv = matrix_at (half_words z) c d; b = zeros; c = zeros }

-- the first v words of each of the first k rows of w words, row after row at the front of a plane; its other words are as they were
pub record Fronts (plane : List ℕ) (w v k : ℕ) (l₀ l : List ℕ) : Type 0 where
  pub kept : length l ≡ length l₀
  pub words : (i j : ℕ) → i < k → j < v → get_or l (i * v + j) 0 ≡ get_or plane (i * w + j) 0
  pub rest : (q : ℕ) → k * v ≤ q → get_or l q 0 ≡ get_or l₀ q 0

-- a plane of rows of w words, and room for the first v words of each
pub record ForCopyFront (plane : List ℕ) (w rows v : ℕ) (work : List ℕ) : Type 0 where
  pub size : length plane ≡ rows * w
  pub width : v ≤ w
  pub room : rows * v ≤ length work

-- a grid, the first v words of its rows, in which its first n columns stand, and working space for these words and for tables
pub record ForRankIn (ones twos : List ℕ) (rows w v n : ℕ) (ones_work twos_work : List ℕ) : Type 0 where
  pub grid : Rows ones twos rows w
  pub small : length ones_work ≤ 4294967296
  pub narrow : v ≤ 65536
  pub some : 0 < v
  pub width : v ≤ w
  pub columns : n ≤ 64 * v
  pub work_ones : length ones_work ≡ (rows + 243) * v
  pub work_twos : length twos_work ≡ (rows + 243) * v

-- a grid, the first v words of its rows, in which its first n columns stand, and working space that is large enough
pub record ForFrontRank (ones twos : List ℕ) (rows w v n : ℕ) (ones_work twos_work : List ℕ) : Type 0 where
  pub grid : Rows ones twos rows w
  pub small : (rows + 243) * v ≤ 4294967296
  pub narrow : v ≤ 65536
  pub some : 0 < v
  pub width : v ≤ w
  pub columns : n ≤ 64 * v
  pub work_ones : (rows + 243) * v ≤ length ones_work
  pub work_twos : (rows + 243) * v ≤ length twos_work

-- a grid, and working space that is large enough
pub record ForRankOf (ones twos : List ℕ) (rows w n : ℕ) (ones_work twos_work : List ℕ) : Type 0 where
  pub grid : Rows ones twos rows w
  pub small : (rows + 243) * w ≤ 4294967296
  pub narrow : w ≤ 65536
  pub some : 0 < w
  pub columns : n ≤ 64 * w
  pub work_ones : (rows + 243) * w ≤ length ones_work
  pub work_twos : (rows + 243) * w ≤ length twos_work

-- H_U and H_V of these sizes, and working space
pub record ForTestRanks (z : Sizes) (hu_ones hu_twos hv_ones hv_twos ones_work twos_work : List ℕ) : Type 0 where
  pub hu_grid : Rows hu_ones hu_twos (ru z) (half_words z)
  pub hv_grid : Rows hv_ones hv_twos (rv z) (half_words z)
  pub work_ones : length ones_work ≡ build_work_words z
  pub work_twos : length twos_work ≡ build_work_words z
