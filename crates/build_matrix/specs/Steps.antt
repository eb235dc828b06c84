-- The work matrix of a build: it stays in secret places, each row's halves beginning a new word. No rule of the paper: code is tied to it. Assumes nothing.
use Rattle.std.specs.Prelude.{◌≡◌, ◌&&◌, cond, List, ℕ, ◌+◌, ◌-◌, ◌*◌, ◌/◌, ◌%◌, ◌≤◌, ◌<◌, eqb, leb, ltb, length}
use Rattle.trits.specs.Trit.{t1, add_t, neg_t, mul_t}
use Rattle.trits.specs.Rows.{matrix_at}
use Rattle.trits.specs.Planes.{trit_at, Row}
use Rattle.trits.specs.declared.Planes.{Planes}
use Rattle.matrix.specs.Linear.{Vector, Matrix}
use Rattle.grid.specs.Steps.{Rows}
use Rattle.build_matrix.specs.declared.halves.Half.{Half}
use Rattle.build_matrix.specs.declared.halves.Half.TheVariants.{Scaled, Negative, Same}

-- ---- columns

-- the column of a secret place: places from N on begin at word hw of a row
unfoldable pub col_of : ℕ → ℕ → ℕ → ℕ
col_of N hw q = cond (ltb q N) q (64 * hw + (q - N))

-- the matrix by secret places
unfoldable pub placed_at : ℕ → ℕ → ℕ → List ℕ → List ℕ → Matrix
placed_at N hw w ones twos i q = matrix_at w ones twos i (col_of N hw q)

-- ---- half-rows: a row of two halves of w words is two rows of w words

-- a row of H times 1 + b·c
abbrev pub scaled_by : Vector → Vector → Vector → Vector
scaled_by b c h q = mul_t (add_t t1 (mul_t (b q) (c q))) (h q)

-- the negative of a row of H times v
abbrev pub negative_by : Vector → Vector → Vector
negative_by v h q = neg_t (mul_t (v q) (h q))

-- a half of a row, by what it is made with
abbrev pub half_of : Half → Vector → Vector
half_of (Scaled b c) h = scaled_by (trit_at b.ones.now b.twos.now) (trit_at c.ones.now c.twos.now) h
half_of (Negative v) h = negative_by (trit_at v.ones.now v.twos.now) h
half_of Same h = h

-- that is rows of w words
pub record RowOf (x : Planes) (w : ℕ) : Type 0 where
  pub row : Row x.ones.now x.twos.now
  pub size : length x.ones.now ≡ w

abbrev pub MadeWith : ℕ → Half → Type 0
MadeWith w (Scaled b c) = RowOf b w × RowOf c w
MadeWith w (Negative v) = RowOf v w
MadeWith w Same = Unit

-- the rows a, a + 1, .. a + m - 1 have the halves of L's and R's rows 0, 1, .. m - 1
unfoldable pub halves_in : ℕ → ℕ → Matrix → Matrix → Matrix → Matrix
halves_in a m L R A j q = cond (leb (a + a) j && ltb j (a + m + (a + m))) (cond (eqb (j % 2) 0) (L (j / 2 - a) q) (R (j / 2 - a) q)) (A j q)

-- the halves of the rows of U
abbrev pub left_u : Matrix → Vector → Vector → Matrix
left_u H b c i = scaled_by b c (H i)

abbrev pub right_u : Matrix → Vector → Matrix
right_u H b i = negative_by b (H i)

-- and the left halves of the rows of V; the right ones are those of H_V
abbrev pub left_v : Matrix → Vector → Matrix
left_v H c i = negative_by c (H i)

-- a grid with room after its first rows, the m rows of H_U or H_V, and what both halves are made with
pub record ForFill (ones twos : List ℕ) (rows w first m : ℕ) (ho ht : List ℕ) (left right : Half) : Type 0 where
  pub grid : Rows ones twos rows w
  pub h_grid : Rows ho ht m w
  pub left_with : MadeWith w left
  pub right_with : MadeWith w right
  pub room : first + m + (first + m) ≤ rows
  pub few : rows ≤ 4294967296
  pub h_few : m ≤ 65536
  pub narrow : w ≤ 65536

-- a row of H_U, b and c, and room for their product
pub record ForScaled (ones twos ho ht bo bt co ct : List ℕ) : Type 0 where
  pub h_row : Row ho ht
  pub b_row : Row bo bt
  pub c_row : Row co ct
  pub h_size : length ho ≡ length ones
  pub twos_size : length ones ≡ length twos
  pub b_size_here : length bo ≡ length ones
  pub c_size_here : length co ≡ length ones

-- a row of H_V, a row of values, and room for their product
pub record ForNegative (ones twos ho ht vo vt : List ℕ) : Type 0 where
  pub h_row : Row ho ht
  pub v_row : Row vo vt
  pub h_size : length ho ≡ length ones
  pub twos_size : length ones ≡ length twos
  pub v_size_here : length vo ≡ length ones

-- a row of H_U or H_V, what the half is made with, and room for it
pub record ForHalf (ones twos ho ht : List ℕ) (half : Half) : Type 0 where
  pub h_row : Row ho ht
  pub h_size : length ho ≡ length ones
  pub twos_size : length ones ≡ length twos
  pub made_with : MadeWith (length ones) half

-- a grid, one of its rows, a row of H_U or H_V, and what the half is made with
pub record ForPutHalf (ones twos : List ℕ) (rows w j : ℕ) (ho ht : List ℕ) (half : Half) : Type 0 where
  pub grid : Rows ones twos rows w
  pub h_row : Row ho ht
  pub j_in : j < rows
  pub h_size : length ho ≡ w
  pub made_with : MadeWith w half
