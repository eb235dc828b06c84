-- Two rows of a grid that hold the halves of a word in secret places. No rule of the paper: code is tied to it. Assumes nothing.
use Rattle.std.specs.Prelude.{◌≡◌, cond, List, ◌≢◌, ℕ, ◌+◌, ◌-◌, ◌*◌, ◌≤◌, ◌<◌, ltb, get_or, length}
use Rattle.trits.specs.Trit.{Trit, add_t, sub_t, put_v, up_to}
use Rattle.trits.specs.Planes.{Row, Reads}
use Rattle.trits.specs.Rows.{matrix_at}
use Rattle.matrix.specs.Linear.{Vector, Matrix, zeros}
use Rattle.matrix.specs.Orders.{Order}
use Rattle.grid.specs.Steps.{put_row, join_product, Rows}
use Rattle.scheme.specs.Secret.{join}

-- ---- placing

-- the trit x at secret place q: in row u below N, in row v from N on
unfoldable pub put_place : ℕ → ℕ → ℕ → ℕ → Trit → Matrix → Matrix
put_place u v N q x A = cond (ltb q N) (put_row u (put_v (A u) q x) A) (put_row v (put_v (A v) (q - N) x) A)

-- the halves of x in rows l and l + 1
unfoldable pub placed_rows : ℕ → ℕ → Vector → Matrix → Matrix
placed_rows l N x A = put_row (l + 1) (up_to N (λ q. x (N + q))) (put_row l (up_to N x) A)

-- ---- parting and joining

-- the halves in rows l and l + 1 parted: c·L is taken from R, then b·x_V from L; row l + 2 has the last product
unfoldable pub parted_rows : ℕ → Vector → Vector → Matrix → Matrix
parted_rows l b c A = join_product sub_t l (l + 1) (l + 2) b (join_product sub_t (l + 1) l (l + 2) c A)

-- e_U and e_V in rows u and v joined: b·e_V is added to e_U, then c·e_L to e_V; row t has the last product
unfoldable pub joined_rows : ℕ → ℕ → ℕ → Vector → Vector → Matrix → Matrix
joined_rows u v t b c A = join_product add_t v u t c (join_product add_t u v t b A)

-- ---- reading

-- the word of the halves l and r, from public place `from` on: public place i is secret place p(i)
abbrev pub written_from : ℕ → Vector → Vector → List ℕ → ℕ → Vector
written_from N l r p from j = join N l r (get_or p (from + j) 0)

-- a grid, three of its rows from l on, b and c
pub record ForPartHalves (ones twos : List ℕ) (rows w l : ℕ) (bo bt co ct : List ℕ) : Type 0 where
  pub grid : Rows ones twos rows w
  pub b_row : Row bo bt
  pub c_row : Row co ct
  pub l_in : l + 2 < rows
  pub b_size_here : length bo ≡ w
  pub c_size_here : length co ≡ w

-- a grid, three of its rows, b and c
pub record ForJoinHalves (ones twos : List ℕ) (rows w u v t : ℕ) (bo bt co ct : List ℕ) : Type 0 where
  pub grid : Rows ones twos rows w
  pub b_row : Row bo bt
  pub c_row : Row co ct
  pub u_in : u < rows
  pub v_in : v < rows
  pub t_in : t < rows
  pub u_apart : u ≢ t
  pub v_apart : v ≢ t
  pub b_size_here : length bo ≡ w
  pub c_size_here : length co ≡ w

-- a grid, two of its rows, a secret place and a trit
pub record ForPutPlace (ones twos : List ℕ) (rows w u v half q t : ℕ) : Type 0 where
  pub grid : Rows ones twos rows w
  pub small : length ones ≤ 4294967296
  pub u_in : u < rows
  pub v_in : v < rows
  pub half_fits : half ≤ 64 * w
  pub place : q < half + half
  pub trit : t < 3

-- a grid with two rows of zeros, an order of the secret places, and a syndrome
pub record ForPlaceSyndrome (ones twos : List ℕ) (rows w l half : ℕ) (p : List ℕ) (count : ℕ) (yo yt : List ℕ) : Type 0 where
  pub grid : Rows ones twos rows w
  pub u_zero : matrix_at w ones twos l ≡ zeros
  pub v_zero : matrix_at w ones twos (l + 1) ≡ zeros
  pub is_order : Order (half + half) p
  pub small : length ones ≤ 4294967296
  pub l_in : l + 1 < rows
  pub half_fits : half ≤ 64 * w
  pub places_fit : count ≤ half + half
  pub y_room : count ≤ 64 * length yo
  pub y_twos : length yt ≡ length yo

-- a grid, two of its rows, and a secret place
pub record ForTritOfPlace (ones twos : List ℕ) (rows w u v half q : ℕ) : Type 0 where
  pub grid : Rows ones twos rows w
  pub small : length ones ≤ 4294967296
  pub u_in : u < rows
  pub v_in : v < rows
  pub half_fits : half ≤ 64 * w
  pub place : q < half + half

-- a grid, two of its rows, an order of the secret places, and a row in which nothing is put yet
pub record ForPutPlaces (ones twos : List ℕ) (rows w u v half : ℕ) (p : List ℕ) (from count : ℕ) (oo ot : List ℕ) : Type 0 where
  pub grid : Rows ones twos rows w
  pub nothing_put : Reads oo ot (length oo) (up_to 0 (written_from half (matrix_at w ones twos u) (matrix_at w ones twos v) p from))
  pub is_order : Order (half + half) p
  pub small : length ones ≤ 4294967296
  pub u_in : u < rows
  pub v_in : v < rows
  pub half_fits : half ≤ 64 * w
  pub places_fit : from + count ≤ length p
  pub room : count ≤ 64 * length oo

-- a grid, two of its rows, an order of the secret places, and room for a row
pub record ForWritePlaces (ones twos : List ℕ) (rows w u v half : ℕ) (p : List ℕ) (from count : ℕ) (oo ot : List ℕ) : Type 0 where
  pub grid : Rows ones twos rows w
  pub is_order : Order (half + half) p
  pub small : length ones ≤ 4294967296
  pub u_in : u < rows
  pub v_in : v < rows
  pub half_fits : half ≤ 64 * w
  pub places_fit : from + count ≤ length p
  pub room : count ≤ 64 * length oo
  pub twos_size : length ot ≡ length oo
