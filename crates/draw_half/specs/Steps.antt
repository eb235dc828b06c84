-- One half of a draw with its own numbers ("One draw"): r rows of H, n places, a gap g. The laws say that these words are `draw_v` and `draw_u`. Assumes
-- nothing.
use Rattle.std.specs.Prelude.{◌≡◌, Bool, true, false, cond, List, ◌⊎◌, ◌≢◌, ℕ, ◌+◌, ◌-◌, ◌*◌, ◌≤◌, ◌<◌, ltb, get_or, take, drop, length}
use Rattle.trits.specs.Trit.{t0, t1, sub_t, put_v, zip_v}
use Rattle.trits.specs.Planes.{Row}
use Rattle.trits.specs.Rows.{matrix_at}
use Rattle.matrix.specs.Linear.{Vector, Matrix, zeros, times, solve, or_zeros, pivots, rank, elem, without, fill, range}
use Rattle.matrix.specs.Orders.{Order}
use Rattle.matrix.specs.Steps.{eliminated, backed}
use Rattle.grid.specs.Steps.{Rows, put_row}
use Rattle.scheme.specs.Draw.{forced_by}
use Rattle.draw_walk.specs.Walks.{passed, pivot_place, firsts_of}

-- 0 from place n on
pub record Ends (n : ℕ) (v : Vector) : Type 0 where
  pub past : (q : ℕ) → n ≤ q → v q ≡ t0

-- the pivots: the first independent places of the first part, which has r + g places
abbrev pub half_pivots : ℕ → ℕ → Matrix → List ℕ → ℕ → List ℕ
half_pivots r n H order g = pivots r n H (take (r + g) order)

-- V: the places that are no pivot take the supplied trits v in draw order, and the pivots the values for which H e is H x
unfoldable pub word_v : ℕ → ℕ → Matrix → List ℕ → ℕ → Vector → Vector → Vector
word_v r n H order g v x =
    or_zeros (solve r n H (times n H x) (half_pivots r n H order g) (fill (without (half_pivots r n H order g) order) v zeros))

-- U: the g other places of the first part take the first g values u, the last part is forced by e_V or takes the other values, and the pivots likewise
unfoldable pub word_u : ℕ → ℕ → Matrix → Vector → Vector → List ℕ → ℕ → Vector → Vector → Vector → Vector
word_u r n H b c order g u e_v x =
    or_zeros (solve r n H (times n H x) (half_pivots r n H order g)
    (fill (drop (r + g) order) (λ j. forced_by b c e_v (get_or (drop (r + g) order) j 0) (u (g + j)))
    (fill (without (half_pivots r n H order g) (take (r + g) order)) u zeros)))

-- either half: its last part stands in u, the other places of the first m take v, and the pivots the values for which H e is H x
unfoldable pub half_word : ℕ → ℕ → Matrix → List ℕ → ℕ → Vector → Vector → Vector → Vector
half_word r n H order m v u x =
    or_zeros (solve r n H (times n H x) (pivots r n H (take m order)) (fill (without (pivots r n H (take m order)) (take m order)) v u))

-- ---- the first part, lowered

-- v words of w: room for m columns, and for one more or all that there is
pub record WordsFor (w m v : ℕ) : Type 0 where
  pub within : v ≤ w
  pub columns : m ≤ 64 * v
  pub one_more : (m < 64 * v) ⊎ (v ≡ w)

-- the first r rows of B stand for H eliminated at the first m places of the order: column j for the place at j, and column m, where there are further
-- places, for the product with z; the pivots are found again; past the tables no row of A is changed
pub record LoweredFirst (r m : ℕ) (order : List ℕ) (H : Matrix) (z : Vector) (A B : Matrix) : Type 0 where
  pub columns : (i j : ℕ) → i < r → j < m → B i j ≡ eliminated r H (take m order) i (get_or order j 0)
  pub known : m < length order → (i : ℕ) → i < r → B i m ≡ times (length order) (eliminated r H (take m order)) z i
  pub pivot : rank r (length order) H (take m order) ≡ r → (c : ℕ) → c < r
      → (pivot_place B (range m) c < m) × (get_or (pivots r (length order) H (take m order)) c 0 ≡ get_or order (pivot_place B (range m) c) 0)
  pub kept : (i : ℕ) → r + 243 ≤ i → B i ≡ A i

-- ---- the first part, solved by position

-- 1 at m where there are further places, of n
abbrev pub marked : ℕ → ℕ → Vector → Vector
marked m n u = cond (ltb m n) (put_v u m t1) u

-- what x less the word is at the first m places, by position: supplied, and solved at the pivots of the r rows of A, which has N columns
abbrev pub solved_first : ℕ → ℕ → List ℕ → ℕ → Vector → ℕ → ℕ → Matrix → Vector
solved_first N r order m v x t A =
    backed N A (pivot_place A (range m)) r (marked m (length order) (firsts_of r A order m v (A x) (A t)))

-- it stands in row t, and row e, which holds the last part of x less the word, becomes the word
abbrev pub completed : ℕ → ℕ → List ℕ → ℕ → Vector → ℕ → ℕ → ℕ → Matrix → Matrix
completed N r order m v x t e A =
    put_row e (zip_v sub_t (A x) (fill (take m order) (solved_first N r order m v x t A) (A e))) (put_row t (solved_first N r order m v x t A) A)

-- one half of a draw: A is the grid at entry, B at exit; row e is the word v, and past the matrix and its tables no row but t and e is changed
pub record Solved (r t e : ℕ) (A B : Matrix) (v : Vector) : Type 0 where
  pub word : B e ≡ v
  pub kept : (k : ℕ) → r + 243 ≤ k → k ≢ e → k ≢ t → B k ≡ A k

-- where the answer b is true, the half is solved
pub record SolvedWhere (b : Bool) (r t e : ℕ) (A B : Matrix) (v : Vector) : Type 0 where
  pub solved : b ≡ true → Solved r t e A B v

-- ---- what the functions ask

-- a grid, a matrix for its first rows, a number of places, and a row past them
pub record ForPutKnown (ones twos : List ℕ) (rows w r : ℕ) (ho ht : List ℕ) (n e : ℕ) : Type 0 where
  pub grid : Rows ones twos rows w
  pub h_grid : Rows ho ht r w
  pub small : length ones ≤ 4294967296
  pub narrow : w ≤ 65536
  pub places_fit : n ≤ 64 * w
  pub e_past : r ≤ e
  pub e_in : e < rows

-- a grid, a matrix for its first rows, an order of its places, the end of the first part, and a row past the tables
pub record ForLowerFirst (ones twos : List ℕ) (rows w r : ℕ) (ho ht order : List ℕ) (m e : ℕ) : Type 0 where
  pub grid : Rows ones twos rows w
  pub h_grid : Rows ho ht r w
  pub is_order : Order (length order) order
  pub small : length ones ≤ 4294967296
  pub narrow : w ≤ 65536
  pub places_fit : length order ≤ 64 * w
  pub front : m ≤ length order
  pub e_past : r + 243 ≤ e
  pub e_in : e < rows
  pub e_ends : Ends (length order) (matrix_at w ones twos e)

-- a grid, a number of places, and one of its rows
pub record ForMark (ones twos : List ℕ) (rows w n t : ℕ) : Type 0 where
  pub grid : Rows ones twos rows w
  pub small : length ones ≤ 4294967296
  pub places_fit : n ≤ 64 * w
  pub t_in : t < rows

-- a grid, r rows of it, the rows x, t and e past them, an order of the places, the end of the part that has the pivots, and enough supplied trits
pub record ForComplete (ones twos : List ℕ) (rows w r : ℕ) (order : List ℕ) (m : ℕ) (vo vt : List ℕ) (x t e : ℕ) : Type 0 where
  pub grid : Rows ones twos rows w
  pub v_row : Row vo vt
  pub is_order : Order (length order) order
  pub small : length ones ≤ 4294967296
  pub narrow : w ≤ 65536
  pub places_fit : length order ≤ 64 * w
  pub front : m ≤ length order
  pub enough : r ≤ m
  pub v_room : length (passed r (matrix_at w ones twos) 0 (range m)) ≤ 64 * length vo
  pub x_in : x < rows
  pub t_past : r ≤ t
  pub t_in : t < rows
  pub e_past : r ≤ e
  pub e_in : e < rows
  pub x_apart : x ≢ e
  pub t_apart : t ≢ e
  pub rows_apart : x ≢ t

-- a grid with a half's matrix above its rows x, t and e, an order of the places, the supplied trits, and the last part in row e
pub record ForSolveHalf (ones twos : List ℕ) (rows w r : ℕ) (ho ht order : List ℕ) (m : ℕ) (vo vt : List ℕ) (x t e : ℕ) : Type 0 where
  pub grid : Rows ones twos rows w
  pub h_grid : Rows ho ht r w
  pub v_row : Row vo vt
  pub is_order : Order (length order) order
  pub small : length ones ≤ 4294967296
  pub narrow : w ≤ 65536
  pub places_fit : length order ≤ 64 * w
  pub front : m ≤ length order
  pub enough : r ≤ m
  pub v_room : m - r ≤ 64 * length vo
  pub x_past : r + 243 ≤ x
  pub x_in : x < rows
  pub t_past : r + 243 ≤ t
  pub t_in : t < rows
  pub e_past : r + 243 ≤ e
  pub e_in : e < rows
  pub x_apart : x ≢ e
  pub t_apart : t ≢ e
  pub rows_apart : x ≢ t
  pub x_ends : Ends (length order) (matrix_at w ones twos x)
  pub t_zero : matrix_at w ones twos t ≡ zeros
  pub e_last : (q : ℕ) → elem q (drop m order) ≡ false → matrix_at w ones twos e q ≡ t0

-- a grid with H_V above its rows x, t and e, an order of the places, and the supplied trits
pub record ForDrawV (ones twos : List ℕ) (rows w r : ℕ) (ho ht order : List ℕ) (g : ℕ) (vo vt : List ℕ) (x t e : ℕ) : Type 0 where
  pub grid : Rows ones twos rows w
  pub h_grid : Rows ho ht r w
  pub v_row : Row vo vt
  pub is_order : Order (length order) order
  pub small : length ones ≤ 4294967296
  pub narrow : w ≤ 65536
  pub places_fit : length order ≤ 64 * w
  pub front : r + g ≤ length order
  pub v_room : length order - r ≤ 64 * length vo
  pub x_past : r + 243 ≤ x
  pub x_in : x < rows
  pub t_past : r + 243 ≤ t
  pub t_in : t < rows
  pub e_past : r + 243 ≤ e
  pub e_in : e < rows
  pub apart : x ≢ e
  pub t_apart : t ≢ e
  pub rows_apart : x ≢ t
  pub x_ends : Ends (length order) (matrix_at w ones twos x)
  pub e_zero : matrix_at w ones twos e ≡ zeros

-- a grid with H_U above its rows x, t, e and e_V, an order of the places, b, c and the supplied values
pub record ForDrawU (ones twos : List ℕ) (rows w r : ℕ) (ho ht order : List ℕ) (g : ℕ) (bo bt co ct uo ut : List ℕ) (ev x t e : ℕ) : Type 0 where
  pub grid : Rows ones twos rows w
  pub h_grid : Rows ho ht r w
  pub b_row : Row bo bt
  pub c_row : Row co ct
  pub u_row : Row uo ut
  pub is_order : Order (length order) order
  pub small : length ones ≤ 4294967296
  pub narrow : w ≤ 65536
  pub places_fit : length order ≤ 64 * w
  pub front : r + g ≤ length order
  pub u_room : length order - r ≤ 64 * length uo
  pub b_room : length order ≤ 64 * length bo
  pub c_room : length order ≤ 64 * length co
  pub x_past : r + 243 ≤ x
  pub x_in : x < rows
  pub t_past : r + 243 ≤ t
  pub t_in : t < rows
  pub e_past : r + 243 ≤ e
  pub e_in : e < rows
  pub apart : x ≢ e
  pub t_apart : t ≢ e
  pub rows_apart : x ≢ t
  pub ev_past : r + 243 ≤ ev
  pub ev_in : ev < rows
  pub ev_apart : ev ≢ e
  pub ev_t_apart : ev ≢ t
  pub x_ends : Ends (length order) (matrix_at w ones twos x)
  pub e_zero : matrix_at w ones twos e ≡ zeros
