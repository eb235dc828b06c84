-- What the walk along an order asks of the grid, the order and the supplied trits. No rule of the paper: code is tied to it. Assumes nothing.
use Rattle.std.specs.Prelude.{◌≡◌, true, List, ◌⊎◌, ◌≢◌, ℕ, ◌+◌, ◌-◌, ◌*◌, ◌≤◌, ◌<◌, length}
use Rattle.trits.specs.Planes.{Row}
use Rattle.trits.specs.Rows.{matrix_at}
use Rattle.matrix.specs.Linear.{range}
use Rattle.matrix.specs.Orders.{Order}
use Rattle.grid.specs.Steps.{Rows}
use Rattle.draw_walk.specs.Walks.{is_next, passed}

-- ---- one place

-- a grid, a row and a place of it
pub record ForCell (ones twos : List ℕ) (rows w i q : ℕ) : Type 0 where
  pub grid : Rows ones twos rows w
  pub small : length ones ≤ 4294967296
  pub i_in : i < rows
  pub place : q < 64 * w

-- a grid, a row and a place of it, and another row and place
pub record ForCopyPlace (ones twos : List ℕ) (rows w i p j q : ℕ) : Type 0 where
  pub grid : Rows ones twos rows w
  pub small : length ones ≤ 4294967296
  pub i_in : i < rows
  pub from_place : p < 64 * w
  pub j_in : j < rows
  pub place : q < 64 * w

-- a grid, a row and a place of it, a trit of another row, and another row and place
pub record ForPutLess (ones twos : List ℕ) (rows w i p : ℕ) (vo vt : List ℕ) (k j q : ℕ) : Type 0 where
  pub grid : Rows ones twos rows w
  pub source : Row vo vt
  pub small : length ones ≤ 4294967296
  pub i_in : i < rows
  pub from_place : p < 64 * w
  pub source_place : k < 64 * length vo
  pub j_in : j < rows
  pub place : q < 64 * w

-- a grid, two of its rows, and a place
pub record ForTakePlace (ones twos : List ℕ) (rows w x e q : ℕ) : Type 0 where
  pub grid : Rows ones twos rows w
  pub small : length ones ≤ 4294967296
  pub x_in : x < rows
  pub e_in : e < rows
  pub place : q < 64 * w

-- three trits
pub record ForForcedTrit (b c v : ℕ) : Type 0 where
  pub b_trit : b < 3
  pub c_trit : c < 3
  pub v_trit : v < 3

-- a grid, two of its rows and a place, b, c and the supplied values
pub record ForForcePlace (ones twos : List ℕ) (rows w q : ℕ) (bo bt co ct uo ut : List ℕ) (j ev e : ℕ) : Type 0 where
  pub grid : Rows ones twos rows w
  pub b_row : Row bo bt
  pub c_row : Row co ct
  pub u_row : Row uo ut
  pub small : length ones ≤ 4294967296
  pub place : q < 64 * w
  pub ev_in : ev < rows
  pub e_in : e < rows
  pub b_room : q < 64 * length bo
  pub c_room : q < 64 * length co
  pub u_room : j < 64 * length uo

-- ---- the parts of an order

-- a grid, one of its rows, an order of its places, and the supplied trits
pub record ForSupplyLast (ones twos : List ℕ) (rows w : ℕ) (order : List ℕ) (from : ℕ) (vo vt : List ℕ) (g e : ℕ) : Type 0 where
  pub grid : Rows ones twos rows w
  pub source : Row vo vt
  pub is_order : Order (length order) order
  pub small : length ones ≤ 4294967296
  pub narrow : w ≤ 65536
  pub places_fit : length order ≤ 64 * w
  pub front : from ≤ length order
  pub e_in : e < rows
  pub room : g + (length order - from) ≤ 64 * length vo
  pub gap : g ≤ from

-- a grid, two of its rows, an order of its places, b, c and the supplied values
pub record ForSupplyForced (ones twos : List ℕ) (rows w : ℕ) (order : List ℕ) (from : ℕ) (bo bt co ct uo ut : List ℕ) (g ev e : ℕ) : Type 0 where
  pub grid : Rows ones twos rows w
  pub b_row : Row bo bt
  pub c_row : Row co ct
  pub u_row : Row uo ut
  pub is_order : Order (length order) order
  pub small : length ones ≤ 4294967296
  pub narrow : w ≤ 65536
  pub places_fit : length order ≤ 64 * w
  pub front : from ≤ length order
  pub ev_in : ev < rows
  pub e_in : e < rows
  pub apart : ev ≢ e
  pub b_room : length order ≤ 64 * length bo
  pub c_room : length order ≤ 64 * length co
  pub u_room : g + (length order - from) ≤ 64 * length uo
  pub gap : g ≤ from

-- a grid, two of its rows, and an order of its places
pub record ForTakeLast (ones twos : List ℕ) (rows w : ℕ) (order : List ℕ) (from x e : ℕ) : Type 0 where
  pub grid : Rows ones twos rows w
  pub is_order : Order (length order) order
  pub small : length ones ≤ 4294967296
  pub narrow : w ≤ 65536
  pub places_fit : length order ≤ 64 * w
  pub front : from ≤ length order
  pub x_in : x < rows
  pub e_in : e < rows
  pub apart : x ≢ e

-- a grid, two of its rows, and the first places of an order
pub record ForPlaceBack (ones twos : List ℕ) (rows w : ℕ) (order : List ℕ) (m t e : ℕ) : Type 0 where
  pub grid : Rows ones twos rows w
  pub is_order : Order (length order) order
  pub small : length ones ≤ 4294967296
  pub places_fit : length order ≤ 64 * w
  pub front : m ≤ length order
  pub t_in : t < rows
  pub e_in : e < rows
  pub apart : t ≢ e

-- ---- the products of a lent matrix

-- a matrix, a grid of rows as wide, and a row of each
pub record ForLentDot (ones twos : List ℕ) (rows w r : ℕ) (ho ht : List ℕ) (i e : ℕ) : Type 0 where
  pub grid : Rows ones twos rows w
  pub h_grid : Rows ho ht r w
  pub narrow : w ≤ 65536
  pub i_in : i < r
  pub e_in : e < rows

-- the same, and a column
pub record ForPutProducts (ones twos : List ℕ) (rows w r : ℕ) (ho ht : List ℕ) (m e : ℕ) : Type 0 where
  pub grid : Rows ones twos rows w
  pub h_grid : Rows ho ht r w
  pub small : length ones ≤ 4294967296
  pub narrow : w ≤ 65536
  pub column : m < 64 * w
  pub e_past : r ≤ e
  pub e_in : e < rows

-- ---- the walk by position

-- a grid, and a place of it
pub record ForIsNext (ones twos : List ℕ) (rows w r q : ℕ) : Type 0 where
  pub grid : Rows ones twos rows w
  pub small : length ones ≤ 4294967296
  pub place : q < 64 * w
  pub r_in : r ≤ rows

-- a grid, two rows of it, a position and its place, and a supplied trit where one is taken
pub record ForSupplyPlace (ones twos : List ℕ) (rows w r c i q : ℕ) (vo vt : List ℕ) (j x t : ℕ) : Type 0 where
  pub grid : Rows ones twos rows w
  pub source : Row vo vt
  pub small : length ones ≤ 4294967296
  pub position : i < 64 * w
  pub place : q < 64 * w
  pub r_in : r ≤ rows
  pub x_in : x < rows
  pub t_in : t < rows
  pub enough : (is_next r (matrix_at w ones twos) c i ≡ true) ⊎ (j < 64 * length vo)

-- a grid, two rows of it, the first places of an order, and enough supplied trits
pub record ForSupply (ones twos : List ℕ) (rows w r : ℕ) (order : List ℕ) (m : ℕ) (vo vt : List ℕ) (x t : ℕ) : Type 0 where
  pub grid : Rows ones twos rows w
  pub source : Row vo vt
  pub is_order : Order (length order) order
  pub small : length ones ≤ 4294967296
  pub places_fit : length order ≤ 64 * w
  pub front : m ≤ length order
  pub x_in : x < rows
  pub t_past : r ≤ t
  pub t_in : t < rows
  pub apart : x ≢ t
  pub enough : length (passed r (matrix_at w ones twos) 0 (range m)) ≤ 64 * length vo

-- a grid, one of its rows, and the end of the part that is searched
pub record ForPivotPlace (ones twos : List ℕ) (rows w m c : ℕ) : Type 0 where
  pub grid : Rows ones twos rows w
  pub small : length ones ≤ 4294967296
  pub columns : m ≤ 64 * w
  pub c_in : c < rows
  pub begins : c < m

-- a grid, two of its rows, and a place
pub record ForLessen (ones twos : List ℕ) (rows w q c e : ℕ) : Type 0 where
  pub grid : Rows ones twos rows w
  pub small : length ones ≤ 4294967296
  pub narrow : w ≤ 65536
  pub place : q < 64 * w
  pub c_in : c < rows
  pub e_in : e < rows

-- a grid, r rows of it and one past them, and the end of the part that has the pivots
pub record ForSolvePivots (ones twos : List ℕ) (rows w r m e : ℕ) : Type 0 where
  pub grid : Rows ones twos rows w
  pub small : length ones ≤ 4294967296
  pub narrow : w ≤ 65536
  pub columns : m ≤ 64 * w
  pub enough : r ≤ m
  pub e_past : r ≤ e
  pub e_in : e < rows
