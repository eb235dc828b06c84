-- The columns of the work matrix of a build gathered into an order of places, one plane at a time, through working words that hold columns. No rule of the
-- paper: code is tied to it. Assumes nothing.
use Rattle.std.specs.Prelude.{◌≡◌, List, ℕ, ◌+◌, ◌*◌, ◌/◌, ◌%◌, ◌≤◌, ◌<◌, length, get_or, take}
use Rattle.trits.specs.Planes.{bit, tabulate}
use Rattle.matrix.specs.Orders.{Order}
use Rattle.grid.specs.Steps.{Rows}
use Rattle.gathering.specs.Steps.{GatheredWord, GatheredRows, EndOf}
use Rattle.build_matrix.specs.Steps.{col_of}
use Rattle.build_columns.specs.declared.places.Places.{Places}

-- ---- what is made

-- the columns of an order's places
unfoldable pub columns_of : ℕ → ℕ → List ℕ → List ℕ
columns_of half hw order = tabulate (λ j. col_of half hw (get_or order j 0)) (length order)

abbrev pub columns_in : Places → List ℕ
columns_in p = columns_of p.half p.hw p.order.now

-- the first 64 * c words after r rows are the columns of the 64 rows from row i on; no other word is changed
pub record OwnColumns (w r i c : ℕ) (l₀ l : List ℕ) : Type 0 where
  pub kept : length l ≡ length l₀
  pub bits : (q x : ℕ) → q < 64 * c → x < 64 → bit x (get_or l (r * w + q) 0) ≡ bit (q % 64) (get_or (take (r * w) l₀) ((i + x) * w + q / 64) 0)
  pub before : (p : ℕ) → p < r * w → get_or l p 0 ≡ get_or l₀ p 0
  pub past : (p : ℕ) → r * w + 64 * c ≤ p → get_or l p 0 ≡ get_or l₀ p 0

-- the words c of the rows i to e - 1 come from the columns, and the rows after them are as they were
pub record OwnWord (w r i e : ℕ) (columns : List ℕ) (m c : ℕ) (l₀ l : List ℕ) : Type 0 where
  pub word : GatheredWord w r i e columns m c l₀ l
  pub after : (p : ℕ) → e * w ≤ p → p < r * w → get_or l p 0 ≡ get_or l₀ p 0

-- the rows i to e - 1 are gathered from the first r rows, and the rows after them are as they were
pub record OwnRows (w r i e : ℕ) (columns : List ℕ) (m : ℕ) (l₀ l : List ℕ) : Type 0 where
  pub rows : GatheredRows w r i e (take (r * w) l₀) columns m l₀ l
  pub after : (p : ℕ) → e * w ≤ p → p < r * w → get_or l p 0 ≡ get_or l₀ p 0

-- ---- what is asked

-- a half of so many places in so many words, and a place of both halves
pub record ForColumn (q half hw : ℕ) : Type 0 where
  pub half_fits : half ≤ 64 * hw
  pub place : q < half + half
  pub small : hw ≤ 4294967296

-- places of two halves, in rows of w words
pub record Halves (order : List ℕ) (half hw w : ℕ) : Type 0 where
  pub half_fits : half ≤ 64 * hw
  pub words : hw + hw ≤ w
  pub places : (j : ℕ) → j < length order → get_or order j 0 < half + half

-- a plane with room for columns after r rows, and rows whose columns go there
pub record ForTurnOwn (plane : List ℕ) (w r i : ℕ) : Type 0 where
  pub room : r * w + 64 * w ≤ length plane
  pub small : length plane ≤ 4294967296
  pub row : i < r

-- columns, and places of them
pub record ForPickOwn (work order : List ℕ) (half hw : ℕ) : Type 0 where
  pub room : 64 * (hw + hw) ≤ length work
  pub small : length work ≤ 4294967296
  pub half_fits : half ≤ 64 * hw
  pub places : (j : ℕ) → j < length order → get_or order j 0 < half + half

-- columns with room for a block after them, and places of them
pub record ForPickOwnBlock (work order : List ℕ) (half hw w c : ℕ) : Type 0 where
  pub room : 64 * w + 64 ≤ length work
  pub small : length work ≤ 4294967296
  pub column : c < w
  pub halves : Halves order half hw w

-- a plane with working rows after r rows, and places of its columns
pub record ForOwnPlane (plane : List ℕ) (w r half hw : ℕ) (order : List ℕ) : Type 0 where
  pub room : r * w + 243 * w ≤ length plane
  pub small : length plane ≤ 4294967296
  pub halves : Halves order half hw w

-- the same, and rows that are gathered together
pub record ForOwnRows (plane : List ℕ) (w r i e half hw : ℕ) (order : List ℕ) : Type 0 where
  pub plane_of : ForOwnPlane plane w r half hw order
  pub rows : EndOf i r e

-- the same, and a word of them
pub record ForGatherOwnWord (plane : List ℕ) (w r i e half hw : ℕ) (order : List ℕ) (c : ℕ) : Type 0 where
  pub plane_of : ForOwnPlane plane w r half hw order
  pub rows : EndOf i r e
  pub column : c < w

-- a grid with working rows after its first r, and an order of the places of its two halves
pub record ForGatherOwn (ones twos : List ℕ) (rows w r half hw : ℕ) (order : List ℕ) : Type 0 where
  pub grid : Rows ones twos rows w
  pub small : length ones ≤ 4294967296
  pub narrow : w ≤ 65536
  pub room : r + 243 ≤ rows
  pub is_order : Order (length order) order
  pub half_fits : half ≤ 64 * hw
  pub words : hw + hw ≤ w
  pub places_fit : length order ≤ half + half
