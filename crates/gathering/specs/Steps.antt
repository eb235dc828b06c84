-- The columns of a matrix gathered in another order, one plane at a time, through working words that hold columns. No rule of the paper: code is tied to it.
-- Assumes nothing.
use Rattle.std.specs.Prelude.{◌≡◌, cond, List, ◌≢◌, ℕ, ◌+◌, ◌-◌, ◌*◌, ◌/◌, ◌%◌, ◌≤◌, ◌<◌, ltb, length, get_or}
use Rattle.trits.specs.Planes.{bit}
use Rattle.matrix.specs.Orders.{Order}
use Rattle.grid.specs.Steps.{Rows}

-- ---- what is made

-- a block of the words c of the 64 rows from row i on
pub record Loaded (h : List ℕ) (i w c : ℕ) (l : List ℕ) : Type 0 where
  pub size : length l ≡ 64
  pub words : (x : ℕ) → x < 64 → get_or l x 0 ≡ get_or h ((i + x) * w + c) 0

-- a block of their columns
pub record TurnedBlock (h : List ℕ) (i w c : ℕ) (l : List ℕ) : Type 0 where
  pub size : length l ≡ 64
  pub bits : (b x : ℕ) → b < 64 → x < 64 → bit x (get_or l b 0) ≡ bit b (get_or h ((i + x) * w + c) 0)

-- the first 64 * c words are the columns of the 64 rows from row i on
pub record Columns (h : List ℕ) (i w c : ℕ) (l₀ l : List ℕ) : Type 0 where
  pub kept : length l ≡ length l₀
  pub bits : (q x : ℕ) → q < 64 * c → x < 64 → bit x (get_or l q 0) ≡ bit (q % 64) (get_or h ((i + x) * w + q / 64) 0)

-- what f has at position p of the order, 0 from position m on
unfoldable pub picked : (ℕ → ℕ) → List ℕ → ℕ → ℕ → ℕ
picked f order m p = cond (ltb p m) (f (get_or order p 0)) 0

-- after the columns stand those at the 64 positions from 64 * c on
pub record Picked (order : List ℕ) (m w c : ℕ) (l₀ l : List ℕ) : Type 0 where
  pub kept : length l ≡ length l₀
  pub words : (x : ℕ) → x < 64 → get_or l (64 * w + x) 0 ≡ picked (λ q. get_or l₀ q 0) order m (64 * c + x)
  pub columns : (q : ℕ) → q < 64 * w → get_or l q 0 ≡ get_or l₀ q 0

-- and turned back
pub record TurnedPick (order : List ℕ) (m w c : ℕ) (l₀ l : List ℕ) : Type 0 where
  pub kept : length l ≡ length l₀
  pub bits : (x b : ℕ) → x < 64 → b < 64 → bit b (get_or l (64 * w + x) 0) ≡ bit x (picked (λ q. get_or l₀ q 0) order m (64 * c + b))
  pub columns : (q : ℕ) → q < 64 * w → get_or l q 0 ≡ get_or l₀ q 0

-- the words c of the rows i to e - 1 are those from `at` on, and no other word is changed
pub record Stored (at w i e c : ℕ) (l₀ l : List ℕ) : Type 0 where
  pub kept : length l ≡ length l₀
  pub words : (k : ℕ) → i ≤ k → k < e → get_or l (k * w + c) 0 ≡ get_or l₀ (at + (k - i)) 0
  pub rest : (p : ℕ) → ((k : ℕ) → i ≤ k → k < e → p ≢ k * w + c) → get_or l p 0 ≡ get_or l₀ p 0

-- the words c of the rows i to e - 1 come from the columns after r rows; changed are only they, and working words past the columns
pub record GatheredWord (w r i e : ℕ) (order : List ℕ) (m c : ℕ) (l₀ l : List ℕ) : Type 0 where
  pub kept : length l ≡ length l₀
  pub bits : (k b : ℕ) → i ≤ k → k < e → b < 64 → bit b (get_or l (k * w + c) 0) ≡ bit (k - i) (picked (λ q. get_or l₀ (r * w + q) 0) order m (64 * c + b))
  pub columns : (q : ℕ) → q < 64 * w → get_or l (r * w + q) 0 ≡ get_or l₀ (r * w + q) 0
  pub beside : (k j : ℕ) → i ≤ k → k < e → j < w → j ≢ c → get_or l (k * w + j) 0 ≡ get_or l₀ (k * w + j) 0
  pub before : (p : ℕ) → p < i * w → get_or l p 0 ≡ get_or l₀ p 0
  pub past : (p : ℕ) → r * w + 243 * w ≤ p → get_or l p 0 ≡ get_or l₀ p 0

-- the rows i to e - 1 are gathered; the rows before them and those past the working rows are as they were
pub record GatheredRows (w r i e : ℕ) (h order : List ℕ) (m : ℕ) (l₀ l : List ℕ) : Type 0 where
  pub kept : length l ≡ length l₀
  pub bits : (k q : ℕ) → i ≤ k → k < e → q < 64 * w
      → bit (q % 64) (get_or l (k * w + q / 64) 0) ≡ picked (λ p. bit (p % 64) (get_or h (k * w + p / 64) 0)) order m q
  pub before : (p : ℕ) → p < i * w → get_or l p 0 ≡ get_or l₀ p 0
  pub past : (p : ℕ) → r * w + 243 * w ≤ p → get_or l p 0 ≡ get_or l₀ p 0

-- rows from row i on that are gathered together: some, at most 64, and none past the last
pub record EndOf (i r e : ℕ) : Type 0 where
  pub some : i < e
  pub near : e ≤ i + 64
  pub within : e ≤ r

-- ---- what is asked

-- a block, and rows of which a word goes into it
pub record ForLoadBlock (block : List ℕ) (i w c : ℕ) : Type 0 where
  pub size : length block ≡ 64
  pub reach : (i + 64) * w ≤ 4294967296
  pub column : c < w

-- working words, and rows whose columns go there
pub record ForColumns (work : List ℕ) (i w : ℕ) : Type 0 where
  pub room : 64 * w ≤ length work
  pub small : length work ≤ 4294967296
  pub reach : (i + 64) * w ≤ 4294967296

-- columns, and places of them
pub record ForPick (work order : List ℕ) (m : ℕ) : Type 0 where
  pub front : m ≤ length order
  pub places : (j : ℕ) → j < length order → get_or order j 0 < length work

-- columns with room for a block after them, and places of them
pub record ForPickBlock (work order : List ℕ) (m w c : ℕ) : Type 0 where
  pub room : 64 * w + 64 ≤ length work
  pub small : length work ≤ 4294967296
  pub column : c < w
  pub front : m ≤ length order
  pub places : (j : ℕ) → j < length order → get_or order j 0 < 64 * w

-- a plane, rows of it and a block after them
pub record ForStore (plane : List ℕ) (at w i e c : ℕ) : Type 0 where
  pub begins : i ≤ e
  pub after : e * w ≤ at
  pub room : at + (e - i) ≤ length plane
  pub small : length plane ≤ 4294967296
  pub column : c < w

-- a plane with working rows after r rows, and places of columns
pub record ForPlane (plane : List ℕ) (w r : ℕ) (order : List ℕ) (m : ℕ) : Type 0 where
  pub room : r * w + 243 * w ≤ length plane
  pub small : length plane ≤ 4294967296
  pub front : m ≤ length order
  pub places : (j : ℕ) → j < length order → get_or order j 0 < 64 * w

-- the same, and rows that are gathered together
pub record ForRows (plane : List ℕ) (w r i e : ℕ) (order : List ℕ) (m : ℕ) : Type 0 where
  pub plane_of : ForPlane plane w r order m
  pub rows : EndOf i r e

-- the same, and a word of them
pub record ForWord (plane : List ℕ) (w r i e : ℕ) (order : List ℕ) (m c : ℕ) : Type 0 where
  pub plane_of : ForPlane plane w r order m
  pub rows : EndOf i r e
  pub column : c < w

-- a grid with working rows after its first r, a lent matrix for these, an order of its places, and how many of them are taken
pub record ForGather (ones twos : List ℕ) (rows w r : ℕ) (ho ht order : List ℕ) (m : ℕ) : Type 0 where
  pub grid : Rows ones twos rows w
  pub h_grid : Rows ho ht r w
  pub is_order : Order (length order) order
  pub small : length ones ≤ 4294967296
  pub narrow : w ≤ 65536
  pub front : m ≤ length order
  pub places_fit : length order ≤ 64 * w
  pub room : r + 243 ≤ rows
