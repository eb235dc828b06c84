-- Matrices held in two planes, row after row, and the operations on their rows. No rule of the paper: code is tied to it. Assumes nothing.
use Rattle.std.specs.Prelude.{bit_and, ◌≡◌, ◌&&◌, cond, List, ◌≢◌, ◌⊎◌, ℕ, ◌+◌, ◌*◌, ◌≤◌, ◌<◌, eqb, leb, ltb, length, get_or}
use Rattle.trits.specs.Trit.{Trit, t0, sub_t, mul_t, zip_v}
use Rattle.trits.specs.Planes.{Row, bit, trit, trit_at}
use Rattle.trits.specs.Rows.{matrix_at}
use Rattle.matrix.specs.Linear.{Vector, Matrix}

-- planes of r rows of w words that can be read
pub record Rows (ones twos : List ℕ) (r w : ℕ) : Type 0 where
  pub row : Row ones twos
  pub size : length ones ≡ r * w

-- and that hold the matrix A: 0 past the rows and past a row's words
pub record Grid (ones twos : List ℕ) (r w : ℕ) (A : Matrix) : Type 0 where
  pub rows : Rows ones twos r w
  pub cells : matrix_at w ones twos ≡ A

-- planes of one row of w words that hold the trits v
pub record HeldRow (ones twos : List ℕ) (w : ℕ) (v : Vector) : Type 0 where
  pub row : Row ones twos
  pub size : length ones ≡ w
  pub trits : trit_at ones twos ≡ v

-- row j has the trits v
abbrev pub put_row : ℕ → Vector → Matrix → Matrix
put_row j v A k q = cond (eqb k j) (v q) (A k q)

-- the trits of x in the words f to v - 1, and those of y in all others
unfoldable pub within : ℕ → ℕ → Vector → Vector → Vector
within f v x y t = cond (leb (64 * f) t && ltb t (64 * v)) (x t) (y t)

-- row i when rows a and b have changed places
abbrev pub other : ℕ → ℕ → ℕ → ℕ
other a b i = cond (eqb i a) b (cond (eqb i b) a i)

-- the words of one plane when rows a and b have changed places
pub record Swapped (a b w : ℕ) (l₀ l : List ℕ) : Type 0 where
  pub kept : length l ≡ length l₀
  pub words : (i j : ℕ) → j < w → get_or l (i * w + j) 0 ≡ get_or l₀ (other a b i * w + j) 0

-- row j is joined to row i by an operation
abbrev pub join_row : (Trit → Trit → Trit) → ℕ → ℕ → Matrix → Matrix
join_row op i j A k t = cond (eqb k i) (op (A k t) (A j t)) (A k t)

-- two words, r, hold what an operation makes of the trits of the words a and b and those of c and d
pub record Joined (op : Trit → Trit → Trit) (a b c d : ℕ) (r : ℕ × ℕ) : Type 0 where
  pub apart : bit_and a b ≡ 0 → bit_and c d ≡ 0 → bit_and r.0 r.1 ≡ 0
  pub trits : bit_and a b ≡ 0 → bit_and c d ≡ 0 → (k : ℕ) → trit (bit k r.0) (bit k r.1) ≡ op (trit (bit k a) (bit k b)) (trit (bit k c) (bit k d))

-- row i less the rows a, b and c
abbrev pub less_three : Matrix → ℕ → ℕ → ℕ → ℕ → Vector
less_three A i a b c t = sub_t (sub_t (sub_t (A i t) (A a t)) (A b t)) (A c t)

-- row t becomes row i times v, and is joined to row a by an operation
unfoldable pub join_product : (Trit → Trit → Trit) → ℕ → ℕ → ℕ → Vector → Matrix → Matrix
join_product op a i t v A = put_row a (zip_v op (A a) (zip_v mul_t (A i) v)) (put_row t (zip_v mul_t (A i) v) A)

-- row j is taken from row i as often as the trit of row i at q says
abbrev pub clear_row : ℕ → ℕ → ℕ → Matrix → Matrix
clear_row i j q A k t = cond (eqb k i) (sub_t (A k t) (mul_t (A k q) (A j t))) (A k t)

-- and so from each of the rows a, a + 1, .. b - 1, of which it is none
abbrev pub taken_out : ℕ → ℕ → ℕ → ℕ → Matrix → Matrix
taken_out a b j q A k t = cond (leb a k && ltb k b) (sub_t (A k t) (mul_t (A k q) (A j t))) (A k t)

-- a grid, one of its rows, and the row to put there
pub record ForPutCopy (ones twos : List ℕ) (rows w j : ℕ) (ho ht : List ℕ) : Type 0 where
  pub grid : Rows ones twos rows w
  pub source : Row ho ht
  pub j_in : j < rows
  pub size : length ho ≡ w

-- a grid, a row and a place of it, and a trit
pub record ForPutAt (ones twos : List ℕ) (rows w i q t : ℕ) : Type 0 where
  pub grid : Rows ones twos rows w
  pub small : length ones ≤ 4294967296
  pub i_in : i < rows
  pub place : q < 64 * w
  pub trit : t < 3

-- a grid, a row and a place of it, and a place of the row that the trit comes from
pub record ForPutFrom (ones twos : List ℕ) (rows w e q : ℕ) (vo vt : List ℕ) (j : ℕ) : Type 0 where
  pub grid : Rows ones twos rows w
  pub source : Row vo vt
  pub small : length ones ≤ 4294967296
  pub place : q < 64 * w
  pub e_in : e < rows
  pub source_place : j < 64 * length vo

-- a grid, one of its rows, and a row of the same size
pub record ForMulBy (ones twos : List ℕ) (rows w i : ℕ) (so st : List ℕ) : Type 0 where
  pub grid : Rows ones twos rows w
  pub source : Row so st
  pub i_in : i < rows
  pub size : length so ≡ w

-- a grid, two of its rows, and a row of the same size
pub record ForPutProduct (ones twos : List ℕ) (rows w t i : ℕ) (so st : List ℕ) : Type 0 where
  pub grid : Rows ones twos rows w
  pub source : Row so st
  pub t_in : t < rows
  pub i_in : i < rows
  pub apart : t ≢ i
  pub size : length so ≡ w

-- a grid, three of its rows, and a row of the same size
pub record ForAddProduct (ones twos : List ℕ) (rows w a i t : ℕ) (so st : List ℕ) : Type 0 where
  pub grid : Rows ones twos rows w
  pub source : Row so st
  pub a_in : a < rows
  pub i_in : i < rows
  pub t_in : t < rows
  pub apart : t ≢ i
  pub a_apart : a ≢ t
  pub size : length so ≡ w

-- one plane of a grid, and two rows
pub record ForSwapPlane (plane : List ℕ) (rows w a b : ℕ) : Type 0 where
  pub size : length plane ≡ rows * w
  pub a_in : a < rows
  pub b_in : b < rows

-- a grid, and two of its rows
pub record ForSwapRows (ones twos : List ℕ) (rows w a b : ℕ) : Type 0 where
  pub grid : Rows ones twos rows w
  pub a_in : a < rows
  pub b_in : b < rows

-- a grid that is not too wide, and two of its rows
pub record ForRowDot (ones twos : List ℕ) (rows w i j : ℕ) : Type 0 where
  pub grid : Rows ones twos rows w
  pub narrow : w ≤ 65536
  pub i_in : i < rows
  pub j_in : j < rows

-- a grid that is not too large to count in, and one of its rows
pub record ForRowWeight (ones twos : List ℕ) (rows w i : ℕ) : Type 0 where
  pub grid : Rows ones twos rows w
  pub few : rows ≤ 65536
  pub narrow : w ≤ 65536
  pub i_in : i < rows

-- a grid that is not too large to count in, and two of its rows
pub record ForPairWeight (ones twos : List ℕ) (rows w u v : ℕ) : Type 0 where
  pub grid : Rows ones twos rows w
  pub few : rows ≤ 65536
  pub narrow : w ≤ 65536
  pub u_in : u < rows
  pub v_in : v < rows

-- a grid, and two of its rows: the first, and the one that is added to it or taken from it
pub record ForAddRows (ones twos : List ℕ) (rows w i j : ℕ) : Type 0 where
  pub grid : Rows ones twos rows w
  pub i_in : i < rows
  pub j_in : j < rows
  pub apart : i ≢ j

-- a grid, and two of its rows: the first, and the one that is added to it or taken from it, which is 0 before word f and from word v on
pub record ForAddWords (ones twos : List ℕ) (rows w f v i j : ℕ) : Type 0 where
  pub grid : Rows ones twos rows w
  pub width : v ≤ w
  pub i_in : i < rows
  pub j_in : j < rows
  pub apart : i ≢ j
  pub outside : (t : ℕ) → (t < 64 * f) ⊎ (64 * v ≤ t) → matrix_at w ones twos j t ≡ t0

-- a grid, words of its rows, and two rows: in these words the first becomes the second
pub record ForCopyWords (ones twos : List ℕ) (rows w f v d i : ℕ) : Type 0 where
  pub grid : Rows ones twos rows w
  pub width : v ≤ w
  pub d_in : d < rows
  pub i_in : i < rows
  pub apart : d ≢ i

-- a grid, words of its rows, and three rows: in these words the first becomes the sum of the others
pub record ForSumRow (ones twos : List ℕ) (rows w f v d a b : ℕ) : Type 0 where
  pub grid : Rows ones twos rows w
  pub width : v ≤ w
  pub d_in : d < rows
  pub a_in : a < rows
  pub b_in : b < rows
  pub a_apart : d ≢ a
  pub b_apart : d ≢ b

-- a grid, words of its rows, and four rows: the first, and three that are taken from it in these words
pub record ForSubThree (ones twos : List ℕ) (rows w f v i a b c : ℕ) : Type 0 where
  pub grid : Rows ones twos rows w
  pub width : v ≤ w
  pub i_in : i < rows
  pub a_in : a < rows
  pub b_in : b < rows
  pub c_in : c < rows
  pub a_apart : i ≢ a
  pub b_apart : i ≢ b
  pub c_apart : i ≢ c
