-- The last pass of an elimination on a stretch of its columns. No rule of the paper: code is tied to it. Assumes nothing.
use Rattle.std.specs.Prelude.{◌≡◌, cond, List, ◌⊎◌, ℕ, zero, suc, ◌+◌, ◌*◌, ◌≤◌, ◌<◌, ltb, length}
use Rattle.trits.specs.Trit.{t0, t1}
use Rattle.trits.specs.Rows.{matrix_at}
use Rattle.matrix.specs.Linear.{Matrix}
use Rattle.matrix.specs.Steps.{take_above}
use Rattle.matrix.specs.Blocks.{basis_row}
use Rattle.grid.specs.Steps.{Rows}

-- the columns s, s + 1, .. s + m - 1, from the last to the first, are cleared in the rows above their own
unfoldable pub risen : ℕ → ℕ → Matrix → Matrix
risen zero s A = A
risen (suc m) s A = take_above s s (risen m (suc s) A)

-- and so in the rows from b on alone
abbrev pub risen_from : ℕ → ℕ → ℕ → Matrix → Matrix
risen_from b m s A i t = cond (ltb i b) (A i t) (risen m s A i t)

-- row j of the block becomes row c + j from word f on, and 0 before it, for j below k; no row before the tables or past them is changed
pub record Copied (f r k c : ℕ) (A B : Matrix) : Type 0 where
  pub block : (j t : ℕ) → j < k → 64 * f ≤ t → B (basis_row r j) t ≡ A (c + j) t
  pub before : (j t : ℕ) → j < k → t < 64 * f → B (basis_row r j) t ≡ t0
  pub kept : (i : ℕ) → (i < r) ⊎ (r + 243 ≤ i) → B i ≡ A i

-- the first r rows become those of D at the columns before b and at those from r on; what they are between is left free, since nothing reads it again;
-- past the tables no row is changed
pub record AtEnds (r b : ℕ) (D A B : Matrix) : Type 0 where
  pub ends : (i t : ℕ) → i < r → (t < b) ⊎ (r ≤ t) → B i t ≡ D i t
  pub kept : (i : ℕ) → r + 243 ≤ i → B i ≡ A i

-- 1 on the diagonal of the first e columns, and 0 below it in the first e rows
pub record Triangular (e : ℕ) (A : Matrix) : Type 0 where
  pub one : (c : ℕ) → c < e → A c c ≡ t1
  pub none : (c i : ℕ) → c < i → i < e → A i c ≡ t0

-- a grid whose first e rows are triangular, and a stretch of these whose columns are cleared
pub record ForRaiseAmong (ones twos : List ℕ) (rows w b e : ℕ) : Type 0 where
  pub grid : Rows ones twos rows w
  pub small : length ones ≤ 4294967296
  pub ordered : b ≤ e
  pub end : e ≤ rows
  pub columns : e ≤ 64 * w
  pub triangular : Triangular e (matrix_at w ones twos)

-- a grid, r of its rows, and twelve of these for a block after them
pub record ForCopyBlock (ones twos : List ℕ) (rows w r c : ℕ) : Type 0 where
  pub grid : Rows ones twos rows w
  pub small : length ones ≤ 4294967296
  pub room : r + 243 ≤ rows
  pub some : 0 < w
  pub stretch : c + 12 ≤ r

-- a grid, r of its rows, of which the first e are triangular, and the block of rows b .. e - 1: twelve, or the first ones
pub record ForRaiseBlock (ones twos : List ℕ) (rows w r b e : ℕ) : Type 0 where
  pub grid : Rows ones twos rows w
  pub small : length ones ≤ 4294967296
  pub room : r + 243 ≤ rows
  pub columns : e ≤ 64 * w
  pub ordered : b ≤ e
  pub twelve : (b ≡ 0) ⊎ (e ≡ b + 12)
  pub end : e ≤ r
  pub triangular : Triangular e (matrix_at w ones twos)

-- a grid, and r of its rows, which are triangular
pub record ForRaise (ones twos : List ℕ) (rows w r : ℕ) : Type 0 where
  pub grid : Rows ones twos rows w
  pub small : length ones ≤ 4294967296
  pub room : r + 243 ≤ rows
  pub columns : r ≤ 64 * w
  pub triangular : Triangular r (matrix_at w ones twos)
