-- The column rule of a build ("Building a key") on a matrix whose columns stand in the order, so that a column that is exchanged in the order is
-- exchanged in the matrix. No rule of the paper: code is tied to it, and its laws to `arranged`. Assumes nothing.
use Rattle.std.specs.Prelude.{◌≡◌, cond, List, ℕ, zero, suc, ◌+◌, ◌-◌, ◌≤◌, ◌<◌, eqb, min, length}
use Rattle.trits.specs.Trit.{t0}
use Rattle.matrix.specs.Linear.{Matrix}
use Rattle.matrix.specs.Steps.{has_pivot, step_of}
use Rattle.matrix.specs.Blocks.{UnitAt, basis, from, pending}
use Rattle.grid.specs.Steps.{other}
use Rattle.scheme.specs.Build.{swap}

-- the columns a and b change places
abbrev pub exchanged : ℕ → ℕ → Matrix → Matrix
exchanged a b A i t = A i (other a b t)

-- in row i alone
abbrev pub exchanged_in : ℕ → ℕ → ℕ → Matrix → Matrix
exchanged_in a b i A k t = cond (eqb k i) (A k (other a b t)) (A k t)

-- how many columns are kept, their order, and the matrix
pub record Standing : Type 0 where
  pub kept : ℕ
  pub order : List ℕ
  pub cells : Matrix

abbrev pub standing : ℕ → Matrix → List ℕ → Standing
standing j A p = record { kept = j; order = p; cells = A }

-- j columns are kept and f are untried, those from j on: a column with a pivot is kept and cleared below row j, another changes places with the last
-- untried one; it ends when r are kept
unfoldable pub column_rule : ℕ → ℕ → ℕ → Matrix → List ℕ → Standing
column_rule r zero j A p = standing j A p
column_rule r (suc f) j A p =
    cond (eqb j r) (standing j A p)
    (cond (has_pivot r j j A) (column_rule r f (suc j) (step_of r j j A) p) (column_rule r f j (exchanged j (j + f) A) (swap j (j + f) p)))

-- the same order and count, and the same first r rows
pub record SameEnd (r : ℕ) (s s' : Standing) : Type 0 where
  pub kept : s.kept ≡ s'.kept
  pub order : s.order ≡ s'.order
  pub cells : (i : ℕ) → i < r → s.cells i ≡ s'.cells i

-- as many pivots as a block that begins at row `at` has
abbrev pub most : ℕ → ℕ → ℕ
most r at = min (r - at) 12

-- k pivots of a block that begins at row and column `at` are taken, and n columns are left: what is to come leads to the same end; the block's rows are
-- the identity at its columns, and where the rows from `at` on were 0 before column `at`, they and the block's rows are
pub record PivotsTaken (r at k left n : ℕ) (p q : List ℕ) (A B : Matrix) : Type 0 where
  pub todo : SameEnd r (column_rule r n (at + k) (pending at k at (basis r B) B) q) (column_rule r left at A p)
  pub size : length q ≡ length p
  pub room : at + k + n ≤ length p
  pub unit : UnitAt k (from at) (basis r B)
  pub rows_zero : (t : ℕ) → t < at → ((i : ℕ) → at ≤ i → i < r → A i t ≡ t0) → (i : ℕ) → at ≤ i → i < r → B i t ≡ t0
  pub block_zero : (t : ℕ) → t < at → ((i : ℕ) → at ≤ i → i < r → A i t ≡ t0) → (j : ℕ) → j < k → basis r B j t ≡ t0

-- the matrix and the order are as the rule ends
pub record Arranged (r : ℕ) (s : Standing) (B : Matrix) (q : List ℕ) : Type 0 where
  pub order : q ≡ s.order
  pub cells : (i : ℕ) → i < r → B i ≡ s.cells i
