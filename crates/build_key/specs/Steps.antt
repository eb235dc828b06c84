-- The key in the arranged work matrix, whose columns stand in the final order. No rule of the paper: code is tied to it. Assumes nothing.
use Rattle.std.specs.Prelude.{◌≡◌, List, ℕ, ◌+◌, ◌*◌, ◌≤◌, ◌<◌, length, get_or, take}
use Rattle.matrix.specs.Linear.{Matrix, rank, range}
use Rattle.matrix.specs.Orders.{Order}
use Rattle.matrix.specs.Passes.{Lowered}
use Rattle.grid.specs.Steps.{Rows}
use Rattle.scheme.specs.Build.{row_of_r}
use Rattle.build_matrix.specs.Steps.{placed_at}

-- after the first pass (02, C-17, "Clear upwards at the end"): A has the columns of a matrix in secret places in the order p; read in these, the rows span what
-- those of H span, and the kept columns have 1 on the diagonal and 0 below it
pub record FirstPass (r n : ℕ) (H A : Matrix) (p : List ℕ) : Type 0 where
  pub places : Matrix
  pub placed : (i t : ℕ) → i < r → t < n → A i t ≡ places i (get_or p t 0)
  pub lowered : Lowered r n H places (take r p)
  pub is_order : Order n p
  pub fits : r ≤ n

-- the key of the order p stands in the matrix A: row i of it in the column r + i
pub record Keyed (r n : ℕ) (H A : Matrix) (p : List ℕ) : Type 0 where
  pub entry : (i c : ℕ) → c < r → r + i < n → row_of_r r n H p i c ≡ A c (r + i)

-- the secret matrix of r rows in a grid of two halves, of full rank, with room for tables after it, and an order of its places
pub record ForArrange (ones twos : List ℕ) (rows w r half hw : ℕ) (order : List ℕ) : Type 0 where
  pub grid : Rows ones twos rows w
  pub small : length ones ≤ 4294967296
  pub narrow : w ≤ 65536
  pub room : r + 243 ≤ rows
  pub half_fits : half ≤ 64 * hw
  pub words : hw + hw ≤ w
  pub places_fit : length order ≤ half + half
  pub is_order : Order (length order) order
  pub rank_full : rank r (length order) (placed_at half hw w ones twos) (range (length order)) ≡ r
