-- Tables of the combinations of a block's rows, in the words f to v - 1 of the rows after a matrix. No rule of the paper: code is tied to it. Assumes nothing.
use Rattle.std.specs.Prelude.{◌≡◌, ◌⊎◌, ℕ, ◌+◌, ◌*◌, ◌≤◌, ◌<◌}
use Rattle.trits.specs.Trit.{add_t}
use Rattle.matrix.specs.Linear.{Matrix}
use Rattle.matrix.specs.Blocks.{less_of, pow3, entry_of, basis, from}

-- of the table at row z, the entries p + 1 .. p + n - 1 have become the sums of entry p and those before them
pub record Extended (f v z p n : ℕ) (A B : Matrix) : Type 0 where
  pub sums : (a t : ℕ) → 0 < a → a < n → (64 * f ≤ t) × (t < 64 * v) → B (z + (p + a)) t ≡ add_t (A (z + p) t) (B (z + a) t)
  pub kept : (i : ℕ) → (i ≤ z + p) ⊎ (z + (p + n) ≤ i) → B i ≡ A i

-- the first n entries of the table at row z are made, of its entries 1, 3, 9 and 27, which are not changed
pub record Table (f v n z : ℕ) (A B : Matrix) : Type 0 where
  pub entries : (e t : ℕ) → e < n → (64 * f ≤ t) × (t < 64 * v) → B (z + e) t ≡ entry_of 4 (λ j. A (z + pow3 j)) e t
  pub own : (j : ℕ) → B (z + pow3 j) ≡ A (z + pow3 j)
  pub kept : (i : ℕ) → (i < z) ⊎ (z + n ≤ i) → B i ≡ A i

-- the three tables after the first r rows are those of the block's rows
pub record Tabled (f v r : ℕ) (A : Matrix) : Type 0 where
  pub entries : (h e t : ℕ) → h < 3 → e < 81 → (64 * f ≤ t) × (t < 64 * v) → A (r + (81 * h + e)) t ≡ entry_of 4 (λ j. basis r A (4 * h + j)) e t

-- they have become so, and neither the block's rows nor any row beside the tables is changed
pub record Tables (f v r : ℕ) (A B : Matrix) : Type 0 where
  pub tabled : Tabled f v r B
  pub block : (j : ℕ) → j < 12 → basis r B j ≡ basis r A j
  pub kept : (i : ℕ) → (i < r) ⊎ (r + 243 ≤ i) → B i ≡ A i

-- the rows a, a + 1, .. b - 1 are cleared at the block's twelve columns, and no other row is changed
pub record Taken (r c a b : ℕ) (A B : Matrix) : Type 0 where
  pub cleared : (i : ℕ) → a ≤ i → i < b → B i ≡ less_of 12 (from c) (basis r A) (A i)
  pub kept : (i : ℕ) → (i < a) ⊎ (b ≤ i) → B i ≡ A i
