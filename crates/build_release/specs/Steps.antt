-- The work matrix of a build ("Building a key"). Assumes nothing.
use Rattle.std.specs.Prelude.{◌≡◌, List, ℕ, ◌+◌, ◌*◌, ◌≤◌, length}
use Rattle.trits.specs.Trit.{up_to}
use Rattle.matrix.specs.Linear.{Matrix, rank, range}
use Rattle.matrix.specs.Orders.{Order}
use Rattle.grid.specs.Steps.{Rows}
use Rattle.scheme.specs.declared.sizes.Sizes.{Sizes}
use Rattle.scheme.specs.Sizes.{half, codim, places, dim}
use Rattle.scheme.specs.Secret.{Secret, secret_matrix}
use Rattle.scheme.specs.Build.{row_of_r}
use Rattle.calls.specs.Lent.{Planes, half_words, secret_of}
use Rattle.calls.specs.Steps.{Readable}
use Rattle.calls.specs.BuildCall.{build_work_words, key_row_words}
use Rattle.build_matrix.specs.Steps.{placed_at}

-- the working planes hold the secret matrix, in secret places, with room for tables after it
pub record Filled (z : Sizes) (s : Secret) (ones twos : List ℕ) : Type 0 where
  pub rows : Rows ones twos (codim z + 243) (half_words z + half_words z)
  pub cells : placed_at (half z) (half_words z) (half_words z + half_words z) ones twos ≡ secret_matrix z s

-- the rows of R for the final order p, r trits each
abbrev pub rows_of_r : ℕ → ℕ → Matrix → List ℕ → Matrix
rows_of_r r n H p i = up_to r (row_of_r r n H p i)

-- a work matrix of full rank in two halves, with room for tables after it, an order of its places, and room for the key
pub record ForMakeKey (ones twos : List ℕ) (r w half hw : ℕ) (order : List ℕ) (k kw : ℕ) (ko kt : List ℕ) : Type 0 where
  pub grid : Rows ones twos (r + 243) w
  pub small : length ones ≤ 4294967296
  pub narrow : w ≤ 65536
  pub few : r ≤ 65536
  pub half_fits : half ≤ 64 * hw
  pub words : hw + hw ≤ w
  pub places_fit : length order ≤ half + half
  pub is_order : Order (length order) order
  pub rank_full : rank r (length order) (placed_at half hw w ones twos) (range (length order)) ≡ r
  pub columns : r + k ≤ length order
  pub key_words : kw ≤ w
  pub ones_size : length ko ≡ k * kw
  pub twos_size : length kt ≡ k * kw

-- a secret that was tested, and working space
pub record ForFillMatrix (z : Sizes) (secret : Planes) (work_ones work_twos : List ℕ) : Type 0 where
  pub readable : Readable z secret
  pub ones_size : length work_ones ≡ build_work_words z
  pub twos_size : length work_twos ≡ build_work_words z

-- a secret that was tested and has full rank, an order, and all that the key is written to
pub record ForRelease (z : Sizes) (secret : Planes) (start p key_ones key_twos work_ones work_twos : List ℕ) : Type 0 where
  pub readable : Readable z secret
  pub is_order : Order (places z) start
  pub rank_full : rank (codim z) (places z) (secret_matrix z (secret_of z secret)) (range (places z)) ≡ codim z
  pub p_size : length p ≡ places z
  pub key_ones_size : length key_ones ≡ dim z * key_row_words z
  pub key_twos_size : length key_twos ≡ dim z * key_row_words z
  pub work_ones_size : length work_ones ≡ build_work_words z
  pub work_twos_size : length work_twos ≡ build_work_words z
