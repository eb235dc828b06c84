-- What the end of a build asks. No rule of the paper: code is tied to it. Assumes nothing.
use Rattle.std.specs.Prelude.{◌≡◌, List, ℕ, ◌*◌, length}
use Rattle.matrix.specs.Orders.{Order}
use Rattle.scheme.specs.Sizes.{places, dim}
use Rattle.scheme.specs.declared.sizes.Sizes.{Sizes}
use Rattle.calls.specs.Lent.{Planes}
use Rattle.calls.specs.BuildCall.{key_row_words, build_work_words}
use Rattle.calls.specs.Steps.{Lengths, Readable}

-- the lengths of the secret and of the starting order
pub record ForTestContentsBuild (z : Sizes) (secret : Planes) (start : List ℕ) : Type 0 where
  pub lengths : Lengths z secret
  pub start_size : length start ≡ places z

-- a secret that was tested, an order, and all that the key is written to
pub record ForFinishBuild (z : Sizes) (secret : Planes) (start p key_ones key_twos work_ones work_twos : List ℕ) : Type 0 where
  pub readable : Readable z secret
  pub is_order : Order (places z) start
  pub p_size : length p ≡ places z
  pub key_ones_size : length key_ones ≡ dim z * key_row_words z
  pub key_twos_size : length key_twos ≡ dim z * key_row_words z
  pub work_ones_size : length work_ones ≡ build_work_words z
  pub work_twos_size : length work_twos ≡ build_work_words z
