-- What the release of a word asks. No rule of the paper: code is tied to it. Assumes nothing.
use Rattle.std.specs.Prelude.{◌≡◌, List, ℕ, ◌+◌, ◌≤◌, length}
use Rattle.trits.specs.Planes.{words_for}
use Rattle.matrix.specs.Orders.{Order}
use Rattle.grid.specs.Steps.{Rows}
use Rattle.scheme.specs.Sizes.{places, dim}
use Rattle.scheme.specs.declared.sizes.Sizes.{Sizes}
use Rattle.calls.specs.Lent.{half_words}

-- an order, the word in the working space, and room for it and its signature
pub record ForReleaseWord (z : Sizes) (l : ℕ) (p work_ones work_twos word_ones word_twos s_ones s_twos : List ℕ) : Type 0 where
  pub is_order : Order (places z) p
  pub small : l ≤ 8435
  pub grid : Rows work_ones work_twos (l + 5) (half_words z)
  pub word_ones_size : length word_ones ≡ words_for (places z)
  pub word_twos_size : length word_twos ≡ words_for (places z)
  pub s_ones_size : length s_ones ≡ words_for (dim z)
  pub s_twos_size : length s_twos ≡ words_for (dim z)
