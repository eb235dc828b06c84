-- What the end of a draw asks. No rule of the paper: code is tied to it. Assumes nothing.
use Rattle.std.specs.Prelude.{◌≡◌, List, ℕ, length}
use Rattle.trits.specs.Planes.{words_for}
use Rattle.scheme.specs.Sizes.{places, dim}
use Rattle.scheme.specs.declared.sizes.Sizes.{Sizes}
use Rattle.calls.specs.DrawCall.{DrawCall, draw_work_words}
use Rattle.draw_tests.specs.Steps.{Ready}

-- all that a draw is given, tested, and all that is written to
pub record ForFinishDraw (z : Sizes) (i : DrawCall) (word_ones word_twos s_ones s_twos work_ones work_twos : List ℕ) : Type 0 where
  pub ready : Ready z i
  pub word_ones_size : length word_ones ≡ words_for (places z)
  pub word_twos_size : length word_twos ≡ words_for (places z)
  pub s_ones_size : length s_ones ≡ words_for (dim z)
  pub s_twos_size : length s_twos ≡ words_for (dim z)
  pub work_ones_size : length work_ones ≡ draw_work_words z
  pub work_twos_size : length work_twos ≡ draw_work_words z
