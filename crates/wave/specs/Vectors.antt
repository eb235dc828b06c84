-- A key released and a draw that releases, over vectors: what the theorems over the calls are proved by. No statement of the paper. Assumes nothing.
use Rattle.std.specs.Prelude.{◌≡◌, true, List, ℕ, ◌<◌}
use Rattle.matrix.specs.Linear.{Vector}
use Rattle.verdict.specs.Verdict.{Key}
use Rattle.scheme.specs.declared.sizes.Sizes.{Sizes}
use Rattle.scheme.specs.Sizes.{places, dim, codim}
use Rattle.scheme.specs.Secret.{Secret}
use Rattle.scheme.specs.Build.{build_fits, build_refusal, key_order, key_row}
use Rattle.scheme.specs.Draw.{Choices, choices_fit, drawn, draw_refusal}

-- p and R are what a build released: what it was given is in order, nothing was refused, and they are its order and its k rows of n-k trits
pub record Released (z : Sizes) (s : Secret) (start p : List ℕ) (R : Key) : Type 0 where
  pub given : build_fits z s start ≡ true
  pub passed : build_refusal z s ≡ 0
  pub order : p ≡ key_order z s start
  pub rows : (i j : ℕ) → i < dim z → j < codim z → R i j ≡ key_row z s start i j

-- some draw for y releases the word e: choices in order, nothing refused, and the word handed out is e in its n places
pub record Releases (z : Sizes) (s : Secret) (p : List ℕ) (y e : Vector) : Type 0 where
  pub choices : Choices
  pub given : choices_fit z choices ≡ true
  pub passed : draw_refusal z s p y choices ≡ 0
  pub word : (i : ℕ) → i < places z → drawn z s p y choices i ≡ e i
