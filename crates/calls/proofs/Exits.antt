-- The working space at exit. Assumes nothing.
use mathlib.Core.Path.{◌≡◌, ap, ◌∙◌}
use mathlib.Core.List.{List}
use Prim.Native.Nat.{ℕ}
use Rattle.trits.specs.Planes.{zero_words}

-- words made 0 at a length that is also the entry's
pub cleared : {w : List ℕ} {n m : ℕ} → w ≡ zero_words n → n ≡ m → w ≡ zero_words m
cleared e d = e ∙ ap zero_words d
