-- A list that repeats 0 is the table of words of 0 (`repeated`).
-- Assumes nothing.
use mathlib.Core.Path.{◌≡◌, refl, ap, ◌∙◌}
use mathlib.Core.List.{List, ◌∷◌}
use Prim.Native.Nat.{ℕ, zero, suc}
use Rattle.std.proofs.Common.{replicate}
use Rattle.trits.specs.Planes.{tabulate, zero_words}
use Rattle.planes.proofs.words.zero_words.Goals as goal

repeated : (n : ℕ) → replicate n 0 ≡ tabulate (λ j. 0) n
unfolding tabulate
repeated zero = refl
repeated (suc n) = ap (λ (l : List ℕ). 0 ∷ l) (repeated n)

pub returns : goal.returns
unfolding zero_words
returns c =
    c.fill.ensures.after (λ y e. e) ∙ repeated _
