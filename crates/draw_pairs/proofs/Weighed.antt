-- The weight of two rows is that of the word whose halves they hold, in any order of its places. Assumes nothing.
use mathlib.Core.Path.{◌≡◌, sym, ap₂, ◌∙◌}
use mathlib.Core.List.{List}
use Prim.Native.Nat.{ℕ, ◌+◌, ◌≤◌}
use lib.ListN.{get_or}
use Rattle.trits.specs.Trit.{t0, non_zero, weight_v}
use Rattle.trits.proofs.Counting.{sum_add, weight_same}
use Rattle.trits.proofs.Ends.{weight_ended}
use Rattle.matrix.specs.Linear.{Vector}
use Rattle.matrix.specs.Orders.{Order}
use Rattle.matrix.proofs.Sums.{weight_order}
use Rattle.scheme.specs.Secret.{join}
use Rattle.scheme_laws.proofs.Pairs.{join_low, join_high}

-- the weight of two stretches in one vector
pub weight_join : (N : ℕ) (l r : Vector) → weight_v (join N l r) (N + N) ≡ weight_v l N + weight_v r N
weight_join N l r =
    sum_add N N (λ i. non_zero (join N l r i))
    ∙ ap₂ (λ (x y : ℕ). x + y) (weight_same N (join N l r) l (λ i h. join_low N l r i h))
    (weight_same N (λ i. join N l r (N + i)) r (λ i h. join_high N l r i))

-- the weight of two rows of m places that are 0 from N on
pub pair_weighs : (N m : ℕ) (p : List ℕ) (l r : Vector) → Order (N + N) p → N ≤ m → ((q : ℕ) → N ≤ q → l q ≡ t0) → ((q : ℕ) → N ≤ q → r q ≡ t0)
    → weight_v l m + weight_v r m ≡ weight_v (λ i. join N l r (get_or p i 0)) (N + N)
pair_weighs N m p l r o h zl zr =
    ap₂ (λ (x y : ℕ). x + y) (weight_ended l N m h zl) (weight_ended r N m h zr) ∙ sym (weight_join N l r) ∙ sym (weight_order (join N l r) (N + N) p o)
