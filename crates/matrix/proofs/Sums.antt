-- A sum over all places is the same in any order of them; so is the weight of a vector. Assumes nothing.
use mathlib.Core.Path.{◌≡◌, refl, sym, ap, ◌∙◌}
use mathlib.Core.Bool.{Bool, true, false, cond, true≢false}
use mathlib.Core.List.{List, [], ◌∷◌}
use Prim.Native.Nat.{ℕ, zero, suc, ◌+◌}
use native.Mathlib.Omega.{arith}
use borrow.Author.Tests.{eqb-true}
use lib.Dec.{eqb}
use lib.ListN.{length, get_or}
use Rattle.trits.specs.Trit.{non_zero, sum_to, weight_v}
use Rattle.trits.proofs.Counting.{sum_first}
use Rattle.matrix.specs.Linear.{Vector, elem}
use Rattle.matrix.specs.Orders.{Order}
use Rattle.matrix.proofs.Orders.{drop_one, order_less}

-- f at the places listed, added up
abbrev listed : (ℕ → ℕ) → List ℕ → ℕ
listed f [] = 0
listed f (p ∷ ps) = f p + listed f ps

listed_sum : (f : ℕ → ℕ) (ps : List ℕ) → sum_to (λ j. f (get_or ps j 0)) (length ps) ≡ listed f ps
unfolding sum_to
listed_sum f [] = refl
listed_sum f (p ∷ ps) = sum_first (length ps) (λ j. f (get_or (p ∷ ps) j 0)) ∙ ap (λ (n : ℕ). f p + n) (listed_sum f ps)

-- one place apart
listed_drop : (f : ℕ → ℕ) (q : ℕ) (ps : List ℕ) → elem q ps ≡ true → listed f ps ≡ listed f (drop_one q ps) + f q
listed_drop f q [] h = absurd (true≢false (sym h))
listed_drop f q (p ∷ ps) h = go (listed_drop f q ps) (eqb q p) refl
  where
    go : (elem q ps ≡ true → listed f ps ≡ listed f (drop_one q ps) + f q) → (t : Bool) → eqb q p ≡ t
        → f p + listed f ps ≡ listed f (cond (eqb q p) ps (p ∷ drop_one q ps)) + f q
    go ih true e = rw e (omega (arith, ap f (eqb-true q p e)))
    go ih false e = rw e (omega (arith, ih (rw e at h)))

order_listed : (f : ℕ → ℕ) (n : ℕ) (ps : List ℕ) → Order n ps → sum_to f n ≡ listed f ps
unfolding sum_to
order_listed f zero [] o = refl
order_listed f zero (p ∷ ps) o = absurd (omega (arith, o.size))
order_listed f (suc n) ps o =
    ap (λ (k : ℕ). k + f n) (order_listed f n (drop_one n ps) (order_less n ps o)) ∙ sym (listed_drop f n ps (o.every n (omega arith)))

pub sum_order : (f : ℕ → ℕ) (n : ℕ) (ps : List ℕ) → Order n ps → sum_to (λ j. f (get_or ps j 0)) n ≡ sum_to f n
sum_order f n ps o = ap (sum_to (λ j. f (get_or ps j 0))) (sym o.size) ∙ listed_sum f ps ∙ sym (order_listed f n ps o)

-- a permutation keeps the weight
pub weight_order : (v : Vector) (n : ℕ) (ps : List ℕ) → Order n ps → weight_v (λ j. v (get_or ps j 0)) n ≡ weight_v v n
weight_order v n ps o = sum_order (λ i. non_zero (v i)) n ps o
