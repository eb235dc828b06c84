-- An order of n places: a list of n of them in which each place below n stands. Assumes nothing.
use mathlib.Core.Path.{◌≡◌, refl, sym, ap, ◌∙◌, subst}
use mathlib.Core.Bool.{Bool, true, false, cond, not, true≢false, and-eq-true_iff}
use mathlib.Core.Logic.{◌⊎◌, inl, inr}
use mathlib.Core.List.{List, [], ◌∷◌}
use Prim.Native.Nat.{ℕ, zero, suc, ◌<◌}
use native.Mathlib.Omega.{arith}
use borrow.Author.Tests.{eqb-true, eqb-false, eq-eqb}
use lib.Dec.{eqb}
use lib.ListN.{length, get_or}
use Rattle.trits.specs.Trit.{dot_v, any_to}
use Rattle.trits.proofs.Tests.{any_none, none_any}
use Rattle.matrix.specs.Linear.{Vector, elem}
use Rattle.matrix.specs.Orders.{Distinct, Order, is_order}
use Rattle.matrix.proofs.Field.{not-true, not-false}
use Rattle.matrix.proofs.Places.{Below, or_false_right, or_true_right, or_cases, elem_at, dot_places, elem_past}

abbrev pub drop_one : ℕ → List ℕ → List ℕ
drop_one q [] = []
drop_one q (p ∷ ps) = cond (eqb q p) ps (p ∷ drop_one q ps)

pub drop_one_length : (q : ℕ) (ps : List ℕ) → elem q ps ≡ true → length ps ≡ suc (length (drop_one q ps))
drop_one_length q [] h = absurd (true≢false (sym h))
drop_one_length q (p ∷ ps) h = go (drop_one_length q ps) (eqb q p) refl
  where
    go : (elem q ps ≡ true → length ps ≡ suc (length (drop_one q ps))) → (t : Bool) → eqb q p ≡ t
        → suc (length ps) ≡ suc (length (cond (eqb q p) ps (p ∷ drop_one q ps)))
    go ih true e = rw e
    go ih false e = rw e (ap suc (ih (rw e at h)))

pub drop_one_other : (q x : ℕ) (ps : List ℕ) → elem x ps ≡ true → (x ≡ q → ⊥) → elem x (drop_one q ps) ≡ true
drop_one_other q x [] h k = h
drop_one_other q x (p ∷ ps) h k = go (λ m. drop_one_other q x ps m k) (eqb q p) refl (or_cases (eqb x p) (elem x ps) h)
  where
    go : (elem x ps ≡ true → elem x (drop_one q ps) ≡ true) → (t : Bool) → eqb q p ≡ t → (eqb x p ≡ true) ⊎ (elem x ps ≡ true)
        → elem x (cond (eqb q p) ps (p ∷ drop_one q ps)) ≡ true
    go ih true e (inl m) = absurd (k (eqb-true x p m ∙ sym (eqb-true q p e)))
    go ih true e (inr m) = rw e m
    go ih false e (inl m) = rw (e, m)
    go ih false e (inr m) = rw e (or_true_right (eqb x p) (elem x (drop_one q ps)) (ih m))

distinct_back : (q : ℕ) (ps : List ℕ) → Distinct (drop_one q ps) → elem q (drop_one q ps) ≡ false → Distinct ps
distinct_back q [] d h = tt
distinct_back q (p ∷ ps) d h = go (distinct_back q ps) (eqb q p) refl
  where
    go : (Distinct (drop_one q ps) → elem q (drop_one q ps) ≡ false → Distinct ps) → (t : Bool) → eqb q p ≡ t → (elem p ps ≡ false) × Distinct ps
    go ih true e = ((rw (← eqb-true q p e) (rw e at h)), rw e at d)
    go ih false e =
        let d' : Distinct (p ∷ drop_one q ps) = rw e at d in
        let h' : elem q (p ∷ drop_one q ps) ≡ false = rw e at h in
        (fresh d'.0 (elem p ps) refl, ih d'.1 (or_false_right (eqb q p) (elem q (drop_one q ps)) h'))
      where
        fresh : elem p (drop_one q ps) ≡ false → (t : Bool) → elem p ps ≡ t → elem p ps ≡ false
        fresh f true m = absurd (true≢false (sym (drop_one_other q p ps m (λ z. eqb-false q p e (sym z))) ∙ f))
        fresh f false m = m

-- an order without its last place
pub order_less : (n : ℕ) (ps : List ℕ) → Order (suc n) ps → Order n (drop_one n ps)
order_less n ps o = record {
  size = omega (arith, o.size, drop_one_length n ps (o.every n (omega arith)));
  every = λ q h. drop_one_other n q ps (o.every q (omega arith)) (λ z. omega arith);
}

pub order_good : (n : ℕ) (ps : List ℕ) → Order n ps → Distinct ps × Below n ps
order_good zero [] o = (tt, λ q h. absurd (true≢false (sym h)))
order_good zero (p ∷ ps) o = absurd (omega (arith, o.size))
order_good (suc n) ps o = go (order_good n (drop_one n ps) (order_less n ps o))
  where
    go : Distinct (drop_one n ps) × Below n (drop_one n ps) → Distinct ps × Below (suc n) ps
    go (d, b) = (distinct_back n ps d (elem_past n (drop_one n ps) n b (omega arith)), λ q m. low q m (eqb q n) refl)
      where
        low : (q : ℕ) → elem q ps ≡ true → (t : Bool) → eqb q n ≡ t → q < suc n
        low q m true e = omega (arith, eqb-true q n e)
        low q m false e = omega (arith, b q (drop_one_other n q ps m (eqb-false q n e)))

-- a product in another order
pub dot_order : (n : ℕ) (ps : List ℕ) (u v : Vector) → Order n ps → dot_v u v n ≡ dot_v (λ j. u (get_or ps j 0)) (λ j. v (get_or ps j 0)) n
dot_order n ps u v o =
    let g = order_good n ps o in
    dot_places n ps u v g.0 g.1 (λ q h e. absurd (true≢false (sym (o.every q h) ∙ e)))
    ∙ ap (dot_v (λ j. u (get_or ps j 0)) (λ j. v (get_or ps j 0))) o.size

pub elem_index : (q : ℕ) (ps : List ℕ) → elem q ps ≡ true → (j : ℕ) × (j < length ps) × (get_or ps j 0 ≡ q)
elem_index q [] h = absurd (true≢false (sym h))
elem_index q (p ∷ ps) h = go (elem_index q ps) (or_cases (eqb q p) (elem q ps) h)
  where
    go : (elem q ps ≡ true → (j : ℕ) × (j < length ps) × (get_or ps j 0 ≡ q)) → (eqb q p ≡ true) ⊎ (elem q ps ≡ true) → (j : ℕ) × (j < suc (length ps))
        × (get_or (p ∷ ps) j 0 ≡ q)
    go ih (inl e) = (0, omega arith, sym (eqb-true q p e))
    go ih (inr m) = let k = ih m in (suc k.0, omega (arith, k.1), k.2)

pub index_elem : (q : ℕ) (ps : List ℕ) (j : ℕ) → j < length ps → get_or ps j 0 ≡ q → elem q ps ≡ true
index_elem q ps j h e = rw e at (elem_at ps j h)

-- the test for an order
pub order_test : (n : ℕ) (ps : List ℕ) → is_order n ps ≡ true → Order n ps
unfolding is_order
order_test n ps h =
    let t = (and-eq-true_iff (eqb (length ps) n) (not (any_to (λ q. not (elem q ps)) n))).0 h in
    record {
      size = eqb-true (length ps) n t.0;
      every = λ q l. not-false (elem q ps) (any_none n (λ q. not (elem q ps)) (not-true (any_to (λ q. not (elem q ps)) n) t.1) q l);
    }

pub test_order : (n : ℕ) (ps : List ℕ) → Order n ps → is_order n ps ≡ true
unfolding is_order
test_order n ps o =
    (and-eq-true_iff (eqb (length ps) n) (not (any_to (λ q. not (elem q ps)) n))).1 (
      eq-eqb (length ps) n o.size,
      ap not (none_any n (λ q. not (elem q ps)) (λ q l. ap not (o.every q l))),
    )

-- an order is one of as many places as it has
pub order_own : {n : ℕ} {l : List ℕ} → Order n l → Order (length l) l
order_own {l = l} o = subst (λ (m : ℕ). Order m l) (sym o.size) o

pub place_below : (order : List ℕ) (n i : ℕ) → Order n order → i < length order → get_or order i 0 < n
place_below order n i o h = (order_good n order o).1 (get_or order i 0) (elem_at order i h)
