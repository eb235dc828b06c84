-- Lists of distinct places: parts, differences and lengths. Assumes nothing.
use mathlib.Core.Path.{◌≡◌, refl, sym, ap, ◌∙◌}
use mathlib.Core.Bool.{Bool, true, false, ◌||◌, true≢false}
use mathlib.Core.Logic.{◌⊎◌, inl, inr}
use mathlib.Core.List.{List, [], ◌∷◌, ◌++◌}
use Prim.Native.Nat.{ℕ, zero, suc, ◌+◌, ◌≤◌, ◌<◌}
use native.Mathlib.Numerals.{add-one}
use native.Mathlib.Decide.{ℕ_discrete}
use native.Mathlib.Omega.{arith}
use borrow.Author.Tests.{eqb-true, eqb-false}
use lib.Dec.{eqb}
use lib.ListN.{length, get_or, length-append, get_or-append}
use lib.Seq.{get_or_at}
use Rattle.matrix.specs.Linear.{Vector, elem, without, range, fill}
use Rattle.matrix.specs.Orders.{Distinct, Order}
use Rattle.matrix.proofs.Places.{or_false_left, or_false_right, or_true_right, or_cases, false_or_false, elem_append, elem_here, fill_at}
use Rattle.matrix.proofs.Greedy.{bool_cases}
use Rattle.matrix.proofs.Orders.{drop_one, drop_one_length, drop_one_other, elem_index}
use Rattle.matrix.proofs.Field.{refuted}

abbrev pub Within : List ℕ → List ℕ → Type 0
Within ps qs = (q : ℕ) → elem q ps ≡ true → elem q qs ≡ true

abbrev pub Disjoint : List ℕ → List ℕ → Type 0
Disjoint ps qs = (q : ℕ) → elem q ps ≡ true → elem q qs ≡ false

pub length_within : (ps qs : List ℕ) → Distinct ps → Within ps qs → length ps ≤ length qs
length_within [] qs d w = omega arith
length_within (p ∷ ps) qs d w =
    let h : elem p qs ≡ true = w p (elem_here p ps) in
    omega (
      arith,
      drop_one_length p qs h,
      length_within ps (drop_one p qs) d.1
          (λ q m. drop_one_other p q qs (w q (or_true_right (eqb q p) (elem q ps) m)) (λ z. true≢false (sym (rw z at m) ∙ d.0))),
    )

-- a list of distinct places has the length of any other with the same places
pub length_same : (ps qs : List ℕ) → Distinct ps → Distinct qs → Within ps qs → Within qs ps → length ps ≡ length qs
length_same ps qs d e v w = omega (arith, length_within ps qs d v, length_within qs ps e w)

pub distinct_append : (ps qs : List ℕ) → Distinct ps → Distinct qs → Disjoint ps qs → Distinct (ps ++ qs)
distinct_append [] qs d e a = e
distinct_append (p ∷ ps) qs d e a = (
  elem_append p ps qs ∙ false_or_false (elem p ps) (elem p qs) d.0 (a p (elem_here p ps)),
  distinct_append ps qs d.1 e (λ q m. a q (or_true_right (eqb q p) (elem q ps) m)),
)

pub distinct_parts : (ps qs : List ℕ) → Distinct (ps ++ qs) → Distinct ps × Distinct qs × Disjoint ps qs
distinct_parts [] qs d = (tt, d, λ q m. absurd (true≢false (sym m)))
distinct_parts (p ∷ ps) qs d = go (distinct_parts ps qs d.1) (sym (elem_append p ps qs) ∙ d.0)
  where
    go : Distinct ps × Distinct qs × Disjoint ps qs → (elem p ps || elem p qs) ≡ false → Distinct (p ∷ ps) × Distinct qs × Disjoint (p ∷ ps) qs
    go (a, b, c) e = ((or_false_left (elem p ps) (elem p qs) e, a), b, λ q m. at q (or_cases (eqb q p) (elem q ps) m))
      where
        at : (q : ℕ) → (eqb q p ≡ true) ⊎ (elem q ps ≡ true) → elem q qs ≡ false
        at q (inl m) = rw (eqb-true q p m) (or_false_right (elem p ps) (elem p qs) e)
        at q (inr m) = c q m

module _ (qs : List ℕ) where
  without_skip : (p : ℕ) (ps : List ℕ) → elem p qs ≡ true → without qs (p ∷ ps) ≡ without qs ps
  unfolding without
  without_skip p ps e = rw e

  without_take : (p : ℕ) (ps : List ℕ) → elem p qs ≡ false → without qs (p ∷ ps) ≡ p ∷ without qs ps
  unfolding without
  without_take p ps e = rw e

  pub without_in : (ps : List ℕ) (q : ℕ) → elem q ps ≡ true → elem q qs ≡ false → elem q (without qs ps) ≡ true
  without_in [] q m n = absurd (true≢false (sym m))
  without_in (p ∷ ps) q m n = go (without_in ps q) (bool_cases (elem p qs)) (or_cases (eqb q p) (elem q ps) m)
    where
      go : (elem q ps ≡ true → elem q qs ≡ false → elem q (without qs ps) ≡ true) → (elem p qs ≡ true) ⊎ (elem p qs ≡ false) → (eqb q p ≡ true)
          ⊎ (elem q ps ≡ true)
          → elem q (without qs (p ∷ ps)) ≡ true
      go ih (inl e) (inl k) = absurd (true≢false (sym e ∙ (rw (eqb-true q p k) at n)))
      go ih (inl e) (inr k) = rw (without_skip p ps e) (ih k n)
      go ih (inr e) (inl k) = rw (without_take p ps e, k)
      go ih (inr e) (inr k) = rw (without_take p ps e) (or_true_right (eqb q p) (elem q (without qs ps)) (ih k n))

  pub without_out : (ps : List ℕ) (q : ℕ) → elem q (without qs ps) ≡ true → (elem q ps ≡ true) × (elem q qs ≡ false)
  unfolding without
  without_out [] q m = absurd (true≢false (sym m))
  without_out (p ∷ ps) q m = go (without_out ps q) (bool_cases (elem p qs))
    where
      go : (elem q (without qs ps) ≡ true → (elem q ps ≡ true) × (elem q qs ≡ false)) → (elem p qs ≡ true) ⊎ (elem p qs ≡ false) → (elem q (p ∷ ps) ≡ true)
          × (elem q qs ≡ false)
      go ih (inl e) = let k = ih (rw (without_skip p ps e) at m) in (or_true_right (eqb q p) (elem q ps) k.0, k.1)
      go ih (inr e) = at (or_cases (eqb q p) (elem q (without qs ps)) (rw (without_take p ps e) at m))
        where
          at : (eqb q p ≡ true) ⊎ (elem q (without qs ps) ≡ true) → (elem q (p ∷ ps) ≡ true) × (elem q qs ≡ false)
          at (inl k) = ((rw k), rw (eqb-true q p k) e)
          at (inr k) = let l = ih k in (or_true_right (eqb q p) (elem q ps) l.0, l.1)

  pub without_none : (ps : List ℕ) (q : ℕ) → elem q qs ≡ true → elem q (without qs ps) ≡ false
  without_none ps q m = refuted (elem q (without qs ps)) (λ k. true≢false (sym m ∙ (without_out ps q k).1))

  pub without_distinct : (ps : List ℕ) → Distinct ps → Distinct (without qs ps)
  unfolding without
  without_distinct [] d = tt
  without_distinct (p ∷ ps) d = go (without_distinct ps d.1) (bool_cases (elem p qs)) (bool_cases (elem p (without qs ps)))
    where
      go : Distinct (without qs ps) → (elem p qs ≡ true) ⊎ (elem p qs ≡ false) → (elem p (without qs ps) ≡ true) ⊎ (elem p (without qs ps) ≡ false)
          → Distinct (without qs (p ∷ ps))
      go ih (inl e) k = rw (without_skip p ps e) ih
      go ih (inr e) (inl k) = absurd (true≢false (sym (without_out ps p k).0 ∙ d.0))
      go ih (inr e) (inr k) = rw (without_take p ps e) (k, ih)

  -- a part of ps and the places of ps that are not in it
  pub without_length : (ps : List ℕ) → Distinct ps → Distinct qs → Within qs ps → length qs + length (without qs ps) ≡ length ps
  without_length ps d e w =
      sym (length-append qs (without qs ps))
      ∙ length_same (qs ++ without qs ps) ps (distinct_append qs (without qs ps) e (without_distinct ps d) (without_none ps)) d
      (λ q m. into q (or_cases (elem q qs) (elem q (without qs ps)) (sym (elem_append q qs (without qs ps)) ∙ m)))
      (λ q m. elem_append q qs (without qs ps) ∙ back q m (bool_cases (elem q qs)))
    where
      into : (q : ℕ) → (elem q qs ≡ true) ⊎ (elem q (without qs ps) ≡ true) → elem q ps ≡ true
      into q (inl m) = w q m
      into q (inr m) = (without_out ps q m).0

      back : (q : ℕ) → elem q ps ≡ true → (elem q qs ≡ true) ⊎ (elem q qs ≡ false) → (elem q qs || elem q (without qs ps)) ≡ true
      back q m (inl k) = rw k
      back q m (inr k) = or_true_right (elem q qs) (elem q (without qs ps)) (without_in ps q m k)

pub range_length : (n : ℕ) → length (range n) ≡ n
unfolding range
range_length zero = refl
range_length (suc n) = length-append (range n) (n ∷ []) ∙ omega (arith, range_length n)

pub range_at : (n i : ℕ) → i < n → get_or (range n) i 0 ≡ i
unfolding range
range_at zero i h = absurd (omega arith)
range_at (suc n) i h = by (range_at n i) (ℕ_discrete i n)
  where
    by : (i < n → get_or (range n) i 0 ≡ i) → Dec (i ≡ n) → get_or (range n ++ (n ∷ [])) i 0 ≡ i
    by ih (yes e) = get_or_at (range n) n [] 0 i (range_length n ∙ sym e) ∙ sym e
    by ih (no f) = get_or-append (range n) (n ∷ []) 0 i (omega (arith, f, range_length n)) ∙ ih (omega (arith, f))

pub range_elem : (n q : ℕ) → q < n → elem q (range n) ≡ true
unfolding range
range_elem zero q h = absurd (omega arith)
range_elem (suc n) q h = elem_append q (range n) (n ∷ []) ∙ go (range_elem n q) (eqb q n) refl
  where
    go : (q < n → elem q (range n) ≡ true) → (t : Bool) → eqb q n ≡ t → (elem q (range n) || elem q (n ∷ [])) ≡ true
    go ih true e = or_true_right (elem q (range n)) (elem q (n ∷ [])) (rw e)
    go ih false e = rw (ih (omega (arith, eqb-false q n e)))

pub range_next : (i : ℕ) → range (i + 1) ≡ range i ++ (i ∷ [])
unfolding range
range_next i = ap range (add-one i)

pub range_order : (n : ℕ) → Order n (range n)
range_order n = record { size = range_length n; every = range_elem n }

-- the values of e, put at places that are listed
pub fill_own : (ps : List ℕ) (e v w : Vector) (q : ℕ) → Distinct ps → ((j : ℕ) → j < length ps → v j ≡ e (get_or ps j 0)) → elem q ps ≡ true → fill ps v w q
    ≡ e q
fill_own ps e v w q d h m =
    let k = elem_index q ps m in
    ap (fill ps v w) (sym k.2) ∙ fill_at ps v w k.0 d k.1 ∙ h k.0 k.1 ∙ ap e k.2
