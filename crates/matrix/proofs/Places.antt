-- Lists of places, and vectors that are 0 off a list. Assumes nothing.
use mathlib.Core.Path.{◌≡◌, refl, sym, ap, ap₂, ◌∙◌}
use mathlib.Core.Bool.{Bool, true, false, ◌||◌, true≢false}
use mathlib.Core.Logic.{◌⊎◌, inl, inr}
use mathlib.Core.List.{List, [], ◌∷◌, ◌++◌}
use Prim.Native.Nat.{ℕ, zero, suc, ◌≤◌, ◌<◌}
use native.Mathlib.Omega.{arith}
use borrow.Author.Tests.{eqb-true, eqb-false, eq-eqb}
use lib.Dec.{eqb}
use lib.ListN.{length, get_or}
use Rattle.trits.specs.Trit.{Trit, t0, add_t, mul_t, put_v, dot_v}
use Rattle.trits.proofs.Arithmetic.{mul-zero}
use Rattle.trits.proofs.Products.{dot_zero}
use Rattle.matrix.specs.Linear.{Vector, zeros, Matrix, times, elem, fill}
use Rattle.matrix.specs.Orders.{Distinct}
use Rattle.matrix.proofs.Dots.{put_same, put_other, dot_right, dot_put, dot_first}
use Rattle.matrix.proofs.Field.{refuted}

abbrev pub Below : ℕ → List ℕ → Type 0
Below n ps = (q : ℕ) → elem q ps ≡ true → q < n

abbrev pub Supported : List ℕ → Vector → Type 0
Supported ps w = (q : ℕ) → elem q ps ≡ false → w q ≡ t0

pub or_false_left : (a b : Bool) → (a || b) ≡ false → a ≡ false
or_false_left true b h = h
or_false_left false b h = refl

pub or_false_right : (a b : Bool) → (a || b) ≡ false → b ≡ false
or_false_right true b h = absurd (true≢false h)
or_false_right false b h = h

pub or_true_right : (a b : Bool) → b ≡ true → (a || b) ≡ true
or_true_right true b h = refl
or_true_right false b h = h

pub or_cases : (a b : Bool) → (a || b) ≡ true → (a ≡ true) ⊎ (b ≡ true)
or_cases true b h = inl refl
or_cases false b h = inr h

pub false_or_false : (a b : Bool) → a ≡ false → b ≡ false → (a || b) ≡ false
false_or_false a b h k = rw (h, k)

pub elem_append : (q : ℕ) (xs ys : List ℕ) → elem q (xs ++ ys) ≡ (elem q xs || elem q ys)
elem_append q [] ys = refl
elem_append q (x ∷ xs) ys = rw (elem_append q xs ys) (assoc (eqb q x) (elem q xs) (elem q ys))
  where
    assoc : (a b c : Bool) → (a || (b || c)) ≡ ((a || b) || c)
    assoc true b c = refl
    assoc false b c = refl

pub elem_here : (p : ℕ) (ps : List ℕ) → elem p (p ∷ ps) ≡ true
elem_here p ps = rw (eq-eqb p p refl)

pub elem_at : (ps : List ℕ) (j : ℕ) → j < length ps → elem (get_or ps j 0) ps ≡ true
elem_at [] j h = absurd (omega arith)
elem_at (p ∷ ps) zero h = elem_here p ps
elem_at (p ∷ ps) (suc j) h = or_true_right (eqb (get_or ps j 0) p) (elem (get_or ps j 0) ps) (elem_at ps j (omega arith))

pub not_elem_at : (ps : List ℕ) (p j : ℕ) → elem p ps ≡ false → j < length ps → get_or ps j 0 ≡ p → ⊥
not_elem_at ps p j h k e = true≢false (sym (rw e at (elem_at ps j k)) ∙ h)

-- a place past n is none of those below it
pub elem_past : (n : ℕ) (ps : List ℕ) (q : ℕ) → Below n ps → n ≤ q → elem q ps ≡ false
elem_past n ps q b h = refuted (elem q ps) (λ m. omega (arith, b q m))

-- the product with a vector that is 0 off the list
pub dot_places : (n : ℕ) (ps : List ℕ) (u v : Vector) → Distinct ps → Below n ps → ((q : ℕ) → q < n → elem q ps ≡ false → v q ≡ t0)
    → dot_v u v n ≡ dot_v (λ j. u (get_or ps j 0)) (λ j. v (get_or ps j 0)) (length ps)
unfolding dot_v
dot_places n [] u v d b z = dot_zero n u v (λ i h. ap (mul_t (u i)) (z i h refl) ∙ mul-zero (u i))
dot_places n (p ∷ ps) u v d b z =
    dot_put n u v p (b p (elem_here p ps))
    ∙ ap (add_t (mul_t (u p) (v p))) (dot_places n ps u (put_v v p t0) d.1 (λ q h. b q (or_true_right (eqb q p) (elem q ps) h)) off
    ∙ dot_right (length ps) (λ j. u (get_or ps j 0)) (λ j. put_v v p t0 (get_or ps j 0)) (λ j. v (get_or ps j 0))
    (λ j h. put_other v p t0 (get_or ps j 0) (not_elem_at ps p j d.0 h)))
    ∙ sym (dot_first (length ps) (λ j. u (get_or (p ∷ ps) j 0)) (λ j. v (get_or (p ∷ ps) j 0)))
  where
    off : (q : ℕ) → q < n → elem q ps ≡ false → put_v v p t0 q ≡ t0
    off q h e = go (eqb q p) refl
      where
        go : (t : Bool) → eqb q p ≡ t → put_v v p t0 q ≡ t0
        go true k = rw (eqb-true q p k) (put_same v p t0)
        go false k = put_other v p t0 q (eqb-false q p k) ∙ z q h (false_or_false (eqb q p) (elem q ps) k e)

pub fill_at : (ps : List ℕ) (v w : Vector) (j : ℕ) → Distinct ps → j < length ps → fill ps v w (get_or ps j 0) ≡ v j
unfolding fill
fill_at [] v w j d h = absurd (omega arith)
fill_at (p ∷ ps) v w zero d h = put_same (fill ps (λ j. v (suc j)) w) p (v 0)
fill_at (p ∷ ps) v w (suc j) d h =
    put_other (fill ps (λ j. v (suc j)) w) p (v 0) (get_or ps j 0) (not_elem_at ps p j d.0 (omega arith))
    ∙ fill_at ps (λ j. v (suc j)) w j d.1 (omega arith)

pub fill_off : (ps : List ℕ) (v w : Vector) (q : ℕ) → elem q ps ≡ false → fill ps v w q ≡ w q
unfolding fill
fill_off [] v w q h = refl
fill_off (p ∷ ps) v w q h =
    put_other (fill ps (λ j. v (suc j)) w) p (v 0) q (eqb-false q p (or_false_left (eqb q p) (elem q ps) h))
    ∙ fill_off ps (λ j. v (suc j)) w q (or_false_right (eqb q p) (elem q ps) h)

-- no value past the places counts
pub fill_same : (ps : List ℕ) (u v w : Vector) → ((j : ℕ) → j < length ps → u j ≡ v j) → fill ps u w ≡ fill ps v w
unfolding fill
fill_same [] u v w h = refl
fill_same (p ∷ ps) u v w h =
    ap₂ (λ (f : Vector) (x : Trit). put_v f p x) (fill_same ps (λ j. u (suc j)) (λ j. v (suc j)) w (λ j l. h (suc j) (omega arith))) (h 0 (omega arith))

-- the columns at the places listed
abbrev pub columns_at : Matrix → List ℕ → Matrix
columns_at H ps i j = H i (get_or ps j 0)

module _ (n : ℕ) (H : Matrix) (ps : List ℕ) (d : Distinct ps) (b : Below n ps) where
  pub times_places : (w : Vector) (i : ℕ) → Supported ps w → times n H w i ≡ times (length ps) (columns_at H ps) (λ j. w (get_or ps j 0)) i
  times_places w i z = dot_places n ps (H i) w d b (λ q h e. z q e)

  pub times_fill : (a : Vector) (i : ℕ) → times n H (fill ps a zeros) i ≡ times (length ps) (columns_at H ps) a i
  times_fill a i =
      times_places (fill ps a zeros) i (λ q e. fill_off ps a zeros q e)
      ∙ dot_right (length ps) (columns_at H ps i) (λ j. fill ps a zeros (get_or ps j 0)) a (λ j h. fill_at ps a zeros j d h)
