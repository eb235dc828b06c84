-- Lists filled place by place: one place more. Assumes nothing.
use mathlib.Core.Path.{◌≡◌, sym, ap, ◌∙◌}
use mathlib.Core.List.{List, [], ◌∷◌, ◌++◌}
use Prim.Native.Nat.{ℕ, ◌+◌, ◌-◌, ◌%◌, ◌<◌, ◌≤◌}
use native.Mathlib.Numerals.{add-one}
use borrow.Author.Tests.{lt-ltb, le-ltb}
use lib.ListN.{length, take, set}
use lib.Seq.{take-suc-set}
use Rattle.sign_lines.specs.{following, number_after, packed_after, turned, ring_place, ring_order}

one_more : (l p : List ℕ) (j v w : ℕ) → j < length l → take j l ≡ p → v ≡ w → take (j + 1) (set l j v) ≡ p ++ (w ∷ [])
one_more l p j v w h e q = ap (λ (k : ℕ). take k (set l j v)) (add-one j) ∙ take-suc-set l j v h ∙ (λ i. e i ++ (q i ∷ []))

pub number_next : (j x y : ℕ) → y ≡ number_after j x → following y ≡ number_after (j + 1) x
unfolding number_after
number_next j x y e = ap following e ∙ sym (ap (λ (k : ℕ). number_after k x) (add-one j))

pub packed_next : (l : List ℕ) (j x y : ℕ) → j < length l → take j l ≡ packed_after j x → y ≡ number_after (j + 1) x
    → take (j + 1) (set l j (y % 243)) ≡ packed_after (j + 1) x
unfolding packed_after
packed_next l j x y h e q =
    one_more l (packed_after j x) j (y % 243) _ h e (ap (λ (n : ℕ). n % 243) (q ∙ ap (λ (k : ℕ). number_after k x) (add-one j)))
    ∙ sym (ap (λ (k : ℕ). packed_after k x) (add-one j))

module _ (n a q : ℕ) where
  pub turned_within : q + a < n → q + a ≡ turned n a q
  unfolding turned
  turned_within h = rw (lt-ltb (q + a) n h)

  pub turned_over : n ≤ q + a → q + a - n ≡ turned n a q
  unfolding turned
  turned_over h = rw (le-ltb (q + a) n h)

module _ (n a b j : ℕ) where
  pub place_next : (q : ℕ) → q ≡ ring_place n a b j → turned n a q ≡ ring_place n a b (j + 1)
  unfolding ring_place
  place_next q e = ap (turned n a) e ∙ sym (ap (ring_place n a b) (add-one j))

  pub order_next : (l : List ℕ) (v : ℕ) → j < length l → take j l ≡ ring_order n a b j → v ≡ ring_place n a b j
      → take (j + 1) (set l j v) ≡ ring_order n a b (j + 1)
  unfolding ring_order
  order_next l v h e q = one_more l (ring_order n a b j) j v (ring_place n a b j) h e q ∙ sym (ap (ring_order n a b) (add-one j))
