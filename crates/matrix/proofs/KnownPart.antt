-- The values at the pivots, solved for at the columns that stand for the first places of an order, where one column holds what the last places add: they are
-- the values solved for at the places. Assumes nothing.
use mathlib.Core.Path.{◌≡◌, sym, ap, ap₂, ◌∙◌, fun_ext, subst}
use mathlib.Core.Bool.{true, false, true≢false}
use mathlib.Core.List.{List, [], ◌∷◌}
use Prim.Native.Nat.{ℕ, zero, suc, ◌+◌, ◌-◌, ◌≤◌, ◌<◌}
use native.Mathlib.Decide.{dec_lt, ℕ_discrete}
use native.Mathlib.Omega.{arith}
use lib.ListN.{length, get_or, take, drop, length-drop, take-append-drop}
use lib.Seq.{get_or-take, get_or-drop, length-take-le}
use Rattle.trits.specs.Trit.{Trit, t0, t1, add_t, sub_t, mul_t, put_v, dot_v}
use Rattle.trits.proofs.Arithmetic.{add_zero_r, mul-zero}
use Rattle.trits.proofs.Products.{dot_zero}
use Rattle.matrix.specs.Linear.{Vector, Matrix, times, elem, fill}
use Rattle.matrix.specs.Orders.{Distinct, Order}
use Rattle.matrix.specs.Steps.{backed}
use Rattle.matrix.proofs.Field.{mul-one, refuted}
use Rattle.matrix.proofs.Dots.{put_same, put_other, dot_cong, dot_right, dot_split, dot_past}
use Rattle.matrix.proofs.Places.{Below, not_elem_at, elem_at, elem_past, elem_append, fill_at, fill_off}
use Rattle.matrix.proofs.Orders.{order_good, dot_order, elem_index, place_below}
use Rattle.matrix.proofs.Counts.{distinct_parts}
use Rattle.matrix.proofs.FirstPart.{Image}

-- ---- distinct places

distinct_at : (ps : List ℕ) → Distinct ps → (i j : ℕ) → i < j → j < length ps → get_or ps i 0 ≡ get_or ps j 0 → ⊥
distinct_at [] d i j l h e = absurd (omega arith)
distinct_at (p ∷ ps) d i zero l h e = absurd (omega arith)
distinct_at (p ∷ ps) d zero (suc j) l h e = not_elem_at ps p j d.0 (omega arith) (sym e)
distinct_at (p ∷ ps) d (suc i) (suc j) l h e = distinct_at ps d.1 i j (omega arith) (omega arith) e

module _ (order : List ℕ) (o : Order (length order) order) where
  pub order_apart : (i j : ℕ) → i < length order → j < length order → (i ≡ j → ⊥) → get_or order i 0 ≡ get_or order j 0 → ⊥
  order_apart i j hi hj f e = by (dec_lt i j)
    where
      by : Dec (i < j) → ⊥
      by (yes l) = distinct_at order (order_good (length order) order o).0 i j l hj e
      by (no l) = distinct_at order (order_good (length order) order o).0 j i (omega (arith, f)) hi (sym e)

  -- a place of the last part is none of the first
  pub last_not_first : (m j : ℕ) → m ≤ j → j < length order → elem (get_or order j 0) (take m order) ≡ false
  last_not_first m j l h = refuted (elem (get_or order j 0) (take m order)) (λ k. true≢false (sym there ∙ apart.2 (get_or order j 0) k))
    where
      apart : Distinct (take m order) × Distinct (drop m order) × ((q : ℕ) → elem q (take m order) ≡ true → elem q (drop m order) ≡ false)
      apart =
          distinct_parts (take m order) (drop m order)
          (subst (λ (x : List ℕ). Distinct x) (sym (take-append-drop m order)) (order_good (length order) order o).0)

      there : elem (get_or order j 0) (drop m order) ≡ true
      there =
          let at : m + (j - m) ≡ j = omega arith in
          ap (λ (q : ℕ). elem q (drop m order)) (sym (get_or-drop m order (j - m) 0 ∙ ap (λ (k : ℕ). get_or order k 0) at))
          ∙ elem_at (drop m order) (j - m) (omega (arith, length-drop m order))

  pub first_distinct : (m : ℕ) → Distinct (take m order)
  first_distinct m =
      (distinct_parts (take m order) (drop m order)
      (subst (λ (x : List ℕ). Distinct x) (sym (take-append-drop m order)) (order_good (length order) order o).0)).0

  -- the first m places, and the values z at the others: t holds the values u by position, and 1 at position m where there are others
  module _ (m N : ℕ) (hm : m ≤ length order) (h_n : length order ≤ N) (z : Vector) where
    abbrev pub n : ℕ
    n = length order

    abbrev pub at : ℕ → ℕ
    at j = get_or order j 0

    pub record Carries (t u : Vector) : Type 0 where
      pub first : (j : ℕ) → j < m → t j ≡ u (get_or order j 0)
      pub last : (j : ℕ) → m ≤ j → j < length order → u (get_or order j 0) ≡ z (get_or order j 0)
      pub one : m < length order → t m ≡ t1
      pub rest : (j : ℕ) → m ≤ j → (m < length order → m < j) → t j ≡ t0
      pub past : (q : ℕ) → length order ≤ q → u q ≡ t0

    -- a value of the first part is put
    holds_put : (t u : Vector) (p : ℕ) (x : Trit) → p < m → Carries t u → Carries (put_v t p x) (put_v u (at p) x)
    holds_put t u p x l k = record {
      first = λ j h. by j h (ℕ_discrete j p);
      last = λ j h g. put_other u (at p) x (at j) (order_apart j p g (omega arith) (λ e. omega arith)) ∙ k.last j h g;
      one = λ h. put_other t p x m (λ e. omega arith) ∙ k.one h;
      rest = λ j h g. put_other t p x j (λ e. omega arith) ∙ k.rest j h g;
      past = λ q h. put_other u (at p) x q (λ e. omega (arith, e, place_below order n p o (omega arith))) ∙ k.past q h;
    }
      where
        by : (j : ℕ) → j < m → Dec (j ≡ p) → put_v t p x j ≡ put_v u (at p) x (at j)
        by j h (yes e) = ap (put_v t p x) e ∙ put_same t p x ∙ sym (ap (λ (i : ℕ). put_v u (at p) x (at i)) e ∙ put_same u (at p) x)
        by j h (no f) = put_other t p x j f ∙ k.first j h ∙ sym (put_other u (at p) x (at j) (order_apart j p (omega arith) (omega arith) f))

    module _ (r : ℕ) (B F : Matrix) (g : Image r (length order) m (λ j. get_or order j 0) z B F) (none : (j : ℕ) → j < m → z (get_or order j 0) ≡ t0) where
      -- a product over the places, in two parts
      parted : (c : ℕ) (v : Vector) → dot_v (F c) v n
          ≡ add_t (dot_v (λ j. F c (at j)) (λ j. v (at j)) m) (dot_v (λ i. F c (at (m + i))) (λ i. v (at (m + i))) (n - m))
      parted c v =
          let e : n ≡ m + (n - m) = omega arith in
          dot_order n order (F c) v o ∙ ap (dot_v (λ j. F c (at j)) (λ j. v (at j))) e ∙ dot_split m (n - m) (λ j. F c (at j)) (λ j. v (at j))

      -- what the last part adds
      added : (c : ℕ) → times n F z c ≡ dot_v (λ i. F c (at (m + i))) (λ i. z (at (m + i))) (n - m)
      added c =
          parted c z
          ∙ ap (λ (x : Trit). add_t x (dot_v (λ i. F c (at (m + i))) (λ i. z (at (m + i))) (n - m)))
          (dot_zero m (λ j. F c (at j)) (λ j. z (at j)) (λ j h. ap (mul_t (F c (at j))) (none j h) ∙ mul-zero (F c (at j))))

      -- row c has the same product
      module _ (t u : Vector) (k : Carries t u) (c : ℕ) (h : c < r) where
        placed : times n F u c ≡ add_t (dot_v (λ j. F c (at j)) (λ j. u (at j)) m) (times n F z c)
        placed =
            parted c u
            ∙ ap (add_t (dot_v (λ j. F c (at j)) (λ j. u (at j)) m))
            (dot_right (n - m) (λ i. F c (at (m + i))) (λ i. u (at (m + i))) (λ i. z (at (m + i))) (λ i l. k.last (m + i) (omega arith) (omega arith))
            ∙ sym (added c))

        front : dot_v (B c) t m ≡ dot_v (λ j. F c (at j)) (λ j. u (at j)) m
        front = dot_cong m (B c) t (λ j. F c (at j)) (λ j. u (at j)) (λ j l. ap₂ mul_t (g.columns c j h l) (k.first j l))

        pub product_alike : times N B t c ≡ times n F u c
        unfolding dot_v
        product_alike = by (dec_lt m n) ∙ sym placed
          where
            by : Dec (m < n) → times N B t c ≡ add_t (dot_v (λ j. F c (at j)) (λ j. u (at j)) m) (times n F z c)
            by (yes l) =
                dot_past (suc m) N (B c) t (omega arith) (λ i a. k.rest i (omega arith) (λ b. omega arith))
                ∙ ap₂ add_t front (ap₂ mul_t (g.known l c h) (k.one l) ∙ mul-one (times n F z c))
            by (no f) =
                let e : n - m ≡ 0 = omega (arith, f) in
                dot_past m N (B c) t (omega arith) (λ i a. k.rest i a (λ b. absurd (f b)))
                ∙ front ∙ sym (add_zero_r (dot_v (λ j. F c (at j)) (λ j. u (at j)) m))
                ∙ ap (add_t (dot_v (λ j. F c (at j)) (λ j. u (at j)) m))
                (sym (added c ∙ ap (dot_v (λ i. F c (at (m + i))) (λ i. z (at (m + i)))) e))

      -- the pivots of the first c rows are solved for, at the positions p and at their places p'
      pub backed_alike : (p p' : ℕ → ℕ) → ((c : ℕ) → c < r → (p c < m) × (p' c ≡ get_or order (p c) 0)) → (c : ℕ) → c ≤ r → (t u : Vector) → Carries t u
          → Carries (backed N B p c t) (backed (length order) F p' c u)
      unfolding backed
      backed_alike p p' e zero h t u k = k
      backed_alike p p' e (suc c) h t u k =
          backed_alike p p' e c (omega arith) (put_v t (p c) (sub_t (t (p c)) (times N B t c))) (put_v u (p' c) (sub_t (u (p' c)) (times n F u c)))
          (subst (λ (v : Vector). Carries (put_v t (p c) (sub_t (t (p c)) (times N B t c))) v) same
          (holds_put t u (p c) (sub_t (t (p c)) (times N B t c)) (e c (omega arith)).0 k))
        where
          same : put_v u (at (p c)) (sub_t (t (p c)) (times N B t c)) ≡ put_v u (p' c) (sub_t (u (p' c)) (times n F u c))
          same =
              ap₂ (λ (x y : Trit). put_v u (at (p c)) (sub_t x y)) (k.first (p c) (e c (omega arith)).0) (product_alike t u k c (omega arith))
              ∙ ap (λ (q : ℕ). put_v u q (sub_t (u q) (times n F u c))) (sym (e c (omega arith)).1)

    -- the values of the first part, put at their places, and those of the last
    pub fill_holds : (t u : Vector) → ((q : ℕ) → length order ≤ q → z q ≡ t0) → Carries t u → fill (take m order) t z ≡ u
    fill_holds t u none k = fun_ext (λ q. by q (dec_lt q n))
      where
        at_place : (j : ℕ) → j < n → Dec (j < m) → fill (take m order) t z (at j) ≡ u (at j)
        at_place j h (yes l) =
            ap (fill (take m order) t z) (sym (get_or-take m order j 0 l))
            ∙ fill_at (take m order) t z j (first_distinct m) (omega (arith, length-take-le m order hm)) ∙ k.first j l
        at_place j h (no f) = fill_off (take m order) t z (at j) (last_not_first m j (omega arith) h) ∙ sym (k.last j (omega arith) h)

        by : (q : ℕ) → Dec (q < n) → fill (take m order) t z q ≡ u q
        by q (yes l) =
            let i = elem_index q order (o.every q l) in
            ap (fill (take m order) t z) (sym i.2) ∙ at_place i.0 i.1 (dec_lt i.0 m) ∙ ap u i.2
        by q (no f) =
            fill_off (take m order) t z q (elem_past n (take m order) q below (omega arith)) ∙ none q (omega arith) ∙ sym (k.past q (omega arith))
          where
            below : Below n (take m order)
            below x e =
                (order_good n order o).1 x (ap (elem x) (sym (take-append-drop m order)) ∙ elem_append x (take m order) (drop m order) ∙ (rw e))
