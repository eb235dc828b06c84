-- What a draw solves: the pivots' values, the pairs of its last part, and what it has passed when it releases. Assumes nothing.
use mathlib.Core.Path.{◌≡◌, sym, ap, ◌∙◌, subst}
use mathlib.Core.Bool.{true, false, true≢false, and-eq-true_iff}
use mathlib.Core.Logic.{◌⊎◌}
use mathlib.Core.List.{List}
use Prim.Native.Nat.{ℕ, ◌+◌, ◌-◌, ◌<◌}
use native.Mathlib.Omega.{arith}
use borrow.Author.Tests.{eqb-true, eq-eqb}
use lib.Dec.{eqb}
use lib.ListN.{length, get_or, take, drop, length-drop, take-append-drop}
use Rattle.trits.specs.Trit.{Trit, is_set, weight_v}
use Rattle.trits.proofs.Refusals.{passed_demand}
use Rattle.matrix.specs.Linear.{Vector, times, elem, rank}
use Rattle.matrix.specs.Orders.{Distinct, Order, is_order}
use Rattle.matrix.proofs.Places.{Below, elem_append, fill_at, or_cases, or_true_right}
use Rattle.matrix.proofs.Search.{Off}
use Rattle.matrix.proofs.Greedy.{Kept, pivots_kept, pivots_elem}
use Rattle.matrix.proofs.Orders.{order_good, elem_index, order_test, test_order}
use Rattle.matrix.proofs.Counts.{Within, Disjoint, distinct_parts}
use Rattle.matrix.proofs.Solutions.{solve_exists}
use Rattle.matrix.proofs.Field.{refuted}
use Rattle.scheme.specs.declared.sizes.Sizes.{Sizes}
use Rattle.scheme.specs.Sizes.{half, places, ru, rv, gap_v, gap_u}
use Rattle.scheme.specs.Secret.{Secret, left_of, right_of}
use Rattle.scheme.specs.Draw.{Choices, choices_fit, first_v, pivots_v, supplied_v, draw_v, first_u}
use Rattle.scheme.specs.Draw.{pivots_u, last_u, forced, supplied_u, draw_u, drawn, draw_refusal}
use Rattle.scheme_laws.proofs.Pairs.{no_zero_law, zero_no, forced_pair}
use Rattle.scheme.proofs.Ranges.{Ranges}

-- ---- parts of an order

module _ (n a : ℕ) (ps : List ℕ) (o : Order n ps) where
  pub parts : Distinct (take a ps) × Distinct (drop a ps) × Disjoint (take a ps) (drop a ps)
  parts = distinct_parts (take a ps) (drop a ps) (rw (take-append-drop a ps) (order_good n ps o).0)

  pub first_in : Within (take a ps) ps
  first_in q m = subst (λ (l : List ℕ). elem q l ≡ true) (take-append-drop a ps) (elem_append q (take a ps) (drop a ps) ∙ (rw m))

  pub last_in : Within (drop a ps) ps
  last_in q m = subst (λ (l : List ℕ). elem q l ≡ true) (take-append-drop a ps)
      (elem_append q (take a ps) (drop a ps) ∙ or_true_right (elem q (take a ps)) (elem q (drop a ps)) m)

  pub first_below : Below n (take a ps)
  first_below q m = (order_good n ps o).1 q (first_in q m)

  -- a place of the order is in its first or its last part
  pub either_part : (q : ℕ) → q < n → (elem q (take a ps) ≡ true) ⊎ (elem q (drop a ps) ≡ true)
  either_part q h = or_cases (elem q (take a ps)) (elem q (drop a ps))
      (sym (elem_append q (take a ps) (drop a ps)) ∙ subst (λ (l : List ℕ). elem q l ≡ true) (sym (take-append-drop a ps)) (o.every q h))

-- ---- what is supplied

pub record Valid (z : Sizes) (ch : Choices) : Type 0 where
  pub order_v : Order (half z) ch.order_v
  pub order_u : Order (half z) ch.order_u
  pub values : (j : ℕ) → j < z.ku - gap_u z → is_set (ch.values_u (gap_u z + j)) ≡ true

pub choices_valid : (z : Sizes) (ch : Choices) → choices_fit z ch ≡ true → Valid z ch
unfolding choices_fit
choices_valid z ch h =
    let a = (and-eq-true_iff (is_order (half z) ch.order_v) _).0 h in
    let b = (and-eq-true_iff (is_order (half z) ch.order_u) _).0 a.1 in
    record {
      order_v = order_test (half z) ch.order_v a.0;
      order_u = order_test (half z) ch.order_u b.0;
      values = no_zero_law (z.ku - gap_u z) (λ j. ch.values_u (gap_u z + j)) b.1;
    }

pub valid_choices : (z : Sizes) (ch : Choices) → Valid z ch → choices_fit z ch ≡ true
unfolding choices_fit
valid_choices z ch v =
    (and-eq-true_iff (is_order (half z) ch.order_v) _).1 (
      test_order (half z) ch.order_v v.order_v,
      (and-eq-true_iff (is_order (half z) ch.order_u) _).1 (
        test_order (half z) ch.order_u v.order_u,
        zero_no (z.ku - gap_u z) (λ j. ch.values_u (gap_u z + j)) v.values,
      ),
    )

-- ---- a draw that releases has passed three tests

pub record Passes (z : Sizes) (s : Secret) (p : List ℕ) (y : Vector) (ch : Choices) : Type 0 where
  pub full_v : length (pivots_v z s ch) ≡ rv z
  pub full_u : length (pivots_u z s ch) ≡ ru z
  pub weighs : weight_v (drawn z s p y ch) (places z) ≡ z.w

module _ (z : Sizes) (s : Secret) (p : List ℕ) (y : Vector) (ch : Choices) where
  pub passes_released : Passes z s p y ch → draw_refusal z s p y ch ≡ 0
  unfolding draw_refusal rank pivots_v pivots_u
  passes_released a = rw (
    eq-eqb (length (pivots_v z s ch)) (rv z) a.full_v,
    eq-eqb (length (pivots_u z s ch)) (ru z) a.full_u,
    eq-eqb (weight_v (drawn z s p y ch) (places z)) z.w a.weighs,
  )

  pub released_passes : draw_refusal z s p y ch ≡ 0 → Passes z s p y ch
  unfolding draw_refusal rank pivots_v pivots_u
  released_passes h =
      let a = passed_demand (eqb (rank (rv z) (half z) s.hv (first_v z ch)) (rv z)) 12 _ (omega arith) h in
      let b = passed_demand (eqb (rank (ru z) (half z) s.hu (first_u z ch)) (ru z)) 13 _ (omega arith) a.1 in
      let c = passed_demand (eqb (weight_v (drawn z s p y ch) (places z)) z.w) 14 _ (omega arith) b.1 in
      record {
        full_v = eqb-true (rank (rv z) (half z) s.hv (first_v z ch)) (rv z) a.0;
        full_u = eqb-true (rank (ru z) (half z) s.hu (first_u z ch)) (ru z) b.0;
        weighs = eqb-true (weight_v (drawn z s p y ch) (places z)) z.w c.0;
      }

-- ---- what it solves

module _ (z : Sizes) (s : Secret) (ch : Choices) (va : Valid z ch) where
  pub kept_v : Kept (rv z) (half z) s.hv (pivots_v z s ch)
  unfolding pivots_v
  kept_v = pivots_kept (rv z) (half z) s.hv (first_v z ch) (first_below (half z) (rv z + gap_v z) ch.order_v va.order_v)

  pub kept_u : Kept (ru z) (half z) s.hu (pivots_u z s ch)
  unfolding pivots_u
  kept_u = pivots_kept (ru z) (half z) s.hu (first_u z ch) (first_below (half z) (ru z + gap_u z) ch.order_u va.order_u)

  pub draw_v_good : length (pivots_v z s ch) ≡ rv z → (x : Vector)
      → Off (pivots_v z s ch) (draw_v z s x ch) (supplied_v z s ch) × ((i : ℕ) → i < rv z → times (half z) s.hv (draw_v z s x ch) i ≡ times (half z) s.hv x i)
  unfolding draw_v
  draw_v_good full x =
      let t = solve_exists (rv z) (half z) s.hv (pivots_v z s ch) kept_v full (times (half z) s.hv x) (supplied_v z s ch) in
      rw t.1 (t.2, t.3)

  pub draw_u_good : length (pivots_u z s ch) ≡ ru z → (x e_v : Vector)
      → Off (pivots_u z s ch) (draw_u z s x e_v ch) (supplied_u z s e_v ch)
      × ((i : ℕ) → i < ru z → times (half z) s.hu (draw_u z s x e_v ch) i ≡ times (half z) s.hu x i)
  unfolding draw_u
  draw_u_good full x e_v =
      let t = solve_exists (ru z) (half z) s.hu (pivots_u z s ch) kept_u full (times (half z) s.hu x) (supplied_u z s e_v ch) in
      rw t.1 (t.2, t.3)

  pub last_apart : (q : ℕ) → elem q (pivots_u z s ch) ≡ true → elem q (last_u z ch) ≡ false
  unfolding pivots_u
  last_apart q m = (parts (half z) (ru z + gap_u z) ch.order_u va.order_u).2 q (pivots_elem (ru z) (half z) s.hu (first_u z ch) q m)

  pub last_below : Below (half z) (last_u z ch)
  last_below q m = (order_good (half z) ch.order_u va.order_u).1 q (last_in (half z) (ru z + gap_u z) ch.order_u va.order_u q m)

  -- both trits of a pair of the last part are not 0
  module _ (ra : Ranges z) (full : length (pivots_u z s ch) ≡ ru z) (x e_v : Vector) (unit : (i : ℕ) → i < half z → is_set (s.c i) ≡ true) where
    last_value : (q : ℕ) → elem q (last_u z ch) ≡ true → (v : Trit) × (is_set v ≡ true) × (draw_u z s x e_v ch q ≡ forced s e_v q v)
    unfolding supplied_u
    last_value q m =
        let k = elem_index q (last_u z ch) m in (
          ch.values_u (gap_u z + k.0),
          va.values k.0 (omega (arith, k.1, length-drop (ru z + gap_u z) ch.order_u, va.order_u.size, ra.ku_low)),
          (draw_u_good full x e_v).0 q (refuted (elem q (pivots_u z s ch)) (λ e. true≢false (sym m ∙ last_apart q e)))
              ∙ ap (supplied_u z s e_v ch) (sym k.2)
              ∙ fill_at (last_u z ch) (λ j. forced s e_v (get_or (last_u z ch) j 0) (ch.values_u (gap_u z + j))) _ k.0
              (parts (half z) (ru z + gap_u z) ch.order_u va.order_u).1 k.1
              ∙ ap (λ (t : ℕ). forced s e_v t (ch.values_u (gap_u z + k.0))) k.2,
        )

    pub last_pair : (q : ℕ) → elem q (last_u z ch) ≡ true → (is_set (left_of s (draw_u z s x e_v ch) e_v q) ≡ true)
        × (is_set (right_of s (draw_u z s x e_v ch) e_v q) ≡ true)
    last_pair q m = let t = last_value q m in forced_pair s (draw_u z s x e_v ch) e_v q t.0 (unit q (last_below q m)) t.1 t.2
