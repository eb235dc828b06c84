-- Demand 3: under a key that a build released, some draw releases a word exactly when the five terms hold of it. Assumes nothing.
use mathlib.Core.Path.{◌≡◌, refl, sym, ap, ◌∙◌, subst}
use mathlib.Core.Bool.{Bool, true, false, cond, ◌||◌, true≢false}
use mathlib.Core.Logic.{◌⊎◌, inl, inr, ◌↔◌}
use mathlib.Core.List.{List, ◌++◌}
use Prim.Native.Nat.{ℕ, ◌+◌, ◌-◌, ◌<◌}
use native.Mathlib.Omega.{arith}
use borrow.Author.Tests.{ltb-true, ltb-false, lt-ltb, le-ltb}
use lib.Dec.{ltb}
use lib.ListN.{length, get_or, take, drop, length-drop, length-append}
use lib.Seq.{take_at, drop_at, take-append-add}
use Rattle.trits.specs.Trit.{Trit, t0, t1, is_set}
use Rattle.trits.proofs.Counting.{weight_same}
use Rattle.matrix.specs.Linear.{Vector, zeros, times, elem, or_zeros, fill, pivots, rank, without, range}
use Rattle.matrix.specs.Orders.{Distinct, Order}
use Rattle.matrix.proofs.Field.{zero_or, refuted}
use Rattle.matrix.proofs.Dots.{dot_right}
use Rattle.matrix.proofs.Places.{Below, elem_at, elem_append, fill_at, fill_off, or_true_right}
use Rattle.matrix.proofs.Greedy.{Kept, bool_cases, pivots_kept, pivots_elem, rank_iff, spans_mono, kept_spans}
use Rattle.matrix.proofs.Orders.{order_good}
use Rattle.matrix.proofs.Counts.{Disjoint, without_in, without_out, without_distinct, without_length, range_order, fill_own}
use Rattle.matrix.proofs.Solutions.{solve_is}
use Rattle.verdict.specs.Verdict.{Key, HasSyndrome}
use Rattle.verdict.proofs.FullWord.{syndrome_cong}
use Rattle.scheme.specs.declared.sizes.Sizes.{Sizes}
use Rattle.scheme.specs.Sizes.{half, places, dim, ru, rv, codim, gap_v, gap_u, sizes_fit, sized}
use Rattle.scheme.specs.Secret.{Secret, join, left_of, right_of, u_of, v_of, whole, secret_matrix}
use Rattle.scheme.specs.Build.{arranged, key_order, key_row}
use Rattle.scheme.specs.Draw.{Choices, placed, pivots_v, supplied_v, draw_v, first_u, pivots_u, last_u, forced, supplied_u, draw_u, drawn}
use Rattle.scheme_laws.proofs.Pairs.{pair_left, pair_right, pair_forced, join_low, join_high, secret_u, secret_v, whole_u, whole_v, by_rows}
use Rattle.scheme.proofs.Ranges.{sizes_fit_law, codim_dim}
use Rattle.scheme_laws.proofs.Ended.{Builds, build_passed, build_ends}
use Rattle.scheme_laws.proofs.Draws.{Valid, choices_valid, valid_choices, Passes, passes_released, released_passes, parts, first_below, either_part, kept_v}
use Rattle.scheme_laws.proofs.Draws.{kept_u, draw_v_good, draw_u_good, last_below, last_pair}
use Rattle.wave.specs.Terms.{Terms}
use Rattle.wave.specs.Vectors.{Released, Releases}
use Rattle.wave.proofs.Syndrome.{syndrome_iff}

-- (y, 0...0), in secret places
abbrev pub start : Sizes → List ℕ → Vector → Vector
start z p y = placed p (join (codim z) y zeros)

-- ---- the key that is built

module _ (z : Sizes) (s : Secret) (order : List ℕ) (bu : Builds z s order) where
  abbrev p : List ℕ
  p = key_order z s order

  -- a word of secret places, read in public places and placed again
  placed_back : (e f : Vector) → ((i : ℕ) → i < places z → f i ≡ e (get_or p i 0)) → (q : ℕ) → q < places z → placed p f q ≡ e q
  placed_back e f h q l =
      let o = (build_ends z s order bu).order in
      fill_own p e f zeros q (order_good (places z) p o).0 (λ j k. h j (omega (arith, o.size))) (o.every q l)

  -- the syndrome, by the U and the V part
  pub record Parts (y e : Vector) : Type 0 where
    pub part_u : (i : ℕ) → i < ru z → times (half z) s.hu (u_of z s e) i ≡ times (half z) s.hu (u_of z s (start z p y)) i
    pub part_v : (i : ℕ) → i < rv z → times (half z) s.hv (v_of z s e) i ≡ times (half z) s.hv (v_of z s (start z p y)) i

  syndrome_parts : (y e : Vector) → HasSyndrome (codim z) (dim z) (key_row z s order) e y ↔ Parts y (placed p e)
  syndrome_parts y e = (
    (λ h. let t = iff.0 h in
        record {
          part_u = λ i l. sym (secret_u z s (placed p e) i l) ∙ t i (omega arith) ∙ secret_u z s (start z p y) i l;
          part_v = λ i l. sym (secret_v z s (placed p e) i) ∙ t (ru z + i) (omega arith) ∙ secret_v z s (start z p y) i;
        }),
    λ h. iff.1 (by_rows z s (λ x. times (places z) (secret_matrix z s) (placed p e) x ≡ times (places z) (secret_matrix z s) (start z p y) x)
        (λ i l. secret_u z s (placed p e) i l ∙ h.part_u i l ∙ sym (secret_u z s (start z p y) i l))
        (λ i l. secret_v z s (placed p e) i ∙ h.part_v i l ∙ sym (secret_v z s (start z p y) i))),
  )
    where
      iff : HasSyndrome (codim z) (dim z) (key_row z s order) e y
          ↔ ((x : ℕ) → x < codim z → times (places z) (secret_matrix z s) (placed p e) x ≡ times (places z) (secret_matrix z s) (start z p y) x)
      iff = syndrome_iff (codim z) (dim z) (places z) (secret_matrix z s) (arranged (codim z) (places z) (secret_matrix z s) order) (codim_dim z bu.ranges)
          (build_ends z s order bu) y e

-- ---- from a draw to the terms

module _ (z : Sizes) (s : Secret) (order : List ℕ) (y e : Vector) (bu : Builds z s order) (re : Releases z s (key_order z s order) y e) where
  abbrev ch : Choices
  ch = re.choices

  abbrev x : Vector
  x = start z (key_order z s order) y

  abbrev e_v : Vector
  e_v = draw_v z s (v_of z s x) ch

  abbrev e_u : Vector
  e_u = draw_u z s (u_of z s x) e_v ch

  valid : Valid z ch
  valid = choices_valid z ch re.given

  passes : Passes z s (key_order z s order) y ch
  passes = released_passes z s (key_order z s order) y ch re.passed

  secret_word : (q : ℕ) → q < places z → placed (key_order z s order) e q ≡ whole z s e_u e_v q
  unfolding drawn
  secret_word q h = placed_back z s order bu (whole z s e_u e_v) e (λ i l. sym (re.word i l)) q h

  secret_parts : (q : ℕ) → q < half z → (u_of z s (placed (key_order z s order) e) q ≡ e_u q) × (v_of z s (placed (key_order z s order) e) q ≡ e_v q)
  secret_parts q h = rw (secret_word q (omega arith), secret_word (half z + q) (omega arith)) (whole_u z s e_u e_v q h, whole_v z s e_u e_v q h)

  last_both : (q : ℕ) → elem q (last_u z ch) ≡ true → (is_set (left_of s e_u e_v q) ≡ true) × (is_set (right_of s e_u e_v q) ≡ true)
  last_both q m = last_pair z s ch valid bu.ranges passes.full_u (u_of z s x) e_v bu.unit q m

  last_keeps : rank (ru z) (half z) s.hu (without (last_u z ch) (range (half z))) ≡ ru z
  unfolding pivots_u rank
  last_keeps =
      (rank_iff (ru z) (half z) s.hu (without (last_u z ch) (range (half z)))
      (λ q m. (order_good (half z) (range (half z)) (range_order (half z))).1 q (without_out (last_u z ch) (range (half z)) q m).0)).1
      (λ v. spans_mono (ru z) (half z) s.hu (first_u z ch) (without (last_u z ch) (range (half z))) v
      (λ q m. without_in (last_u z ch) (range (half z)) q ((range_order (half z)).every q (low_first q m))
      ((parts (half z) (ru z + gap_u z) ch.order_u valid.order_u).2 q m))
      ((rank_iff (ru z) (half z) s.hu (first_u z ch) low_first).0 passes.full_u v))
    where
      low_first : Below (half z) (first_u z ch)
      low_first = first_below (half z) (ru z + gap_u z) ch.order_u valid.order_u

  released_terms : Terms z (gap_u z) z.w s (key_order z s order) (key_row z s order) y e
  released_terms =
      record {
        weighs = weight_same (places z) e (drawn z s (key_order z s order) y ch) (λ i h. sym (re.word i h)) ∙ passes.weighs;
        has_syndrome = (syndrome_parts z s order bu y e).1
            (record {
              part_u = λ i l. dot_right (half z) (s.hu i) (u_of z s (placed (key_order z s order) e)) e_u (λ q h. (secret_parts q h).0)
                  ∙ (draw_u_good z s ch valid passes.full_u (u_of z s x) e_v).1 i l;
              part_v = λ i l. dot_right (half z) (s.hv i) (v_of z s (placed (key_order z s order) e)) e_v (λ q h. (secret_parts q h).1)
                  ∙ (draw_v_good z s ch valid passes.full_v (v_of z s x)).1 i l;
            });
        chosen = record {
          pairs = last_u z ch;
          distinct = (parts (half z) (ru z + gap_u z) ch.order_u valid.order_u).1;
          size = omega (arith, length-drop (ru z + gap_u z) ch.order_u, valid.order_u.size, bu.ranges.ku_low, bu.ranges.gu_low);
          below = last_below z s ch valid;
        };
        both_nonzero = λ q m. let h = last_below z s ch valid q m in (
          (rw (secret_word q (omega (arith, h)), join_low (half z) (left_of s e_u e_v) (right_of s e_u e_v) q h) (last_both q m).0),
          rw (secret_word (half z + q) (omega (arith, h)), join_high (half z) (left_of s e_u e_v) (right_of s e_u e_v) q) (last_both q m).1,
        );
        keeps_rank = last_keeps;
      }

-- ---- a part of the places, with the others after it or before it

module _ (n : ℕ) (qs : List ℕ) (d : Distinct qs) (b : Below n qs) where
  rest : List ℕ
  rest = without qs (range n)

  rest_length : length qs + length rest ≡ n
  unfolding rest
  rest_length = without_length qs (range n) (order_good n (range n) (range_order n)).0 d (λ q m. (range_order n).every q (b q m)) ∙ (range_order n).size

  rest_every : (q : ℕ) → q < n → (elem q qs ≡ true) ⊎ (elem q rest ≡ true)
  unfolding rest
  rest_every q h = go (bool_cases (elem q qs))
    where
      go : (elem q qs ≡ true) ⊎ (elem q qs ≡ false) → (elem q qs ≡ true) ⊎ (elem q (without qs (range n)) ≡ true)
      go (inl e) = inl e
      go (inr e) = inr (without_in qs (range n) q ((range_order n).every q h) e)

  order_after : Order n (qs ++ rest)
  order_after = record { size = length-append qs rest ∙ rest_length; every = λ q h. elem_append q qs rest ∙ go q (rest_every q h) }
    where
      go : (q : ℕ) → (elem q qs ≡ true) ⊎ (elem q rest ≡ true) → (elem q qs || elem q rest) ≡ true
      go q (inl e) = rw e
      go q (inr e) = or_true_right (elem q qs) (elem q rest) e

  order_before : Order n (rest ++ qs)
  order_before = record { size = length-append rest qs ∙ omega (arith, rest_length); every = λ q h. elem_append q rest qs ∙ go q (rest_every q h) }
    where
      go : (q : ℕ) → (elem q qs ≡ true) ⊎ (elem q rest ≡ true) → (elem q rest || elem q qs) ≡ true
      go q (inl e) = or_true_right (elem q rest) (elem q qs) e
      go q (inr e) = rw e

-- ---- from the terms to a draw

module _ (z : Sizes) (s : Secret) (order : List ℕ) (y e : Vector) (bu : Builds z s order)
    (f : Terms z (gap_u z) z.w s (key_order z s order) (key_row z s order) y e) where
  -- the word in secret places, and its parts, 0 from N on
  abbrev e_f : Vector
  e_f = placed (key_order z s order) e

  abbrev e_u_f : Vector
  e_u_f q = cond (ltb q (half z)) (u_of z s e_f q) t0

  abbrev e_v_f : Vector
  e_v_f q = cond (ltb q (half z)) (v_of z s e_f q) t0

  e_u_low : (q : ℕ) → q < half z → e_u_f q ≡ u_of z s e_f q
  e_u_low q h = rw (lt-ltb q (half z) h)

  e_v_low : (q : ℕ) → q < half z → e_v_f q ≡ v_of z s e_f q
  e_v_low q h = rw (lt-ltb q (half z) h)

  left_low : (q : ℕ) → q < half z → left_of s e_u_f e_v_f q ≡ e_f q
  left_low q h = rw (e_u_low q h, e_v_low q h) (pair_left z s e_f q)

  right_low : (q : ℕ) → q < half z → right_of s e_u_f e_v_f q ≡ e_f (half z + q)
  right_low q h = rw (e_u_low q h, e_v_low q h) (pair_right z s e_f q)

  whole_back : (q : ℕ) → q < places z → whole z s e_u_f e_v_f q ≡ e_f q
  whole_back q h = go (ltb q (half z)) refl
    where
      go : (t : Bool) → ltb q (half z) ≡ t → whole z s e_u_f e_v_f q ≡ e_f q
      go true t = let l = ltb-true q (half z) t in join_low (half z) (left_of s e_u_f e_v_f) (right_of s e_u_f e_v_f) q l ∙ left_low q l
      go false t =
          let back : half z + (q - half z) ≡ q = omega (arith, ltb-false q (half z) t) in
          subst (λ (a : ℕ). whole z s e_u_f e_v_f a ≡ e_f a) back
          (join_high (half z) (left_of s e_u_f e_v_f) (right_of s e_u_f e_v_f) (q - half z) ∙ right_low (q - half z) (omega (arith, ltb-false q (half z) t)))

  abbrev pairs_f : List ℕ
  pairs_f = f.chosen.pairs

  -- the V order begins with pivots of H_V; the U order ends with the pairs
  pv_f : List ℕ
  pv_f = pivots (rv z) (half z) s.hv (range (half z))

  pv_f_kept : Kept (rv z) (half z) s.hv pv_f
  unfolding pv_f
  pv_f_kept = pivots_kept (rv z) (half z) s.hv (range (half z)) (order_good (half z) (range (half z)) (range_order (half z))).1

  abbrev order_v_f : List ℕ
  order_v_f = pv_f ++ rest (half z) pv_f pv_f_kept.distinct pv_f_kept.below

  abbrev order_u_f : List ℕ
  order_u_f = without pairs_f (range (half z)) ++ pairs_f

  abbrev first_f : List ℕ
  first_f = take (ru z + gap_u z) order_u_f

  -- a value for a pair of the last part
  abbrev pair_f : ℕ → Trit
  pair_f q = cond (is_set (e_v_f q)) t1 (e_u_f q)

  abbrev ch_f : Choices
  ch_f =
      record {
        order_v = order_v_f;
        trits_v = λ j. e_v_f (get_or (without (pivots (rv z) (half z) s.hv (take (rv z + gap_v z) order_v_f)) order_v_f) j 0);
        order_u = order_u_f;
        values_u = λ j. cond (ltb j (gap_u z)) (e_u_f (get_or (without (pivots (ru z) (half z) s.hu first_f) first_f) j 0))
            (pair_f (get_or pairs_f (j - gap_u z) 0));
      }

  order_v_f_good : Order (half z) order_v_f
  order_v_f_good = order_after (half z) pv_f pv_f_kept.distinct pv_f_kept.below

  order_u_f_good : Order (half z) order_u_f
  unfolding rest
  order_u_f_good = order_before (half z) pairs_f f.chosen.distinct f.chosen.below

  both : (q : ℕ) → elem q pairs_f ≡ true → (forced s e_v_f q (e_u_f q) ≡ e_u_f q) × (e_v_f q ≡ t0 → is_set (e_u_f q) ≡ true)
  both q m =
      let h = f.chosen.below q m in
      pair_forced s e_u_f e_v_f q (bu.unit q h) (ap is_set (left_low q h) ∙ (f.both_nonzero q m).0) (ap is_set (right_low q h) ∙ (f.both_nonzero q m).1)

  pair_value : (j : ℕ) → ch_f.values_u (gap_u z + j) ≡ pair_f (get_or pairs_f j 0)
  pair_value j =
      let t : (gap_u z + j) - gap_u z ≡ j = omega arith in
      rw (le-ltb (gap_u z + j) (gap_u z) (omega arith), t)

  pair_set : (q : ℕ) → elem q pairs_f ≡ true → is_set (pair_f q) ≡ true
  pair_set q m = go (zero_or (e_v_f q))
    where
      go : (e_v_f q ≡ t0) ⊎ (is_set (e_v_f q) ≡ true) → is_set (pair_f q) ≡ true
      go (inl t) = rw (ap is_set t) ((both q m).1 t)
      go (inr t) = rw t

  pair_takes : (q : ℕ) → elem q pairs_f ≡ true → forced s e_v_f q (pair_f q) ≡ e_u_f q
  pair_takes q m = go (zero_or (e_v_f q))
    where
      go : (e_v_f q ≡ t0) ⊎ (is_set (e_v_f q) ≡ true) → forced s e_v_f q (pair_f q) ≡ e_u_f q
      go (inl t) = rw (ap is_set t)
      go (inr t) = let c = (both q m).0 in rw t (rw t at c)

  valid_f : Valid z ch_f
  valid_f =
      record {
        order_v = order_v_f_good;
        order_u = order_u_f_good;
        values = λ j h. ap is_set (pair_value j) ∙ pair_set (get_or pairs_f j 0) (elem_at pairs_f j (omega (arith, h, f.chosen.size)));
      }

  rest_size : length (without pairs_f (range (half z))) ≡ ru z + gap_u z
  unfolding rest
  rest_size = omega (arith, rest_length (half z) pairs_f f.chosen.distinct f.chosen.below, f.chosen.size, bu.ranges.ku_low, bu.ranges.gu_low)

  first_is : first_f ≡ without pairs_f (range (half z))
  first_is = take_at (without pairs_f (range (half z))) pairs_f (ru z + gap_u z) rest_size

  last_is : drop (ru z + gap_u z) order_u_f ≡ pairs_f
  last_is = drop_at (without pairs_f (range (half z))) pairs_f (ru z + gap_u z) rest_size

  full_v_f : length (pivots_v z s ch_f) ≡ rv z
  unfolding pivots_v rank pv_f
  full_v_f =
      (rank_iff (rv z) (half z) s.hv (take (rv z + gap_v z) order_v_f) (first_below (half z) (rv z + gap_v z) order_v_f order_v_f_good)).1
      (λ v. spans_mono (rv z) (half z) s.hv pv_f (take (rv z + gap_v z) order_v_f) v
      (λ q m. subst (λ (l : List ℕ). elem q l ≡ true) (sym shape) (elem_append q pv_f (take (gap_v z) after) ∙ (rw m)))
      (kept_spans (rv z) (half z) s.hv pv_f pv_f_kept bu.full_v_here v))
    where
      after : List ℕ
      after = rest (half z) pv_f pv_f_kept.distinct pv_f_kept.below

      shape : take (rv z + gap_v z) order_v_f ≡ pv_f ++ take (gap_v z) after
      shape = ap (λ (a : ℕ). take (a + gap_v z) (pv_f ++ after)) (sym bu.full_v_here) ∙ take-append-add pv_f after (gap_v z)

  full_u_f : length (pivots_u z s ch_f) ≡ ru z
  unfolding pivots_u rank
  full_u_f = ap (λ (l : List ℕ). length (pivots (ru z) (half z) s.hu l)) first_is ∙ f.keeps_rank

  abbrev x_f : Vector
  x_f = start z (key_order z s order) y

  parts_f : Parts z s order bu y e_f
  parts_f = (syndrome_parts z s order bu y e).0 f.has_syndrome

  drawn_v : draw_v z s (v_of z s x_f) ch_f ≡ e_v_f
  unfolding draw_v supplied_v pivots_v
  drawn_v =
      ap or_zeros
      (solve_is (rv z) (half z) s.hv (pivots_v z s ch_f) (kept_v z s ch_f valid_f) (times (half z) s.hv (v_of z s x_f)) e_v_f (supplied_v z s ch_f)
      (λ q m. off q m (ltb q (half z)) refl)
      (λ i h. dot_right (half z) (s.hv i) e_v_f (v_of z s e_f) e_v_low ∙ parts_f.part_v i h))
    where
      others_v : List ℕ
      others_v = without (pivots_v z s ch_f) order_v_f

      off : (q : ℕ) → elem q (pivots_v z s ch_f) ≡ false → (t : Bool) → ltb q (half z) ≡ t → e_v_f q ≡ supplied_v z s ch_f q
      off q m true t =
          sym (fill_own others_v e_v_f ch_f.trits_v zeros q (without_distinct (pivots_v z s ch_f) order_v_f (order_good (half z) order_v_f order_v_f_good).0)
          (λ j h. refl)
          (without_in (pivots_v z s ch_f) order_v_f q (order_v_f_good.every q (ltb-true q (half z) t)) m))
      off q m false t = rw t (sym (fill_off others_v ch_f.trits_v zeros q (refuted (elem q others_v) none)))
        where
          none : elem q others_v ≡ true → ⊥
          none k = omega (arith, ltb-false q (half z) t, (order_good (half z) order_v_f order_v_f_good).1 q (without_out (pivots_v z s ch_f) order_v_f q k).0)

  drawn_u : draw_u z s (u_of z s x_f) e_v_f ch_f ≡ e_u_f
  unfolding draw_u supplied_u pivots_u
  drawn_u =
      ap or_zeros
      (solve_is (ru z) (half z) s.hu (pivots_u z s ch_f) (kept_u z s ch_f valid_f) (times (half z) s.hu (u_of z s x_f)) e_u_f (supplied_u z s e_v_f ch_f)
      (λ q m. off q m (bool_cases (elem q (last_u z ch_f))) (bool_cases (elem q free)))
      (λ i h. dot_right (half z) (s.hu i) e_u_f (u_of z s e_f) e_u_low ∙ parts_f.part_u i h))
    where
      free : List ℕ
      free = without (pivots_u z s ch_f) first_f

      pa : Distinct first_f × Distinct (last_u z ch_f) × Disjoint first_f (last_u z ch_f)
      pa = parts (half z) (ru z + gap_u z) order_u_f order_u_f_good

      free_size : length free ≡ gap_u z
      free_size =
          omega (
            arith,
            full_u_f,
            ap length first_is,
            rest_size,
            without_length (pivots_u z s ch_f) first_f pa.0 (kept_u z s ch_f valid_f).distinct (λ q m. pivots_elem (ru z) (half z) s.hu first_f q m),
          )

      last_value : (j : ℕ) → j < length (last_u z ch_f)
          → forced s e_v_f (get_or (last_u z ch_f) j 0) (ch_f.values_u (gap_u z + j)) ≡ e_u_f (get_or (last_u z ch_f) j 0)
      last_value j h =
          ap (forced s e_v_f (get_or (last_u z ch_f) j 0)) (pair_value j ∙ ap (λ (l : List ℕ). pair_f (get_or l j 0)) (sym last_is))
          ∙ pair_takes (get_or (last_u z ch_f) j 0) (subst (λ (l : List ℕ). elem (get_or (last_u z ch_f) j 0) l ≡ true) last_is (elem_at (last_u z ch_f) j h))

      off : (q : ℕ) → elem q (pivots_u z s ch_f) ≡ false → (elem q (last_u z ch_f) ≡ true) ⊎ (elem q (last_u z ch_f) ≡ false)
          → (elem q free ≡ true) ⊎ (elem q free ≡ false)
          → e_u_f q ≡ supplied_u z s e_v_f ch_f q
      off q m (inl a) b = sym (fill_own (last_u z ch_f) e_u_f _ (fill free ch_f.values_u zeros) q pa.1 last_value a)
      off q m (inr a) (inl b) =
          sym (fill_off (last_u z ch_f) (λ j. forced s e_v_f (get_or (last_u z ch_f) j 0) (ch_f.values_u (gap_u z + j))) (fill free ch_f.values_u zeros) q a
          ∙ fill_own free e_u_f ch_f.values_u zeros q (without_distinct (pivots_u z s ch_f) first_f pa.0)
          (λ j h. rw (lt-ltb j (gap_u z) (omega (arith, h, free_size)))) b)
      off q m (inr a) (inr b) =
          past (ltb q (half z)) refl ∙ sym (fill_off (last_u z ch_f) (λ j. forced s e_v_f (get_or (last_u z ch_f) j 0) (ch_f.values_u (gap_u z + j)))
          (fill free ch_f.values_u zeros) q a ∙ fill_off free ch_f.values_u zeros q b)
        where
          part : (elem q first_f ≡ true) ⊎ (elem q (last_u z ch_f) ≡ true) → ⊥
          part (inl k) = true≢false (sym (without_in (pivots_u z s ch_f) first_f q k m) ∙ b)
          part (inr k) = true≢false (sym k ∙ a)

          past : (t : Bool) → ltb q (half z) ≡ t → e_u_f q ≡ t0
          past true t = absurd (part (either_part (half z) (ru z + gap_u z) order_u_f order_u_f_good q (ltb-true q (half z) t)))
          past false t = rw t

  drawn_is : (i : ℕ) → i < places z → drawn z s (key_order z s order) y ch_f i ≡ e i
  unfolding drawn
  drawn_is i h =
      let o = (build_ends z s order bu).order in
      let g = order_good (places z) (key_order z s order) o in
      let l = elem_at (key_order z s order) i (omega (arith, o.size)) in
      rw (drawn_v, drawn_u)
      (whole_back (get_or (key_order z s order) i 0) (g.1 (get_or (key_order z s order) i 0) l)
      ∙ fill_at (key_order z s order) e zeros i g.0 (omega (arith, o.size)))

  terms_released : Releases z s (key_order z s order) y e
  terms_released =
      record {
        choices = ch_f;
        given = valid_choices z ch_f valid_f;
        passed = passes_released z s (key_order z s order) y ch_f
            (record { full_v = full_v_f; full_u = full_u_f; weighs = weight_same (places z) (drawn z s (key_order z s order) y ch_f) e drawn_is ∙ f.weighs });
        word = drawn_is;
      }

-- ---- for a key that a build released, and its rows as they were released

-- the build passed its tests, and they do not speak of the gaps and w
pub released_builds : (z : Sizes) (s : Secret) (start p : List ℕ) (R : Key) → Released z s start p R → (gv gu w : ℕ)
    → sizes_fit (sized z gv gu w) ≡ true → Builds (sized z gv gu w) s start
released_builds z s start p R re gv gu w h =
    let b = build_passed z s start re.given re.passed in
    record { ranges = sizes_fit_law (sized z gv gu w) h; unit = b.unit; order = b.order; full_u_here = b.full_u_here; full_v_here = b.full_v_here }

-- the terms read no gap and no w of the sizes that they are given, and are the same under a key with the same rows
terms_sized : (z : Sizes) (gap other weight gu w : ℕ) (s : Secret) (p : List ℕ) (R Q : Key) (y e : Vector)
    → ((i j : ℕ) → i < dim z → j < codim z → R i j ≡ Q i j) → Terms z gu w s p R y e → Terms (sized z gap other weight) gu w s p Q y e
terms_sized z gap other weight gu w s p R Q y e same f =
    record {
      weighs = f.weighs;
      has_syndrome = λ j l. syndrome_cong (codim z) (dim z) Q R e e (λ q b. refl) (λ i j a b. sym (same i j a b)) j l ∙ f.has_syndrome j l;
      chosen = f.chosen;
      both_nonzero = f.both_nonzero;
      keeps_rank = f.keeps_rank;
    }

-- demand 3: for any key that a build released, any gaps and w allowed, any y and any word, some draw releases the word exactly when the terms hold
pub reach : (z : Sizes) (s : Secret) (start p : List ℕ) (R : Key) → Released z s start p R
    → (gv gu w : ℕ) → sizes_fit (sized z gv gu w) ≡ true → (y e : Vector)
    → Releases (sized z gv gu w) s p y e ↔ Terms z gu w s p R y e
unfolding secret_matrix
reach z s start p R re gv gu w h y e = (
  (λ r. subst (λ (p : List ℕ). Terms z gu w s p R y e) (sym re.order)
      (terms_sized (sized z gv gu w) z.gv z.gu z.w gu w s (key_order z s start) (key_row z s start) R y e (λ i j a b. sym (re.rows i j a b))
      (released_terms (sized z gv gu w) s start y e bu (subst (λ (p : List ℕ). Releases (sized z gv gu w) s p y e) re.order r)))),
  λ t. subst (λ (p : List ℕ). Releases (sized z gv gu w) s p y e) (sym re.order)
      (terms_released (sized z gv gu w) s start y e bu
      (terms_sized z gv gu w gu w s (key_order z s start) R (key_row z s start) y e re.rows
      (subst (λ (p : List ℕ). Terms z gu w s p R y e) re.order t))),
)
  where
    bu : Builds (sized z gv gu w) s start
    bu = released_builds z s start p R re gv gu w h
