-- A draw looks at k_V of the V trits and at k_U of the U values: those past them may be 0, as they are in lent planes. Assumes nothing.
use mathlib.Core.Path.{◌≡◌, ap, ◌∙◌}
use mathlib.Core.List.{List}
use Prim.Native.Nat.{ℕ, ◌+◌, ◌-◌, ◌<◌}
use native.Mathlib.Omega.{arith}
use lib.ListN.{length, get_or, length-drop}
use lib.Seq.{length-take-le}
use Rattle.trits.specs.Trit.{is_set, up_to}
use Rattle.trits.proofs.Counting.{weight_same}
use Rattle.trits.proofs.Ends.{upto_in}
use Rattle.matrix.specs.Linear.{Vector, zeros, times, solve, or_zeros, without, fill}
use Rattle.matrix.proofs.Greedy.{pivots_elem}
use Rattle.matrix.proofs.Orders.{order_good}
use Rattle.matrix.proofs.Counts.{without_length}
use Rattle.matrix.proofs.Places.{fill_same}
use Rattle.scheme.specs.declared.sizes.Sizes.{Sizes}
use Rattle.scheme.specs.Sizes.{half, places, ru, rv, codim, gap_v, gap_u}
use Rattle.scheme.specs.Secret.{Secret, join, u_of, v_of, whole}
use Rattle.scheme.specs.Draw.{Choices, placed, first_v, pivots_v, supplied_v, draw_v, first_u}
use Rattle.scheme.specs.Draw.{pivots_u, last_u, forced, supplied_u, draw_u, drawn, draw_refusal}
use Rattle.scheme.proofs.Ranges.{Ranges}
use Rattle.scheme_laws.proofs.Draws.{Valid, choices_valid, Passes, passes_released, released_passes, parts, first_in, kept_v, kept_u}
use Rattle.wave.specs.Vectors.{Releases}

-- the choices with 0 past the trits that there are
abbrev pub cut : Sizes → Choices → Choices
cut z ch = record { order_v = ch.order_v; trits_v = up_to z.kv ch.trits_v; order_u = ch.order_u; values_u = up_to z.ku ch.values_u }

module _ (z : Sizes) (s : Secret) (ch : Choices) (ra : Ranges z) (va : Valid z ch) where
  module _ (full : length (pivots_v z s ch) ≡ rv z) where
    others_v : length (without (pivots_v z s ch) ch.order_v) ≡ z.kv
    unfolding pivots_v
    others_v =
        let e = without_length (pivots_v z s ch) ch.order_v (order_good (half z) ch.order_v va.order_v).0 (kept_v z s ch va).distinct
        (λ q m. first_in (half z) (rv z + gap_v z) ch.order_v va.order_v q (pivots_elem (rv z) (half z) s.hv (first_v z ch) q m)) in
        omega (arith, e, full, va.order_v.size, ra.kv_low)

    supplied_v_here : supplied_v z s (cut z ch) ≡ supplied_v z s ch
    unfolding supplied_v pivots_v
    supplied_v_here = fill_same (without (pivots_v z s ch) ch.order_v) (up_to z.kv ch.trits_v) ch.trits_v zeros
        (λ j l. upto_in ch.trits_v z.kv j (omega (arith, l, others_v)))

    draw_v_law : (x : Vector) → draw_v z s x (cut z ch) ≡ draw_v z s x ch
    unfolding draw_v pivots_v
    draw_v_law x = ap (λ (f : Vector). or_zeros (solve (rv z) (half z) s.hv (times (half z) s.hv x) (pivots_v z s ch) f)) supplied_v_here

  module _ (full : length (pivots_u z s ch) ≡ ru z) where
    first_size : length (first_u z ch) ≡ ru z + gap_u z
    first_size = length-take-le (ru z + gap_u z) ch.order_u (omega (arith, va.order_u.size, ra.ku_low, ra.gu_low))

    others_u : length (without (pivots_u z s ch) (first_u z ch)) ≡ gap_u z
    unfolding pivots_u
    others_u =
        let e = without_length (pivots_u z s ch) (first_u z ch) (parts (half z) (ru z + gap_u z) ch.order_u va.order_u).0 (kept_u z s ch va).distinct
        (λ q m. pivots_elem (ru z) (half z) s.hu (first_u z ch) q m) in
        omega (arith, e, full, first_size)

    last_size : length (last_u z ch) ≡ z.ku - gap_u z
    last_size = omega (arith, length-drop (ru z + gap_u z) ch.order_u, va.order_u.size, ra.ku_low, ra.gu_low)

    supplied_u_here : (e_v : Vector) → supplied_u z s e_v (cut z ch) ≡ supplied_u z s e_v ch
    unfolding supplied_u pivots_u
    supplied_u_here e_v =
        ap (fill (last_u z ch) (λ j. forced s e_v (get_or (last_u z ch) j 0) (up_to z.ku ch.values_u (gap_u z + j))))
        (fill_same (without (pivots_u z s ch) (first_u z ch)) (up_to z.ku ch.values_u) ch.values_u zeros
        (λ j l. upto_in ch.values_u z.ku j (omega (arith, l, others_u, ra.gu_low))))
        ∙ fill_same (last_u z ch) (λ j. forced s e_v (get_or (last_u z ch) j 0) (up_to z.ku ch.values_u (gap_u z + j)))
        (λ j. forced s e_v (get_or (last_u z ch) j 0) (ch.values_u (gap_u z + j)))
        (fill (without (pivots_u z s ch) (first_u z ch)) ch.values_u zeros)
        (λ j l. ap (forced s e_v (get_or (last_u z ch) j 0)) (upto_in ch.values_u z.ku (gap_u z + j) (omega (arith, l, last_size, ra.gu_low))))

    draw_u_law : (x e_v : Vector) → draw_u z s x e_v (cut z ch) ≡ draw_u z s x e_v ch
    unfolding draw_u pivots_u
    draw_u_law x e_v = ap (λ (f : Vector). or_zeros (solve (ru z) (half z) s.hu (times (half z) s.hu x) (pivots_u z s ch) f)) (supplied_u_here e_v)

  -- the word is the same
  drawn_cut : (p : List ℕ) (y : Vector) → length (pivots_v z s ch) ≡ rv z → length (pivots_u z s ch) ≡ ru z → (i : ℕ)
      → drawn z s p y (cut z ch) i ≡ drawn z s p y ch i
  unfolding drawn
  drawn_cut p y fv fu i =
      let x = placed p (join (codim z) y zeros) in
      let e_v = draw_v z s (v_of z s x) ch in
      ap (λ (v : Vector). whole z s (draw_u z s (u_of z s x) v (cut z ch)) v (get_or p i 0)) (draw_v_law fv (v_of z s x))
      ∙ ap (λ (u : Vector). whole z s u e_v (get_or p i 0)) (draw_u_law fu (u_of z s x) e_v)

-- a draw that releases a word releases it with those choices too
module _ (z : Sizes) (s : Secret) (p : List ℕ) (y e : Vector) (ra : Ranges z) (re : Releases z s p y e) where
  abbrev ch : Choices
  ch = re.choices

  va : Valid z ch
  va = choices_valid z ch re.given

  passes : Passes z s p y ch
  passes = released_passes z s p y ch re.passed

  same : (i : ℕ) → drawn z s p y (cut z ch) i ≡ drawn z s p y ch i
  same = drawn_cut z s ch ra va p y passes.full_v passes.full_u

  pub cut_valid : Valid z (cut z re.choices)
  cut_valid =
      record {
        order_v = va.order_v;
        order_u = va.order_u;
        values = λ j l. ap is_set (upto_in ch.values_u z.ku (gap_u z + j) (omega (arith, l, ra.gu_low))) ∙ va.values j l;
      }

  pub cut_passed : draw_refusal z s p y (cut z re.choices) ≡ 0
  unfolding pivots_v pivots_u
  cut_passed =
      passes_released z s p y (cut z ch) (record {
        full_v = passes.full_v;
        full_u = passes.full_u;
        weighs = weight_same (places z) (drawn z s p y (cut z ch)) (drawn z s p y ch) (λ i l. same i) ∙ passes.weighs;
      })

  pub cut_word : (i : ℕ) → i < places z → drawn z s p y (cut z re.choices) i ≡ e i
  cut_word i l = same i ∙ re.word i l
