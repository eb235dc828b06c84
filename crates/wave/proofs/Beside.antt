-- The cases beside the stars, by computation. Assumes nothing.
use mathlib.Core.Path.{◌≡◌, refl, sym, ap}
use mathlib.Core.Bool.{true, true≢false}
use mathlib.Core.Logic.{◌⊎◌, inl, inr}
use mathlib.Core.List.{List, [], ◌∷◌}
use Prim.Native.Nat.{ℕ, zero, suc, ◌<◌}
use native.Mathlib.Omega.{arith}
use borrow.Author.Tests.{ne_eqb}
use lib.ListN.{length, get_or}
use Rattle.trits.specs.Trit.{number, is_set, dot_v, any_to, sum_to, up_to}
use Rattle.trits.specs.Planes.{bit, from_bits, bit_at, trit_at, tabulate, ones_of, twos_of, zero_words, both_set, past_end}
use Rattle.trits.specs.Rows.{rows_of, row_part, matrix_at, put_words, rows_past_end}
use Rattle.trits.specs.Refusal.{first, space_exit, planes_refusal}
use Rattle.packed.specs.Packed.{byte_of, digit_of, packed_row, packed_bytes, bad_byte, packed_past_end, packed_refusal}
use Rattle.packed.specs.Calls.{pack_refusal_under, pack_exit}
use Rattle.matrix.specs.Linear.{Vector, elem, agree, find, solve, in_span, keep, pivots, rank, without, fill, range}
use Rattle.matrix.specs.Orders.{is_order}
use Rattle.trits.specs.InDigits.{vector, digit_rows}
use Rattle.matrix.proofs.Places.{elem_at}
use Rattle.verdict.specs.Verdict.{times_key, full_word, full_counts, syndrome}
use Rattle.held_key.specs.Held.{numbers_fit_under, sound_under, held_row_under, held_key_under}
use Rattle.held_key.specs.Store.{begin_refusal_under, begun_held, begin_held, row_refusal_under, store_packed_refusal, next_held, stored_held, stored_plane}
use Rattle.held_key.specs.Load.{offer, offer_all}
use Rattle.check_tests.specs.Check.{call_refusal_under, packed_lengths, packed_contents_under, check_packed_refusal_under, held_counts_under, answered}
use Rattle.check_tests.specs.Check.{check_packed_answer_under}
use Rattle.scheme.specs.Sizes.{gaps_fit, sizes_fit_under}
use Rattle.scheme.specs.Secret.{no_zero, secret_matrix, has_zero}
use Rattle.scheme.specs.Build.{arrange, arranged, row_of_r, build_refusal}
use Rattle.scheme.specs.Draw.{choices_fit, placed, pivots_v, supplied_v, draw_v, pivots_u, supplied_u, draw_u, drawn, draw_refusal}
use Rattle.calls.specs.Lent.{secret_differs, secret_refusal_under}
use Rattle.calls.specs.BuildCall.{key_differs, build_lengths_differ, build_answer_under, order_exit_under}
use Rattle.calls.specs.BuildCall.{key_ones_of, key_twos_of, key_exit_under, build_work_exit_under}
use Rattle.calls.specs.DrawCall.{choices_differ, draw_lengths_differ, choices_refusal_under, draw_answer_under}
use Rattle.calls.specs.DrawCall.{word_of, word_exit, word_exit_under, s_exit_under}
use Rattle.calls.specs.DrawCall.{draw_work_exit_under}
use Rattle.wave.specs.Terms.{Terms, built_key, LentSyndrome, HandsOut}
use Rattle.wave.specs.Examples.{sizes4, secret4, start1, key1, p2, key2, y4, draw4}
use Rattle.wave.specs.Beside.{Beside, secret_r, key_r}

-- ---- the places below 2, and the list of place 0

zero_or_one : (q : ℕ) → q < 2 → (q ≡ 0) ⊎ (q ≡ 1)
zero_or_one zero h = inl refl
zero_or_one (suc zero) h = inr refl
zero_or_one (suc (suc q)) h = absurd (omega arith)

only_zero : (q : ℕ) → elem q (0 ∷ []) ≡ true → q ≡ 0
only_zero zero e = refl
only_zero (suc q) e = absurd (true≢false (sym (rw (ne_eqb (suc q) 0 (λ z. absurd (omega arith))) at e)))

-- ---- words that meet the terms

meets_2111 : Terms (sizes4 0 0 4) 0 4 secret4 start1 key1 y4 (vector (2 ∷ 1 ∷ 1 ∷ 1 ∷ []))
unfolding dot_v any_to sum_to agree find solve in_span keep pivots rank without fill range times_key syndrome
meets_2111 = record {
  weighs = refl;
  has_syndrome = λ j h. by j (zero_or_one j h);
  chosen = record { pairs = 0 ∷ []; distinct = (refl, tt); size = refl; below = λ q e. omega (arith, only_zero q e) };
  both_nonzero = λ q e. rw (only_zero q e) (refl, refl);
  keeps_rank = refl;
}
  where
    by : (j : ℕ) → (j ≡ 0) ⊎ (j ≡ 1) → syndrome 2 2 key1 (vector (2 ∷ 1 ∷ 1 ∷ 1 ∷ [])) j ≡ y4 j
    by j (inl z) = rw z refl
    by j (inr z) = rw z refl

meets_0011 : Terms (sizes4 0 0 4) 0 2 secret4 p2 key2 y4 (vector (0 ∷ 0 ∷ 1 ∷ 1 ∷ []))
unfolding dot_v any_to sum_to agree find solve in_span keep pivots rank without fill range times_key syndrome
meets_0011 = record {
  weighs = refl;
  has_syndrome = λ j h. by j (zero_or_one j h);
  chosen = record { pairs = 0 ∷ []; distinct = (refl, tt); size = refl; below = λ q e. omega (arith, only_zero q e) };
  both_nonzero = λ q e. rw (only_zero q e) (refl, refl);
  keeps_rank = refl;
}
  where
    by : (j : ℕ) → (j ≡ 0) ⊎ (j ≡ 1) → syndrome 2 2 key2 (vector (0 ∷ 0 ∷ 1 ∷ 1 ∷ [])) j ≡ y4 j
    by j (inl z) = rw z refl
    by j (inr z) = rw z refl

meets_1200 : Terms (sizes4 0 0 4) 1 2 secret4 start1 key1 y4 (vector (1 ∷ 2 ∷ 0 ∷ 0 ∷ []))
unfolding dot_v any_to sum_to agree find solve in_span keep pivots rank without fill range times_key syndrome
meets_1200 = record {
  weighs = refl;
  has_syndrome = λ j h. by j (zero_or_one j h);
  chosen = record { pairs = []; distinct = tt; size = refl; below = λ q e. absurd (true≢false (sym e)) };
  both_nonzero = λ q e. absurd (true≢false (sym e));
  keeps_rank = refl;
}
  where
    by : (j : ℕ) → (j ≡ 0) ⊎ (j ≡ 1) → syndrome 2 2 key1 (vector (1 ∷ 2 ∷ 0 ∷ 0 ∷ [])) j ≡ y4 j
    by j (inl z) = rw z refl
    by j (inr z) = rw z refl

-- ---- words that miss one of them

weight_0212 : Terms (sizes4 0 0 4) 0 4 secret4 start1 key1 y4 (vector (0 ∷ 2 ∷ 1 ∷ 2 ∷ [])) → ⊥
unfolding sum_to
weight_0212 t = let three : ◌≡◌ {A = ℕ} 3 4 = t.weighs in absurd (omega arith)

syndrome_1111 : Terms (sizes4 0 0 4) 0 4 secret4 start1 key1 y4 (vector (1 ∷ 1 ∷ 1 ∷ 1 ∷ [])) → ⊥
unfolding dot_v times_key syndrome
syndrome_1111 t = let other : ◌≡◌ {A = ℕ} 0 1 = ap number (t.has_syndrome 0 (omega arith)) in absurd (omega arith)

-- the pair that is asked for is 0 or 1
right_1200 : Terms (sizes4 0 0 4) 0 2 secret4 start1 key1 y4 (vector (1 ∷ 2 ∷ 0 ∷ 0 ∷ [])) → ⊥
unfolding fill
right_1200 t = at (get_or t.chosen.pairs 0 0) (elem_at t.chosen.pairs 0 (omega (arith, t.chosen.size)))
  where
    by : (q : ℕ) → elem q t.chosen.pairs ≡ true → (q ≡ 0) ⊎ (q ≡ 1) → ⊥
    by q m (inl z) = true≢false (sym (rw z at (t.both_nonzero q m).1))
    by q m (inr z) = true≢false (sym (rw z at (t.both_nonzero q m).1))

    at : (q : ℕ) → elem q t.chosen.pairs ≡ true → ⊥
    at q m = by q m (zero_or_one q (t.chosen.below q m))

left_0022 : Terms (sizes4 0 0 4) 0 2 secret4 start1 key1 y4 (vector (0 ∷ 0 ∷ 2 ∷ 2 ∷ [])) → ⊥
unfolding fill
left_0022 t = at (get_or t.chosen.pairs 0 0) (elem_at t.chosen.pairs 0 (omega (arith, t.chosen.size)))
  where
    by : (q : ℕ) → elem q t.chosen.pairs ≡ true → (q ≡ 0) ⊎ (q ≡ 1) → ⊥
    by q m (inl z) = true≢false (sym (rw z at (t.both_nonzero q m).0))
    by q m (inr z) = true≢false (sym (rw z at (t.both_nonzero q m).0))

    at : (q : ℕ) → elem q t.chosen.pairs ≡ true → ⊥
    at q m = by q m (zero_or_one q (t.chosen.below q m))

-- the pair is 0, since pair 1 has no left trit; and the other column of H_U is 0
rank_1010 : Terms (sizes4 0 0 4) 0 2 secret_r start1 key_r y4 (vector (1 ∷ 0 ∷ 1 ∷ 0 ∷ [])) → ⊥
unfolding dot_v any_to agree find solve in_span keep pivots rank without fill range
rank_1010 t = by t.chosen.pairs t.chosen.size t.chosen.below (λ q m. (t.both_nonzero q m).0) t.keeps_rank
  where
    by : (ps : List ℕ) → length ps ≡ 1 → ((q : ℕ) → elem q ps ≡ true → q < 2)
        → ((q : ℕ) → elem q ps ≡ true → is_set (placed start1 (vector (1 ∷ 0 ∷ 1 ∷ 0 ∷ [])) q) ≡ true)
        → rank 1 2 secret_r.hu (without ps (range 2)) ≡ 1 → ⊥
    by [] s b l r = absurd (omega (arith, s))
    by (zero ∷ []) s b l r = let none : ◌≡◌ {A = ℕ} 0 1 = r in absurd (omega arith)
    by (suc zero ∷ []) s b l r = true≢false (sym (l 1 refl))
    by (suc (suc q) ∷ []) s b l r = absurd (omega (arith, b (suc (suc q)) (elem_at (suc (suc q) ∷ []) 0 (omega arith))))
    by (p ∷ q ∷ ps) s b l r = absurd (omega (arith, s))

-- ---- a syndrome and a release

lent_12 : LentSyndrome (sizes4 0 0 4) (1 ∷ []) (2 ∷ [])
unfolding any_to bit bit_at both_set past_end row_part rows_past_end planes_refusal
lent_12 = record { ones_size = refl; twos_size = refl; contents = refl }

refused_both : LentSyndrome (sizes4 0 0 4) (1 ∷ []) (1 ∷ []) → ⊥
unfolding any_to bit bit_at both_set past_end row_part rows_past_end planes_refusal
refused_both t = let three : ◌≡◌ {A = ℕ} 3 0 = t.contents in absurd (omega arith)

not_2221 : HandsOut (sizes4 0 0 4) (draw4 start1 0 1 1 0) (vector (2 ∷ 2 ∷ 2 ∷ 1 ∷ [])) → ⊥
unfolding dot_v any_to sum_to up_to bit from_bits bit_at trit_at tabulate ones_of twos_of both_set past_end row_part matrix_at rows_past_end first
    planes_refusal agree find
    solve in_span keep pivots rank without fill range is_order gaps_fit sizes_fit_under pivots_v supplied_v draw_v pivots_u supplied_u draw_u drawn draw_refusal
    secret_differs has_zero secret_refusal_under choices_differ draw_lengths_differ choices_refusal_under draw_answer_under word_of word_exit_under
not_2221 h = let other : ◌≡◌ {A = ℕ} 1 2 = ap number (h.word 1 (omega arith)) in absurd (omega arith)

none_0212 : (e : Vector) → HandsOut (sizes4 0 0 4) (draw4 start1 1 0 1 0) e → ⊥
unfolding dot_v any_to sum_to up_to bit from_bits bit_at trit_at tabulate both_set past_end row_part matrix_at rows_past_end first planes_refusal
    agree find solve in_span
    keep pivots rank without fill range is_order gaps_fit sizes_fit_under pivots_v supplied_v draw_v pivots_u supplied_u draw_u drawn draw_refusal
    secret_differs
    has_zero secret_refusal_under choices_differ draw_lengths_differ choices_refusal_under draw_answer_under
none_0212 e h = let fourteen : ◌≡◌ {A = ℕ} 14 0 = h.passed in absurd (omega arith)

hands_2111 : HandsOut (sizes4 0 0 4) (draw4 start1 0 1 1 0) (vector (2 ∷ 1 ∷ 1 ∷ 1 ∷ []))
unfolding dot_v any_to sum_to up_to bit from_bits bit_at trit_at tabulate ones_of twos_of both_set past_end row_part matrix_at rows_past_end first
    planes_refusal agree find
    solve in_span keep pivots rank without fill range is_order gaps_fit sizes_fit_under pivots_v supplied_v draw_v pivots_u supplied_u draw_u drawn draw_refusal
    secret_differs has_zero secret_refusal_under choices_differ draw_lengths_differ choices_refusal_under draw_answer_under word_of word_exit_under
hands_2111 = record { passed = refl; word = λ q h. by q (places_below q h) }
  where
    by : (q : ℕ) → (q ≡ 0) ⊎ (q ≡ 1) ⊎ (q ≡ 2) ⊎ (q ≡ 3)
        → trit_at (word_exit (sizes4 0 0 4) (draw4 start1 0 1 1 0)).ones (word_exit (sizes4 0 0 4) (draw4 start1 0 1 1 0)).twos q
        ≡ vector (2 ∷ 1 ∷ 1 ∷ 1 ∷ []) q
    by q (inl z) = rw z refl
    by q (inr (inl z)) = rw z refl
    by q (inr (inr (inl z))) = rw z refl
    by q (inr (inr (inr z))) = rw z refl

    places_below : (q : ℕ) → q < 4 → (q ≡ 0) ⊎ (q ≡ 1) ⊎ (q ≡ 2) ⊎ (q ≡ 3)
    places_below zero h = inl refl
    places_below (suc zero) h = inr (inl refl)
    places_below (suc (suc zero)) h = inr (inr (inl refl))
    places_below (suc (suc (suc zero))) h = inr (inr (inr refl))
    places_below (suc (suc (suc (suc q)))) h = absurd (omega arith)

-- ---- all of them

pub beside : Beside
unfolding dot_v any_to sum_to up_to bit from_bits bit_at trit_at tabulate ones_of twos_of zero_words both_set past_end rows_of row_part matrix_at
    put_words rows_past_end
    first planes_refusal byte_of digit_of packed_row packed_bytes bad_byte packed_past_end packed_refusal pack_refusal_under pack_exit agree find solve
    in_span keep
    pivots rank without fill range is_order digit_rows times_key full_word full_counts numbers_fit_under sound_under held_row_under held_key_under
    begin_refusal_under
    begun_held begin_held row_refusal_under store_packed_refusal next_held stored_held stored_plane offer offer_all call_refusal_under packed_lengths
    packed_contents_under
    check_packed_refusal_under held_counts_under answered check_packed_answer_under gaps_fit sizes_fit_under no_zero secret_matrix arrange arranged row_of_r
    build_refusal
    choices_fit pivots_v supplied_v draw_v pivots_u supplied_u draw_u drawn draw_refusal secret_differs has_zero secret_refusal_under space_exit key_differs
    build_lengths_differ build_answer_under order_exit_under key_ones_of key_twos_of key_exit_under build_work_exit_under choices_differ draw_lengths_differ
    choices_refusal_under draw_answer_under word_of word_exit_under s_exit_under draw_work_exit_under built_key
beside = record {
  word_1200 = refl;
  released_1200 = refl;
  given_1200 = refl;
  word_1200_equal = refl;
  released_1200_equal = refl;
  refused_1200 = refl;
  answer_1200 = refl;
  word_1121 = refl;
  answer_1121 = refl;
  ones_1121 = refl;
  twos_1121 = refl;
  refused_0023 = refl;
  p_0023 = refl;
  key_ones_0023 = refl;
  key_twos_0023 = refl;
  work_0023 = refl;
  refused_zero = refl;
  ones_zero = refl;
  work_zero = refl;
  meets_2111 = meets_2111;
  meets_0011 = meets_0011;
  meets_1200 = meets_1200;
  weight_0212 = weight_0212;
  syndrome_1111 = syndrome_1111;
  right_1200 = right_1200;
  left_0022 = left_0022;
  rank_1010 = rank_1010;
  key_0123 = refl;
  lent_12 = lent_12;
  refused_both = refused_both;
  under_1302 = record { secret_is = refl; order_is = refl };
  hands_2111 = hands_2111;
  not_2221 = not_2221;
  none_0212 = none_0212;
  carried_2111 = refl;
  carried_2221 = refl;
  carried_0102 = refl;
  carried_1200 = refl;
}
