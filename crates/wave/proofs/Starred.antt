-- The starred cases, by computation; that no draw makes 1200, by the terms: a pair with both trits not 0 would have a trit of s. Assumes nothing.
use mathlib.Core.Path.{◌≡◌, refl, sym, ap, ap₂, ◌∙◌, subst}
use mathlib.Core.Bool.{true}
use mathlib.Core.List.{List, [], ◌∷◌}
use Prim.Native.Nat.{ℕ, zero, suc, ◌+◌, ◌-◌, ◌<◌}
use native.Mathlib.Omega.{arith}
use lib.ListN.{get_or}
use Rattle.trits.specs.Trit.{t0, is_set, dot_v, any_to, sum_to, up_to}
use Rattle.trits.specs.Planes.{bit, from_bits, bit_at, trit_at, tabulate, ones_of, twos_of, zero_words, both_set, past_end}
use Rattle.trits.specs.Rows.{rows_of, row_part, matrix_at, rows_past_end}
use Rattle.trits.specs.Refusal.{first, space_exit, planes_refusal}
use Rattle.trits.proofs.Ends.{upto_in}
use Rattle.packed.specs.Packed.{byte_of, digit_of, packed_row, packed_bytes, bad_byte, packed_past_end, packed_refusal}
use Rattle.packed.specs.Calls.{pack_refusal_under, pack_exit, unpack_refusal, unpack_ones, unpack_twos}
use Rattle.matrix.specs.Linear.{Vector, agree, find, solve, in_span, keep, pivots, rank, without, fill, range}
use Rattle.matrix.specs.Orders.{is_order}
use Rattle.trits.specs.InDigits.{digit_rows}
use Rattle.matrix.proofs.Field.{set_not}
use Rattle.matrix.proofs.Places.{elem_at}
use Rattle.verdict.specs.Verdict.{times_key, full_word, full_counts, says_yes}
use Rattle.held_key.specs.Held.{numbers_fit_under, sound_under, held_row_under, held_key_under}
use Rattle.check_tests.specs.Check.{call_refusal_under, packed_lengths, packed_contents_under, check_packed_refusal_under, held_counts_under, answered}
use Rattle.check_tests.specs.Check.{check_packed_answer_under}
use Rattle.scheme.specs.Sizes.{gaps_fit, sizes_fit_under}
use Rattle.scheme.specs.Secret.{secret_matrix, has_zero}
use Rattle.scheme.specs.Build.{arrange, arranged, row_of_r, build_refusal}
use Rattle.scheme.specs.Draw.{placed, signature, pivots_v, supplied_v, draw_v, pivots_u, supplied_u, draw_u, drawn, draw_refusal}
use Rattle.calls.specs.Lent.{secret_differs, secret_refusal_under}
use Rattle.calls.specs.BuildCall.{key_differs, build_lengths_differ, build_answer, build_answer_under, order_exit, order_exit_under, key_ones_of, key_twos_of}
use Rattle.calls.specs.BuildCall.{key_exit_under, build_work_exit_under}
use Rattle.calls.specs.DrawCall.{choices_differ, draw_lengths_differ, choices_refusal_under, draw_answer_under, word_of, word_exit_under, s_exit_under}
use Rattle.calls.specs.DrawCall.{draw_work_exit_under}
use Rattle.wave.specs.Examples.{sizes4, start1, build4}
use Rattle.wave.specs.Starred.{NoDrawMakes1200, gap4, Starred}
use Rattle.wave.proofs.ReachCalls.{handed_signature, drawn_terms}

-- ---- the first key as a call, by computation

first_built : build_answer (sizes4 0 0 4) (build4 start1) ≡ 0
unfolding dot_v any_to bit bit_at trit_at both_set past_end row_part matrix_at rows_past_end first planes_refusal agree find solve in_span keep
    pivots rank range
    is_order gaps_fit sizes_fit_under build_refusal secret_differs has_zero secret_refusal_under key_differs build_lengths_differ build_answer_under
first_built = refl

first_order : order_exit (sizes4 0 0 4) (build4 start1) ≡ start1
unfolding dot_v any_to bit bit_at trit_at both_set past_end row_part matrix_at rows_past_end first planes_refusal agree find solve in_span keep
    pivots rank range
    is_order gaps_fit sizes_fit_under secret_matrix arrange arranged build_refusal secret_differs has_zero secret_refusal_under key_differs build_lengths_differ
    build_answer_under order_exit_under
first_order = refl

-- ---- the star over every call

zeros_at : (i : ℕ) → i < 2 → trit_at (0 ∷ []) (0 ∷ []) i ≡ t0
unfolding bit bit_at trit_at
zeros_at zero h = refl
zeros_at (suc zero) h = refl
zeros_at (suc (suc i)) h = absurd (omega arith)

-- where k_U - g_U is 1, the word of a draw has a pair with both trits not 0, and its right trit is one of s
never : (gu : ℕ) → 1 - gu ≡ 1 → NoDrawMakes1200 gu
unfolding fill
never gu one gv l u d s1 s2 =
    let t = drawn_terms (sizes4 0 0 4) (build4 start1) first_built gv gu 2 l u d in
    let q = get_or t.chosen.pairs 0 0 in
    let m = elem_at t.chosen.pairs 0 (omega (arith, t.chosen.size, one)) in
    right q (t.chosen.below q m) (subst (λ (p : List ℕ). is_set (placed p e (2 + q)) ≡ true) first_order (t.both_nonzero q m).1)
  where
    e : Vector
    e = word_of (sizes4 gv gu 2) l

    none : (i : ℕ) → i < 2 → e (2 + i) ≡ t0
    none i h =
        sym (upto_in (signature (sizes4 gv gu 2) e) 2 i h) ∙ sym (ap (λ (v : Vector). v i) (handed_signature (sizes4 gv gu 2) l d))
        ∙ ap₂ (λ (a b : List ℕ). trit_at a b i) s1 s2 ∙ zeros_at i h

    right : (q : ℕ) → q < 2 → is_set (placed start1 e (2 + q)) ≡ true → ⊥
    right zero h c = set_not c (none 0 (omega arith))
    right (suc zero) h c = set_not c (none 1 (omega arith))
    right (suc (suc q)) h c = absurd (omega arith)

-- ---- the table

pub starred : Starred
unfolding dot_v any_to sum_to up_to bit from_bits bit_at trit_at tabulate ones_of twos_of zero_words both_set past_end rows_of row_part matrix_at
    rows_past_end first
    planes_refusal byte_of digit_of packed_row packed_bytes bad_byte packed_past_end packed_refusal pack_refusal_under pack_exit unpack_refusal unpack_ones
    unpack_twos
    agree find solve in_span keep pivots rank without fill range is_order digit_rows times_key full_word full_counts says_yes numbers_fit_under sound_under
    held_row_under held_key_under call_refusal_under packed_lengths packed_contents_under check_packed_refusal_under held_counts_under answered
    check_packed_answer_under
    gaps_fit sizes_fit_under secret_matrix arrange arranged row_of_r build_refusal pivots_v supplied_v draw_v pivots_u supplied_u draw_u drawn draw_refusal
    secret_differs
    has_zero secret_refusal_under space_exit key_differs build_lengths_differ build_answer_under order_exit_under key_ones_of key_twos_of key_exit_under
    build_work_exit_under
    choices_differ draw_lengths_differ choices_refusal_under draw_answer_under word_of word_exit_under s_exit_under draw_work_exit_under
starred = record {
  packs_88 = refl;
  packed_88 = refl;
  reads_242 = refl;
  ones_242 = refl;
  twos_242 = refl;
  refused_243 = refl;
  ones_243 = refl;
  twos_243 = refl;
  order_0123 = refl;
  rows_0123 = refl;
  built_0123 = refl;
  p_0123 = refl;
  key_ones_0123 = refl;
  key_twos_0123 = refl;
  work_ones_0123 = refl;
  work_twos_0123 = refl;
  order_1203 = refl;
  rows_1203 = refl;
  built_1203 = refl;
  p_1203 = refl;
  key_ones_1203 = refl;
  key_twos_1203 = refl;
  last_column = refl;
  word_2111 = refl;
  released_2111 = refl;
  other_2111 = refl;
  answer_2111 = refl;
  ones_2111 = refl;
  twos_2111 = refl;
  s_ones_2111 = refl;
  s_twos_2111 = refl;
  word_2221 = refl;
  released_2221 = refl;
  answer_2221 = refl;
  ones_2221 = refl;
  twos_2221 = refl;
  s_ones_2221 = refl;
  s_twos_2221 = refl;
  word_0212 = refl;
  refused_0212 = refl;
  answer_0212 = refl;
  ones_0212 = refl;
  twos_0212 = refl;
  s_ones_0212 = refl;
  s_twos_0212 = refl;
  work_ones_0212 = refl;
  work_twos_0212 = refl;
  word_0102 = refl;
  released_0102 = refl;
  answer_0102 = refl;
  ones_0102 = refl;
  twos_0102 = refl;
  full_1200 = refl;
  accepted_1200 = refl;
  answer_1200 = refl;
  never_1200 = never gap4 refl;
}
