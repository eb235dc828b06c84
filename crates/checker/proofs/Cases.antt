-- The paper's example, and the order of refusals, computed from the definitions that the contracts cite. Assumes nothing.
use mathlib.Core.Path.{◌≡◌, refl}
use mathlib.Core.List.{List, [], ◌∷◌}
use mathlib.Core.Bool.{cond}
use Prim.Native.Nat.{ℕ}
use lib.Dec.{eqb}
use Rattle.trits.specs.Trit.{sum_to, dot_v, any_to}
use Rattle.trits.specs.Planes.{bit, bit_at, trit_at, from_bits, tabulate, ones_of, twos_of, both_set, past_end, zero_words}
use Rattle.trits.specs.Rows.{row_part, put_words, rows_past_end}
use Rattle.trits.specs.Refusal.{first, space_exit, planes_refusal}
use Rattle.packed.specs.Packed.{digit_of, packed_row, bad_byte, packed_past_end, packed_refusal}
use Rattle.held_key.specs.declared.state.Held.{Held}
use Rattle.verdict.specs.Verdict.{times_key, full_word, full_counts}
use Rattle.held_key.specs.Held.{numbers_fit_under, sound_under, held_row_under, held_key_under}
use Rattle.held_key.specs.Store.{begin_refusal_under, begun_held, begin_held, packed_store_of, row_refusal_under, store_packed_refusal, next_held}
use Rattle.held_key.specs.Store.{stored_held, stored_plane}
use Rattle.held_key.specs.Load.{offer, offer_all}
use Rattle.check_tests.specs.Check.{call_refusal_under, planes_lengths, planes_contents_under}
use Rattle.check_tests.specs.Check.{packed_lengths, packed_contents_under, held_counts_under, answered}
use Rattle.check_tests.specs.Check.{check_of, check_refusal_under, check_answer, check_answer_under, packed_check_of, check_packed_refusal}
use Rattle.check_tests.specs.Check.{check_packed_refusal_under, check_packed_answer, check_packed_answer_under, check_packed_work_ones, check_packed_work_twos}

-- P 7 4 2 4, over a state of any numbers
abbrev held : ℕ → Held
held rows = record { begun = 1; number = 7; n = 4; k = 2; w = 4; rows = rows }

begun : begin_held (record { begun = 5; number = 999; n = 7; k = 77; w = 777; rows = 7777 }) 7 4 2 4 ≡ held 0
unfolding begin_held begin_refusal_under begun_held numbers_fit_under
begun = refl

-- K 02 and K 22, packed 6 and 8, into words that mean nothing
abbrev rows : ℕ → List ℕ
rows i = cond (eqb i 0) (6 ∷ []) (8 ∷ [])

loaded : offer_all rows 2 (record { held = held 0; ones = 99 ∷ 99 ∷ []; twos = 98 ∷ 98 ∷ [] })
    ≡ record { held = held 2; ones = 0 ∷ 0 ∷ []; twos = 2 ∷ 3 ∷ [] }
unfolding offer_all offer stored_held stored_plane store_packed_refusal first row_refusal_under sound_under numbers_fit_under packed_refusal bad_byte
    packed_past_end
    any_to next_held put_words ones_of twos_of tabulate from_bits packed_row digit_of
loaded = refl

-- a third row is 21
third : store_packed_refusal (packed_store_of (held 2) (0 ∷ 0 ∷ []) (2 ∷ 3 ∷ []) (243 ∷ [])) ≡ 21
unfolding store_packed_refusal first row_refusal_under sound_under numbers_fit_under
third = refl

-- S 7 12 12 11: three 1s and one 2, yes
line_1 : check_packed_answer (packed_check_of (held 2) 7 (0 ∷ 0 ∷ []) (2 ∷ 3 ∷ []) (7 ∷ []) (4 ∷ []) (5 ∷ []) (5 ∷ []))
    ≡ record { refusal = 0; yes = 1; ones = 3; twos = 1 }
unfolding check_packed_answer_under answered check_packed_refusal_under first call_refusal_under sound_under numbers_fit_under packed_lengths
    packed_contents_under
    planes_refusal both_set any_to bit_at bit rows_past_end row_part held_row_under past_end trit_at packed_refusal bad_byte packed_past_end
    held_counts_under full_counts
    sum_to full_word times_key dot_v held_key_under packed_row digit_of
line_1 = refl

-- S 7 13 12 12: one 1 and two 2s, no
line_2 : check_packed_answer (packed_check_of (held 2) 7 (0 ∷ 0 ∷ []) (2 ∷ 3 ∷ []) (7 ∷ []) (7 ∷ []) (5 ∷ []) (5 ∷ []))
    ≡ record { refusal = 0; yes = 0; ones = 1; twos = 2 }
unfolding check_packed_answer_under answered check_packed_refusal_under first call_refusal_under sound_under numbers_fit_under packed_lengths
    packed_contents_under
    planes_refusal both_set any_to bit_at bit rows_past_end row_part held_row_under past_end trit_at packed_refusal bad_byte packed_past_end
    held_counts_under full_counts
    sum_to full_word times_key dot_v held_key_under packed_row digit_of
line_2 = refl

-- S 8 14 12 11: 22
line_3 : check_packed_answer (packed_check_of (held 2) 8 (0 ∷ 0 ∷ []) (2 ∷ 3 ∷ []) (7 ∷ []) (4 ∷ []) (5 ∷ []) (5 ∷ []))
    ≡ record { refusal = 22; yes = 0; ones = 0; twos = 0 }
unfolding check_packed_answer_under answered check_packed_refusal_under first call_refusal_under sound_under numbers_fit_under
line_3 = refl

-- the first of them in planes
line_1_planes : check_answer (check_of (held 2) 7 (0 ∷ 0 ∷ []) (2 ∷ 3 ∷ []) (1 ∷ []) (2 ∷ []) (3 ∷ []) (0 ∷ []) (5 ∷ []) (5 ∷ []))
    ≡ record { refusal = 0; yes = 1; ones = 3; twos = 1 }
unfolding check_answer_under answered check_refusal_under first call_refusal_under sound_under numbers_fit_under planes_lengths planes_contents_under
    planes_refusal both_set
    any_to bit_at bit rows_past_end row_part held_row_under past_end trit_at held_counts_under full_counts sum_to full_word times_key dot_v held_key_under
line_1_planes = refl

-- no key begun before all else; a state out of its ranges before missing rows; these before another key number; that before a length
none : check_packed_refusal (packed_check_of (record { begun = 0; number = 4294967296; n = 5; k = 9; w = 0; rows = 99 }) 8 [] [] [] [] [] []) ≡ 20
unfolding check_packed_refusal_under first call_refusal_under
none = refl

corrupt : check_packed_refusal (packed_check_of (record { begun = 2; number = 7; n = 4; k = 2; w = 4; rows = 1 }) 8 [] [] [] [] [] []) ≡ 1
unfolding check_packed_refusal_under first call_refusal_under sound_under
corrupt = refl

missing : check_packed_refusal (packed_check_of (held 1) 8 [] [] [] [] [] []) ≡ 20
unfolding check_packed_refusal_under first call_refusal_under sound_under numbers_fit_under
missing = refl

other : check_packed_refusal (packed_check_of (held 2) 8 [] [] [] [] [] []) ≡ 22
unfolding check_packed_refusal_under first call_refusal_under sound_under numbers_fit_under
other = refl

-- a key number above its range is 1 in a state, and 22 where it is asked for: 7 and 2 to the power 32, under key 7
above : check_packed_refusal (packed_check_of (record { begun = 1; number = 4294967296; n = 4; k = 2; w = 4; rows = 1 }) 8 [] [] [] [] [] []) ≡ 1
unfolding check_packed_refusal_under first call_refusal_under sound_under numbers_fit_under
above = refl

asked_above : check_packed_refusal (packed_check_of (held 2) 4294967303 [] [] [] [] [] []) ≡ 22
unfolding check_packed_refusal_under first call_refusal_under sound_under numbers_fit_under
asked_above = refl

-- a length before the contents; 4 in one row before 3 in the other, either way round; 3 and 4 before 5
short : check_packed_refusal (packed_check_of (held 2) 7 (4 ∷ 4 ∷ []) (4 ∷ 4 ∷ []) (243 ∷ []) (243 ∷ []) (5 ∷ []) []) ≡ 2
unfolding check_packed_refusal_under first call_refusal_under sound_under numbers_fit_under
short = refl

past_before : check_packed_refusal (packed_check_of (held 2) 7 (4 ∷ 1 ∷ []) (2 ∷ 3 ∷ []) (243 ∷ []) (4 ∷ []) (5 ∷ []) (5 ∷ [])) ≡ 4
unfolding check_packed_refusal_under first call_refusal_under sound_under numbers_fit_under packed_lengths packed_contents_under planes_refusal
    both_set any_to bit_at bit
    rows_past_end row_part past_end
past_before = refl

past_after : check_packed_refusal (packed_check_of (held 2) 7 (2 ∷ 4 ∷ []) (2 ∷ 3 ∷ []) (243 ∷ []) (4 ∷ []) (5 ∷ []) (5 ∷ [])) ≡ 4
unfolding check_packed_refusal_under first call_refusal_under sound_under numbers_fit_under packed_lengths packed_contents_under planes_refusal
    both_set any_to bit_at bit
    rows_past_end row_part past_end
past_after = refl

both : check_packed_refusal (packed_check_of (held 2) 7 (0 ∷ 1 ∷ []) (2 ∷ 3 ∷ []) (243 ∷ []) (4 ∷ []) (5 ∷ []) (5 ∷ [])) ≡ 3
unfolding check_packed_refusal_under first call_refusal_under sound_under numbers_fit_under packed_lengths packed_contents_under planes_refusal
    both_set any_to bit_at bit
    rows_past_end row_part past_end
both = refl

past : check_packed_refusal (packed_check_of (held 2) 7 (4 ∷ 0 ∷ []) (2 ∷ 3 ∷ []) (243 ∷ []) (4 ∷ []) (5 ∷ []) (5 ∷ [])) ≡ 4
unfolding check_packed_refusal_under first call_refusal_under sound_under numbers_fit_under packed_lengths packed_contents_under planes_refusal
    both_set any_to bit_at bit
    rows_past_end row_part past_end
past = refl

large : check_packed_refusal (packed_check_of (held 2) 7 (0 ∷ 0 ∷ []) (2 ∷ 3 ∷ []) (243 ∷ []) (4 ∷ []) (5 ∷ []) (5 ∷ [])) ≡ 5
unfolding check_packed_refusal_under first call_refusal_under sound_under numbers_fit_under packed_lengths packed_contents_under planes_refusal
    both_set any_to bit_at bit
    rows_past_end row_part past_end packed_refusal bad_byte packed_past_end
large = refl

-- a trit past the length: 15 in y comes before 5 in s, 5 in y before 15 in s, and s is tested as y is
past_y : check_packed_refusal (packed_check_of (held 2) 7 (0 ∷ 0 ∷ []) (2 ∷ 3 ∷ []) (9 ∷ []) (243 ∷ []) (5 ∷ []) (5 ∷ [])) ≡ 15
unfolding check_packed_refusal_under first call_refusal_under sound_under numbers_fit_under packed_lengths packed_contents_under planes_refusal
    both_set any_to bit_at bit
    rows_past_end row_part past_end packed_refusal bad_byte packed_past_end packed_row digit_of
past_y = refl

large_y : check_packed_refusal (packed_check_of (held 2) 7 (0 ∷ 0 ∷ []) (2 ∷ 3 ∷ []) (243 ∷ []) (9 ∷ []) (5 ∷ []) (5 ∷ [])) ≡ 5
unfolding check_packed_refusal_under first call_refusal_under sound_under numbers_fit_under packed_lengths packed_contents_under planes_refusal
    both_set any_to bit_at bit
    rows_past_end row_part past_end packed_refusal bad_byte packed_past_end packed_row digit_of
large_y = refl

past_s : check_packed_refusal (packed_check_of (held 2) 7 (0 ∷ 0 ∷ []) (2 ∷ 3 ∷ []) (7 ∷ []) (13 ∷ []) (5 ∷ []) (5 ∷ [])) ≡ 15
unfolding check_packed_refusal_under first call_refusal_under sound_under numbers_fit_under packed_lengths packed_contents_under planes_refusal
    both_set any_to bit_at bit
    rows_past_end row_part past_end packed_refusal bad_byte packed_past_end packed_row digit_of
past_s = refl

-- a row with one is 15, and nothing is stored
past_row : offer (record { held = held 1; ones = 0 ∷ 99 ∷ []; twos = 2 ∷ 98 ∷ [] }) (17 ∷ [])
    ≡ record { held = held 1; ones = 0 ∷ 99 ∷ []; twos = 2 ∷ 98 ∷ [] }
unfolding offer stored_held stored_plane store_packed_refusal first row_refusal_under sound_under numbers_fit_under packed_refusal bad_byte
    packed_past_end packed_row
    digit_of any_to
past_row = refl

past_told : store_packed_refusal (packed_store_of (held 1) (0 ∷ 99 ∷ []) (2 ∷ 98 ∷ []) (17 ∷ [])) ≡ 15
unfolding store_packed_refusal first row_refusal_under sound_under numbers_fit_under packed_refusal bad_byte packed_past_end packed_row digit_of any_to
past_told = refl

-- the working space: zero after a verdict, as it was after a refusal
cleared : check_packed_work_ones (packed_check_of (held 2) 7 (0 ∷ 0 ∷ []) (2 ∷ 3 ∷ []) (7 ∷ []) (4 ∷ []) (5 ∷ []) (6 ∷ [])) ≡ 0 ∷ []
unfolding space_exit check_packed_refusal_under first call_refusal_under sound_under numbers_fit_under packed_lengths packed_contents_under
    planes_refusal both_set any_to
    bit_at bit rows_past_end row_part past_end packed_refusal bad_byte packed_past_end packed_row digit_of zero_words tabulate
cleared = refl

kept : check_packed_work_twos (packed_check_of (held 2) 8 (0 ∷ 0 ∷ []) (2 ∷ 3 ∷ []) (7 ∷ []) (4 ∷ []) (5 ∷ []) (6 ∷ [])) ≡ 6 ∷ []
unfolding space_exit check_packed_refusal_under first call_refusal_under sound_under numbers_fit_under
kept = refl

past_kept : check_packed_work_twos (packed_check_of (held 2) 7 (0 ∷ 0 ∷ []) (2 ∷ 3 ∷ []) (7 ∷ []) (13 ∷ []) (5 ∷ []) (6 ∷ [])) ≡ 6 ∷ []
unfolding space_exit check_packed_refusal_under first call_refusal_under sound_under numbers_fit_under packed_lengths packed_contents_under
    planes_refusal both_set any_to
    bit_at bit rows_past_end row_part past_end packed_refusal bad_byte packed_past_end packed_row digit_of
past_kept = refl
