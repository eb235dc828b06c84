-- Key numbers at the edges of their range in P and S lines, read and answered, computed from the definitions (request C-15). Assumes nothing.
use mathlib.Core.Path.{◌≡◌, refl}
use mathlib.Core.List.{List, [], ◌∷◌, ◌++◌}
use Prim.Native.Nat.{ℕ, ◌+◌}
use Rattle.trits.specs.Trit.{up_to, any_to}
use Rattle.trits.specs.Planes.{bit, bit_at, from_bits, tabulate, ones_of, twos_of, both_set, past_end, zero_words}
use Rattle.trits.specs.Rows.{row_part, rows_past_end}
use Rattle.trits.specs.Refusal.{first, planes_refusal}
use Rattle.text.specs.Fields.{onto, split, all_between}
use Rattle.text.specs.Numbers.{is_number, value_from, value, in_range}
use Rattle.text.specs.Digits.{is_digits, digit_at, digit_row}
use Rattle.text.specs.Forms.{no_form, key_line, sign_line, four_fields, key_of, sign_of, is_letter, form_of, line_of}
use Rattle.text.specs.Answers.{sign_refused, line_refused}
use Rattle.held_key.specs.Held.{numbers_fit_under, sound_under}
use Rattle.held_key.specs.Store.{begin_refusal_under}
use Rattle.held_key.specs.Load.{Holding}
use Rattle.check_tests.specs.Check.{call_refusal_under, planes_lengths, planes_contents_under, check_refusal_under, answered, check_answer_under}
use Rattle.text_line.specs.Answer.{holding, asked, key_part, offered_ones, offered_twos, key_refusal_under, key_held_under, sign_answer, sign_answer_under}
use Rattle.text_line.specs.Answer.{sign_prints, refusal_prints, line_prints, line_prints_under, line_kept, line_kept_under, read_line}

-- digits as bytes
abbrev bytes : List ℕ → List ℕ
bytes [] = []
bytes (d ∷ digits) = (48 + d) ∷ bytes digits

-- P with this key number, n = 4, k = 2, w = 4; and S with it, formula 12, y = 12 and s = 11
abbrev P : List ℕ → List ℕ
P number = 80 ∷ 9 ∷ number ++ (9 ∷ 52 ∷ 9 ∷ 50 ∷ 9 ∷ 52 ∷ [])

abbrev S : List ℕ → List ℕ
S number = 83 ∷ 9 ∷ number ++ (9 ∷ 49 ∷ 50 ∷ 9 ∷ 49 ∷ 50 ∷ 9 ∷ 49 ∷ 49 ∷ [])

-- both are taken with this number, or neither is one of the forms
abbrev Taken : ℕ → List ℕ → Type 0
Taken v digits = (read_line (P (bytes digits)) ≡ key_line v 4 2 4) × (read_line (S (bytes digits)) ≡ sign_line v 12 (49 ∷ 50 ∷ []) (49 ∷ 49 ∷ []))

abbrev NotTaken : List ℕ → Type 0
NotTaken digits = (read_line (P (bytes digits)) ≡ no_form) × (read_line (S (bytes digits)) ≡ no_form)

numbers_taken : Taken 0 (0 ∷ [])
    × Taken 255 (2 ∷ 5 ∷ 5 ∷ [])
    × Taken 256 (2 ∷ 5 ∷ 6 ∷ [])
    × Taken 65535 (6 ∷ 5 ∷ 5 ∷ 3 ∷ 5 ∷ [])
    × Taken 65536 (6 ∷ 5 ∷ 5 ∷ 3 ∷ 6 ∷ [])
    × Taken 70000 (7 ∷ 0 ∷ 0 ∷ 0 ∷ 0 ∷ [])
    × Taken 80000 (8 ∷ 0 ∷ 0 ∷ 0 ∷ 0 ∷ [])
    × Taken 4294967294 (4 ∷ 2 ∷ 9 ∷ 4 ∷ 9 ∷ 6 ∷ 7 ∷ 2 ∷ 9 ∷ 4 ∷ [])
    × Taken 4294967295 (4 ∷ 2 ∷ 9 ∷ 4 ∷ 9 ∷ 6 ∷ 7 ∷ 2 ∷ 9 ∷ 5 ∷ [])
unfolding line_of form_of is_letter split onto four_fields key_of sign_of in_range is_number all_between value value_from is_digits
numbers_taken = ((refl, refl), (refl, refl), (refl, refl), (refl, refl), (refl, refl), (refl, refl), (refl, refl), (refl, refl), (refl, refl))

numbers_refused : NotTaken (4 ∷ 2 ∷ 9 ∷ 4 ∷ 9 ∷ 6 ∷ 7 ∷ 2 ∷ 9 ∷ 6 ∷ [])
    × NotTaken (4 ∷ 2 ∷ 9 ∷ 4 ∷ 9 ∷ 6 ∷ 7 ∷ 3 ∷ 0 ∷ 3 ∷ [])
    × NotTaken (1 ∷ 8 ∷ 4 ∷ 4 ∷ 6 ∷ 7 ∷ 4 ∷ 4 ∷ 0 ∷ 7 ∷ 3 ∷ 7 ∷ 0 ∷ 9 ∷ 5 ∷ 5 ∷ 1 ∷ 6 ∷ 1 ∷ 6 ∷ [])
    × NotTaken (1 ∷ 8 ∷ 4 ∷ 4 ∷ 6 ∷ 7 ∷ 4 ∷ 4 ∷ 0 ∷ 7 ∷ 3 ∷ 7 ∷ 0 ∷ 9 ∷ 5 ∷ 5 ∷ 1 ∷ 6 ∷ 2 ∷ 3 ∷ [])
    × NotTaken (0 ∷ 4 ∷ 2 ∷ 9 ∷ 4 ∷ 9 ∷ 6 ∷ 7 ∷ 2 ∷ 9 ∷ 5 ∷ [])
    × NotTaken (0 ∷ 0 ∷ [])
    × NotTaken (tabulate (λ j. 9) 1000)
unfolding line_of form_of is_letter split onto four_fields key_of sign_of in_range is_number all_between value value_from is_digits tabulate
numbers_refused = ((refl, refl), (refl, refl), (refl, refl), (refl, refl), (refl, refl), (refl, refl), (refl, refl))

-- before request C-15 key numbers ended at 255
numbers_before : (line_of 255 (P (bytes (2 ∷ 5 ∷ 5 ∷ []))) ≡ key_line 255 4 2 4) × (line_of 255 (P (bytes (2 ∷ 5 ∷ 6 ∷ []))) ≡ no_form)
    × (line_of 255 (S (bytes (2 ∷ 5 ∷ 6 ∷ []))) ≡ no_form)
unfolding line_of form_of is_letter split onto four_fields key_of sign_of in_range is_number all_between value value_from is_digits
numbers_before = (refl, refl, refl)

-- the two rows 02 and 22 under key number 4,294,967,295, and no key
abbrev largest : Holding
largest = holding (record { begun = 1; number = 4294967295; n = 4; k = 2; w = 4; rows = 2 }) (0 ∷ 0 ∷ []) (2 ∷ 3 ∷ [])

abbrev none : Holding
none = holding (record { begun = 0; number = 0; n = 0; k = 0; w = 0; rows = 0 }) [] []

-- the held number is not refused, any other is, and all are where no key is begun
answers_largest : ((sign_answer largest 4294967295 (49 ∷ 50 ∷ []) (49 ∷ 49 ∷ [])).refusal ≡ 0)
    × (line_prints largest (sign_line 4294967294 12 (49 ∷ 50 ∷ []) (49 ∷ 49 ∷ [])) ≡ sign_refused 4294967294 12 22)
    × (line_prints largest (sign_line 255 12 (49 ∷ 50 ∷ []) (49 ∷ 49 ∷ [])) ≡ sign_refused 255 12 22)
    × (line_prints none (sign_line 4294967295 12 (49 ∷ 50 ∷ []) (49 ∷ 49 ∷ [])) ≡ sign_refused 4294967295 12 20)
unfolding line_prints_under sign_prints sign_answer_under check_answer_under answered check_refusal_under first call_refusal_under sound_under numbers_fit_under
    planes_lengths planes_contents_under planes_refusal both_set any_to bit_at bit rows_past_end row_part past_end up_to key_part asked offered_ones
    offered_twos ones_of twos_of
    tabulate from_bits digit_row digit_at zero_words
answers_largest = (refl, refl, refl, refl)

-- sizes above the range, whatever they are, are refused alike and leave the held key
sizes_refused : (line_prints largest (key_line 7 65540 2 4) ≡ line_refused 1) × (line_prints largest (key_line 7 4294967300 2 4) ≡ line_refused 1)
    × (line_prints largest (key_line 7 18446744073709551620 2 4) ≡ line_refused 1)
    × (line_prints largest (key_line 7 4 4294967298 4) ≡ line_refused 1)
    × (line_prints largest (key_line 7 4 2 4294967300) ≡ line_refused 1)
    × (line_kept largest (key_line 7 4294967300 2 4) ≡ largest)
unfolding line_prints_under line_kept_under refusal_prints key_refusal_under key_held_under begin_refusal_under numbers_fit_under
sizes_refused = (refl, refl, refl, refl, refl, refl)
