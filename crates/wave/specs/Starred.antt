-- The starred cases of the paper ("At the edges"), in its order: each as a value of the definitions, and as a call with every lent word. Assumes nothing.
use Rattle.std.specs.Prelude.{◌≡◌, true, [], ◌∷◌, ℕ, replicate}
use Rattle.packed.specs.Packed.{packed_row, packed_bytes}
use Rattle.packed.specs.Calls.{pack_of, pack_exit, unpack_of, unpack_refusal, unpack_ones, unpack_twos}
use Rattle.trits.specs.InDigits.{vector, digits, matrix, digit_rows}
use Rattle.verdict.specs.Verdict.{full_word, says_yes}
use Rattle.scheme.specs.Build.{arranged, key_order, key_row}
use Rattle.calls.specs.BuildCall.{build_answer, order_exit, key_exit, build_work_exit}
use Rattle.calls.specs.DrawCall.{DrawCall, draw_answer, word_exit, s_exit, draw_work_exit}
use Rattle.check_tests.specs.Check.{packed_check_of, check_packed_answer}
use Rattle.wave.specs.Terms.{Under}
use Rattle.wave.specs.Verifier.{yes}
use Rattle.wave.specs.Examples.{sizes4, secret4, start1, key1, start2, y4, word4, refusal4, build4, draw4}

-- no draw makes 1200, at a gap of U: at w = 2, whatever the gap of V, y and the choices, no draw under the first key that is not refused has s = 00
abbrev pub NoDrawMakes1200 : ℕ → Type 0
NoDrawMakes1200 gu = (gv : ℕ) (l : DrawCall) → Under (sizes4 0 0 4) (build4 start1) l → draw_answer (sizes4 gv gu 2) l ≡ 0
    → (s_exit (sizes4 gv gu 2) l).ones ≡ 0 ∷ [] → (s_exit (sizes4 gv gu 2) l).twos ≡ 0 ∷ [] → ⊥

-- the gap of U in these cases
abbrev pub gap4 : ℕ
gap4 = 0

pub record Starred : Type 0 where
  -- trits 1,2,0,0,1 pack to 88
  pub packs_88 : packed_bytes 5 (vector (1 ∷ 2 ∷ 0 ∷ 0 ∷ 1 ∷ [])) ≡ 88 ∷ []
  pub packed_88 : pack_exit (pack_of 5 (17 ∷ []) (2 ∷ []) (9 ∷ [])) ≡ 88 ∷ []
  -- 242 reads 2,2,2,2,2
  pub reads_242 : digits 5 (packed_row (242 ∷ [])) ≡ 2 ∷ 2 ∷ 2 ∷ 2 ∷ 2 ∷ []
  pub ones_242 : unpack_ones (unpack_of 5 (242 ∷ []) (7 ∷ []) (9 ∷ [])) ≡ 0 ∷ []
  pub twos_242 : unpack_twos (unpack_of 5 (242 ∷ []) (7 ∷ []) (9 ∷ [])) ≡ 31 ∷ []
  -- 243 gives 5, and the planes stay
  pub refused_243 : unpack_refusal (unpack_of 5 (243 ∷ []) (7 ∷ []) (9 ∷ [])) ≡ 5
  pub ones_243 : unpack_ones (unpack_of 5 (243 ∷ []) (7 ∷ []) (9 ∷ [])) ≡ 7 ∷ []
  pub twos_243 : unpack_twos (unpack_of 5 (243 ∷ []) (7 ∷ []) (9 ∷ [])) ≡ 9 ∷ []
  -- start (0,1,2,3): R has rows 02 and 22, p unchanged; the working space is all zero
  pub order_0123 : key_order (sizes4 0 0 4) secret4 start1 ≡ 0 ∷ 1 ∷ 2 ∷ 3 ∷ []
  pub rows_0123 : digit_rows 2 2 (key_row (sizes4 0 0 4) secret4 start1) ≡ (0 ∷ 2 ∷ []) ∷ (2 ∷ 2 ∷ []) ∷ []
  pub built_0123 : build_answer (sizes4 0 0 4) (build4 start1) ≡ 0
  pub p_0123 : order_exit (sizes4 0 0 4) (build4 start1) ≡ 0 ∷ 1 ∷ 2 ∷ 3 ∷ []
  pub key_ones_0123 : (key_exit (sizes4 0 0 4) (build4 start1)).ones ≡ 0 ∷ 0 ∷ []
  pub key_twos_0123 : (key_exit (sizes4 0 0 4) (build4 start1)).twos ≡ 2 ∷ 3 ∷ []
  pub work_ones_0123 : (build_work_exit (sizes4 0 0 4) (build4 start1)).ones ≡ replicate 490 0
  pub work_twos_0123 : (build_work_exit (sizes4 0 0 4) (build4 start1)).twos ≡ replicate 490 0
  -- start (1,2,0,3): p = (1,3,0,2), R rows 22 and 20
  pub order_1203 : key_order (sizes4 0 0 4) secret4 start2 ≡ 1 ∷ 3 ∷ 0 ∷ 2 ∷ []
  pub rows_1203 : digit_rows 2 2 (key_row (sizes4 0 0 4) secret4 start2) ≡ (2 ∷ 2 ∷ []) ∷ (2 ∷ 0 ∷ []) ∷ []
  pub built_1203 : build_answer (sizes4 0 0 4) (build4 start2) ≡ 0
  pub p_1203 : order_exit (sizes4 0 0 4) (build4 start2) ≡ 1 ∷ 3 ∷ 0 ∷ 2 ∷ []
  pub key_ones_1203 : (key_exit (sizes4 0 0 4) (build4 start2)).ones ≡ 0 ∷ 0 ∷ []
  pub key_twos_1203 : (key_exit (sizes4 0 0 4) (build4 start2)).twos ≡ 3 ∷ 1 ∷ []
  -- columns 10, 10, 01, 10 end in order (0,2,3,1), the last column being tried at j = l = 1
  pub last_column : arranged 2 4 (matrix ((1 ∷ 1 ∷ 0 ∷ 1 ∷ []) ∷ (0 ∷ 0 ∷ 1 ∷ 0 ∷ []) ∷ [])) (0 ∷ 1 ∷ 2 ∷ 3 ∷ []) ≡
      record { kept = 2; order = 0 ∷ 2 ∷ 3 ∷ 1 ∷ [] }
  -- under the first key, y = 12: V trit 2 releases 2111 at w = 4, whichever the U value; its s is 11
  pub word_2111 : word4 0 0 4 2 1 ≡ 2 ∷ 1 ∷ 1 ∷ 1 ∷ []
  pub released_2111 : refusal4 0 0 4 2 1 ≡ 0
  pub other_2111 : word4 0 0 4 2 2 ≡ 2 ∷ 1 ∷ 1 ∷ 1 ∷ []
  pub answer_2111 : draw_answer (sizes4 0 0 4) (draw4 start1 0 1 1 0) ≡ 0
  pub ones_2111 : (word_exit (sizes4 0 0 4) (draw4 start1 0 1 1 0)).ones ≡ 14 ∷ []
  pub twos_2111 : (word_exit (sizes4 0 0 4) (draw4 start1 0 1 1 0)).twos ≡ 1 ∷ []
  pub s_ones_2111 : (s_exit (sizes4 0 0 4) (draw4 start1 0 1 1 0)).ones ≡ 3 ∷ []
  pub s_twos_2111 : (s_exit (sizes4 0 0 4) (draw4 start1 0 1 1 0)).twos ≡ 0 ∷ []
  -- V trit 0, U value 2 releases 2221; its s is 21
  pub word_2221 : word4 0 0 4 0 2 ≡ 2 ∷ 2 ∷ 2 ∷ 1 ∷ []
  pub released_2221 : refusal4 0 0 4 0 2 ≡ 0
  pub answer_2221 : draw_answer (sizes4 0 0 4) (draw4 start1 0 0 0 1) ≡ 0
  pub ones_2221 : (word_exit (sizes4 0 0 4) (draw4 start1 0 0 0 1)).ones ≡ 8 ∷ []
  pub twos_2221 : (word_exit (sizes4 0 0 4) (draw4 start1 0 0 0 1)).twos ≡ 7 ∷ []
  pub s_ones_2221 : (s_exit (sizes4 0 0 4) (draw4 start1 0 0 0 1)).ones ≡ 2 ∷ []
  pub s_twos_2221 : (s_exit (sizes4 0 0 4) (draw4 start1 0 0 0 1)).twos ≡ 1 ∷ []
  -- V trit 1 makes 0212, refused 14: word and s stay, and the working space is all zero
  pub word_0212 : word4 0 0 4 1 1 ≡ 0 ∷ 2 ∷ 1 ∷ 2 ∷ []
  pub refused_0212 : refusal4 0 0 4 1 1 ≡ 14
  pub answer_0212 : draw_answer (sizes4 0 0 4) (draw4 start1 1 0 1 0) ≡ 14
  pub ones_0212 : (word_exit (sizes4 0 0 4) (draw4 start1 1 0 1 0)).ones ≡ 5 ∷ []
  pub twos_0212 : (word_exit (sizes4 0 0 4) (draw4 start1 1 0 1 0)).twos ≡ 6 ∷ []
  pub s_ones_0212 : (s_exit (sizes4 0 0 4) (draw4 start1 1 0 1 0)).ones ≡ 7 ∷ []
  pub s_twos_0212 : (s_exit (sizes4 0 0 4) (draw4 start1 1 0 1 0)).twos ≡ 8 ∷ []
  pub work_ones_0212 : (draw_work_exit (sizes4 0 0 4) (draw4 start1 1 0 1 0)).ones ≡ replicate 249 0
  pub work_twos_0212 : (draw_work_exit (sizes4 0 0 4) (draw4 start1 1 0 1 0)).twos ≡ replicate 249 0
  -- at w = 2, V trit 0 and U value 1 release 0102
  pub word_0102 : word4 0 0 2 0 1 ≡ 0 ∷ 1 ∷ 0 ∷ 2 ∷ []
  pub released_0102 : refusal4 0 0 2 0 1 ≡ 0
  pub answer_0102 : draw_answer (sizes4 0 0 2) (draw4 start1 0 0 1 0) ≡ 0
  pub ones_0102 : (word_exit (sizes4 0 0 2) (draw4 start1 0 0 1 0)).ones ≡ 2 ∷ []
  pub twos_0102 : (word_exit (sizes4 0 0 2) (draw4 start1 0 0 1 0)).twos ≡ 8 ∷ []
  -- at w = 2, s = 00 is accepted (1200)
  pub full_1200 : digits 4 (full_word 2 2 key1 y4 (vector (0 ∷ 0 ∷ []))) ≡ 1 ∷ 2 ∷ 0 ∷ 0 ∷ []
  pub accepted_1200 : says_yes 2 2 2 key1 y4 (vector (0 ∷ 0 ∷ [])) ≡ true
  pub answer_1200 : check_packed_answer (packed_check_of (record { begun = 1; number = 7; n = 4; k = 2; w = 2; rows = 2 })
      7 (0 ∷ 0 ∷ []) (2 ∷ 3 ∷ []) (7 ∷ []) (0 ∷ []) (5 ∷ []) (6 ∷ [])) ≡ yes 1 1
  -- yet no draw makes it
  pub never_1200 : NoDrawMakes1200 gap4
