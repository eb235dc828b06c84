-- Cases that the stars leave open, on the paper's small secret: draws, refusals, each term of demand 3 at work, and a
-- key carried to the module. More stand in trits, packed, matrix, verdict, scheme and checker. Assumes nothing.
use Rattle.std.specs.Prelude.{◌≡◌, true, [], ◌∷◌, replicate}
use Rattle.matrix.specs.Linear.{Vector}
use Rattle.trits.specs.InDigits.{vector, digits, matrix, digit_rows}
use Rattle.verdict.specs.Verdict.{Key}
use Rattle.check_tests.specs.Check.{check_packed_answer}
use Rattle.scheme.specs.Secret.{Secret}
use Rattle.scheme.specs.Draw.{choices_fit, drawn}
use Rattle.calls.specs.BuildCall.{build_answer, order_exit, key_exit, build_work_exit}
use Rattle.calls.specs.DrawCall.{draw_answer, word_exit, draw_work_exit}
use Rattle.wave.specs.Terms.{Terms, built_key, LentSyndrome, Under, HandsOut}
use Rattle.wave.specs.Verifier.{carried_check, yes}
use Rattle.wave.specs.Examples.{sizes4, secret4, start1, key1, start2, p2, key2, y4, choose, word4, refusal4, build4, draw4, host4}

-- another secret, with H_U = (1 0), and the key that the starting order (0,1,2,3) gives: its p is the same
abbrev pub secret_r : Secret
secret_r = record { hu = matrix ((1 ∷ 0 ∷ []) ∷ []); hv = matrix ((1 ∷ 2 ∷ []) ∷ []); b = vector (0 ∷ 1 ∷ []); c = vector (1 ∷ 2 ∷ []) }

abbrev pub key_r : Key
key_r = matrix ((0 ∷ 2 ∷ []) ∷ (0 ∷ 1 ∷ []) ∷ [])

pub record Beside : Type 0 where
  -- ---- draws and refusals

  -- at g_U = 1 a draw does make 1200, with a gap of V and without one
  pub word_1200 : word4 0 1 2 2 0 ≡ 1 ∷ 2 ∷ 0 ∷ 0 ∷ []
  pub released_1200 : refusal4 0 1 2 2 0 ≡ 0
  pub given_1200 : choices_fit (sizes4 0 1 2) (choose 2 0) ≡ true
  pub word_1200_equal : word4 1 1 2 2 0 ≡ 1 ∷ 2 ∷ 0 ∷ 0 ∷ []
  pub released_1200_equal : refusal4 1 1 2 2 0 ≡ 0
  -- at g_V = 1 alone its value 0 is refused 8
  pub refused_1200 : draw_answer (sizes4 1 0 2) (draw4 start1 0 1 0 0) ≡ 8
  pub answer_1200 : draw_answer (sizes4 0 1 2) (draw4 start1 0 1 0 0) ≡ 0
  -- a draw under the second key, whose p is not its own inverse, releases 1121
  pub word_1121 : digits 4 (drawn (sizes4 0 0 4) secret4 p2 y4 (choose 2 1)) ≡ 1 ∷ 1 ∷ 2 ∷ 1 ∷ []
  pub answer_1121 : draw_answer (sizes4 0 0 4) (draw4 p2 0 1 1 0) ≡ 0
  pub ones_1121 : (word_exit (sizes4 0 0 4) (draw4 p2 0 1 1 0)).ones ≡ 11 ∷ []
  pub twos_1121 : (word_exit (sizes4 0 0 4) (draw4 p2 0 1 1 0)).twos ≡ 4 ∷ []
  -- a starting order that is none is refused 7: p, the key and the working space stay
  pub refused_0023 : build_answer (sizes4 0 0 4) (build4 (0 ∷ 0 ∷ 2 ∷ 3 ∷ [])) ≡ 7
  pub p_0023 : order_exit (sizes4 0 0 4) (build4 (0 ∷ 0 ∷ 2 ∷ 3 ∷ [])) ≡ 9 ∷ 9 ∷ 9 ∷ 9 ∷ []
  pub key_ones_0023 : (key_exit (sizes4 0 0 4) (build4 (0 ∷ 0 ∷ 2 ∷ 3 ∷ []))).ones ≡ 5 ∷ 6 ∷ []
  pub key_twos_0023 : (key_exit (sizes4 0 0 4) (build4 (0 ∷ 0 ∷ 2 ∷ 3 ∷ []))).twos ≡ 7 ∷ 8 ∷ []
  pub work_0023 : (build_work_exit (sizes4 0 0 4) (build4 (0 ∷ 0 ∷ 2 ∷ 3 ∷ []))).ones ≡ replicate 490 3
  -- a U value of 0 is refused 8 though e_V is not 0 there: the word and the working space stay
  pub refused_zero : draw_answer (sizes4 0 0 4) (draw4 start1 0 1 0 0) ≡ 8
  pub ones_zero : (word_exit (sizes4 0 0 4) (draw4 start1 0 1 0 0)).ones ≡ 5 ∷ []
  pub work_zero : (draw_work_exit (sizes4 0 0 4) (draw4 start1 0 1 0 0)).ones ≡ replicate 249 5
  -- ---- the five terms: each word below the first three meets all of them but one

  -- 2111 meets them under the first key at w = 4
  pub meets_2111 : Terms (sizes4 0 0 4) 0 4 secret4 start1 key1 y4 (vector (2 ∷ 1 ∷ 1 ∷ 1 ∷ []))
  -- 0011 under the second key at w = 2: by p, its 1s stand in the two places of pair 0
  pub meets_0011 : Terms (sizes4 0 0 4) 0 2 secret4 p2 key2 y4 (vector (0 ∷ 0 ∷ 1 ∷ 1 ∷ []))
  -- 1200 at g_U = 1, where no pair is asked for
  pub meets_1200 : Terms (sizes4 0 0 4) 1 2 secret4 start1 key1 y4 (vector (1 ∷ 2 ∷ 0 ∷ 0 ∷ []))
  -- 0212 has weight 3, not 4
  pub weight_0212 : Terms (sizes4 0 0 4) 0 4 secret4 start1 key1 y4 (vector (0 ∷ 2 ∷ 1 ∷ 2 ∷ [])) → ⊥
  -- 1111 has another syndrome than 12
  pub syndrome_1111 : Terms (sizes4 0 0 4) 0 4 secret4 start1 key1 y4 (vector (1 ∷ 1 ∷ 1 ∷ 1 ∷ [])) → ⊥
  -- 1200 has no pair whose right trit is not 0, and one is asked for at g_U = 0
  pub right_1200 : Terms (sizes4 0 0 4) 0 2 secret4 start1 key1 y4 (vector (1 ∷ 2 ∷ 0 ∷ 0 ∷ [])) → ⊥
  -- 0022 has no pair whose left trit is not 0
  pub left_0022 : Terms (sizes4 0 0 4) 0 2 secret4 start1 key1 y4 (vector (0 ∷ 0 ∷ 2 ∷ 2 ∷ [])) → ⊥
  -- 1010 has pair 0 alone, off which H_U = (1 0) has rank 0
  pub rank_1010 : Terms (sizes4 0 0 4) 0 2 secret_r start1 key_r y4 (vector (1 ∷ 0 ∷ 1 ∷ 0 ∷ [])) → ⊥
  -- ---- a key, a syndrome and a release

  -- the key's words lent back hold rows 02 and 22
  pub key_0123 : digit_rows 2 2 (built_key (sizes4 0 0 4) (build4 start1)) ≡ (0 ∷ 2 ∷ []) ∷ (2 ∷ 2 ∷ []) ∷ []
  -- y = 12 can be lent; planes with a bit in both cannot
  pub lent_12 : LentSyndrome (sizes4 0 0 4) (1 ∷ []) (2 ∷ [])
  pub refused_both : LentSyndrome (sizes4 0 0 4) (1 ∷ []) (1 ∷ []) → ⊥
  -- a draw under the second key goes by the p lent back, not by the starting order
  pub under_1302 : Under (sizes4 0 0 4) (build4 start2) (draw4 p2 0 1 1 0)
  -- the draw of 2111 hands out that word and not 2221; the draw of 0212, which is refused, hands out no word
  pub hands_2111 : HandsOut (sizes4 0 0 4) (draw4 start1 0 1 1 0) (vector (2 ∷ 1 ∷ 1 ∷ 1 ∷ []))
  pub not_2221 : HandsOut (sizes4 0 0 4) (draw4 start1 0 1 1 0) (vector (2 ∷ 2 ∷ 2 ∷ 1 ∷ [])) → ⊥
  pub none_0212 : (e : Vector) → HandsOut (sizes4 0 0 4) (draw4 start1 1 0 1 0) e → ⊥
  -- ---- from build to verdict

  -- y = 12 and the s of the release 2111, which is 11, under the first key: yes with three 1s and one 2, as the paper's example of lines has it
  pub carried_2111 : check_packed_answer (carried_check (sizes4 0 0 4) (build4 start1) 0 0 4 (draw4 start1 0 1 1 0) host4) ≡ yes 3 1
  -- the s of the release 2221
  pub carried_2221 : check_packed_answer (carried_check (sizes4 0 0 4) (build4 start1) 0 0 4 (draw4 start1 0 0 0 1) host4) ≡ yes 1 3
  -- the same key at w = 2, and the s of the release 0102
  pub carried_0102 : check_packed_answer (carried_check (sizes4 0 0 4) (build4 start1) 0 0 2 (draw4 start1 0 0 1 0) host4) ≡ yes 1 1
  -- and the s of the release 1200, drawn with a gap of U and none of V
  pub carried_1200 : check_packed_answer (carried_check (sizes4 0 0 4) (build4 start1) 0 1 2 (draw4 start1 0 1 0 0) host4) ≡ yes 1 1
