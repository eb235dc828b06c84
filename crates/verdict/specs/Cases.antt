-- Worked cases of the verdict ("The verdict"): the paper's example of lines, and a key that
-- is not square, each as R and as M (request C-11), worked out apart from the definitions. Assumes nothing.
use Rattle.std.specs.Prelude.{◌≡◌, true, false, [], ◌∷◌, ℕ}
use Rattle.trits.specs.Trit.{Trit}
use Rattle.trits.specs.InDigits.{vector, digits, matrix, digit_rows}
use Rattle.verdict.specs.Verdict.{Key, full_word, full_counts, says_yes, Found}
use Rattle.verdict.specs.Wavelet.{changed_trits, rows_of_m, rows_of_r, full_word_m, full_counts_in, says_yes_in, other_form}

-- the key of the example of lines: rows 02 and 22; and its y, 12
abbrev pub key4 : Key
key4 = matrix ((0 ∷ 2 ∷ []) ∷ (2 ∷ 2 ∷ []) ∷ [])

abbrev pub y4 : ℕ → Trit
y4 = vector (1 ∷ 2 ∷ [])

-- a key whose R is not square: rows 22212, 20200 and 12000; and y = 10221
abbrev pub key8 : Key
key8 = matrix ((2 ∷ 2 ∷ 2 ∷ 1 ∷ 2 ∷ []) ∷ (2 ∷ 0 ∷ 2 ∷ 0 ∷ 0 ∷ []) ∷ (1 ∷ 2 ∷ 0 ∷ 0 ∷ 0 ∷ []) ∷ [])

abbrev pub y8 : ℕ → Trit
y8 = vector (1 ∷ 0 ∷ 2 ∷ 2 ∷ 1 ∷ [])

-- the same two keys as M
abbrev pub m4 : Key
m4 = matrix ((2 ∷ 1 ∷ []) ∷ (1 ∷ 0 ∷ []) ∷ [])

abbrev pub m8 : Key
m8 = matrix ((1 ∷ 2 ∷ 1 ∷ 1 ∷ 2 ∷ []) ∷ (0 ∷ 2 ∷ 0 ∷ 1 ∷ 2 ∷ []) ∷ (2 ∷ 1 ∷ 0 ∷ 0 ∷ 0 ∷ []) ∷ [])

pub record Cases : Type 0 where
  -- "Held key and lines of text": s = 11 makes 2111, three 1s and one 2, which is yes at w = 4
  pub full_11 : digits 4 (full_word 2 2 key4 y4 (vector (1 ∷ 1 ∷ []))) ≡ 2 ∷ 1 ∷ 1 ∷ 1 ∷ []
  pub counts_11 : full_counts 2 2 key4 y4 (vector (1 ∷ 1 ∷ [])) ≡ record { ones = 3; twos = 1 }
  pub yes_11 : says_yes 2 2 4 key4 y4 (vector (1 ∷ 1 ∷ [])) ≡ true
  -- s = 12 makes 0212, one 1 and two 2s, which is no
  pub full_12 : digits 4 (full_word 2 2 key4 y4 (vector (1 ∷ 2 ∷ []))) ≡ 0 ∷ 2 ∷ 1 ∷ 2 ∷ []
  pub counts_12 : full_counts 2 2 key4 y4 (vector (1 ∷ 2 ∷ [])) ≡ record { ones = 1; twos = 2 }
  pub no_12 : says_yes 2 2 4 key4 y4 (vector (1 ∷ 2 ∷ [])) ≡ false
  -- and no word of weight 4 that has the syndrome 12 extends it
  pub none_12 : Found 2 2 4 key4 y4 (vector (1 ∷ 2 ∷ [])) → ⊥
  -- "At the edges": s = 00 makes 1200, accepted at w = 2
  pub full_00 : digits 4 (full_word 2 2 key4 y4 (vector (0 ∷ 0 ∷ []))) ≡ 1 ∷ 2 ∷ 0 ∷ 0 ∷ []
  pub counts_00 : full_counts 2 2 key4 y4 (vector (0 ∷ 0 ∷ [])) ≡ record { ones = 1; twos = 1 }
  pub yes_00 : says_yes 2 2 2 key4 y4 (vector (0 ∷ 0 ∷ [])) ≡ true
  -- under the key that is not square, s = 112 makes 10112112 and s = 121 makes 02212121
  pub full_112 : digits 8 (full_word 5 3 key8 y8 (vector (1 ∷ 1 ∷ 2 ∷ []))) ≡ 1 ∷ 0 ∷ 1 ∷ 1 ∷ 2 ∷ 1 ∷ 1 ∷ 2 ∷ []
  pub counts_112 : full_counts 5 3 key8 y8 (vector (1 ∷ 1 ∷ 2 ∷ [])) ≡ record { ones = 5; twos = 2 }
  pub full_121 : digits 8 (full_word 5 3 key8 y8 (vector (1 ∷ 2 ∷ 1 ∷ []))) ≡ 0 ∷ 2 ∷ 2 ∷ 1 ∷ 2 ∷ 1 ∷ 2 ∷ 1 ∷ []
  -- request C-11: the first key has M rows 21 and 10, and the way back returns 02 and 22; the way forward again does not, it makes 01 and 11
  pub m_rows : digit_rows 2 2 (rows_of_m 2 key4) ≡ (2 ∷ 1 ∷ []) ∷ (1 ∷ 0 ∷ []) ∷ []
  pub r_rows : digit_rows 2 2 (rows_of_r 2 m4) ≡ (0 ∷ 2 ∷ []) ∷ (2 ∷ 2 ∷ []) ∷ []
  pub m_twice : digit_rows 2 2 (rows_of_m 2 m4) ≡ (0 ∷ 1 ∷ []) ∷ (1 ∷ 1 ∷ []) ∷ []
  -- s = 11 is changed to 20, and makes 2111 under M too; s = 12 is changed to 02, and makes 0212
  pub changed_11 : digits 2 (changed_trits 2 (vector (1 ∷ 1 ∷ []))) ≡ 2 ∷ 0 ∷ []
  pub m_full_11 : digits 4 (full_word_m 2 2 m4 y4 (vector (1 ∷ 1 ∷ []))) ≡ 2 ∷ 1 ∷ 1 ∷ 1 ∷ []
  pub changed_12 : digits 2 (changed_trits 2 (vector (1 ∷ 2 ∷ []))) ≡ 0 ∷ 2 ∷ []
  pub m_full_12 : digits 4 (full_word_m 2 2 m4 y4 (vector (1 ∷ 2 ∷ []))) ≡ 0 ∷ 2 ∷ 1 ∷ 2 ∷ []
  -- M read as R makes 1111: the right weight, and other ones and twos
  pub m_counts_11 : full_counts_in 1 2 2 m4 y4 (vector (1 ∷ 1 ∷ [])) ≡ record { ones = 3; twos = 1 }
  pub m_read_as_r : full_counts_in 0 2 2 m4 y4 (vector (1 ∷ 1 ∷ [])) ≡ record { ones = 4; twos = 0 }
  pub m_yes_11 : says_yes_in 1 2 2 4 m4 y4 (vector (1 ∷ 1 ∷ [])) ≡ true
  pub m_no_12 : says_yes_in 1 2 2 4 m4 y4 (vector (1 ∷ 2 ∷ [])) ≡ false
  -- an odd k: rows 22212, 20200 and 12000 become 12112, 02012 and 21000, and these go back
  pub m_rows_odd : digit_rows 3 5 (rows_of_m 3 key8) ≡ (1 ∷ 2 ∷ 1 ∷ 1 ∷ 2 ∷ []) ∷ (0 ∷ 2 ∷ 0 ∷ 1 ∷ 2 ∷ []) ∷ (2 ∷ 1 ∷ 0 ∷ 0 ∷ 0 ∷ []) ∷ []
  pub r_rows_odd : digit_rows 3 5 (rows_of_r 3 m8) ≡ (2 ∷ 2 ∷ 2 ∷ 1 ∷ 2 ∷ []) ∷ (2 ∷ 0 ∷ 2 ∷ 0 ∷ 0 ∷ []) ∷ (1 ∷ 2 ∷ 0 ∷ 0 ∷ 0 ∷ []) ∷ []
  -- s = 112 is changed to 202, its last trit unchanged, and makes 10112112 under M too
  pub changed_112 : digits 3 (changed_trits 3 (vector (1 ∷ 1 ∷ 2 ∷ []))) ≡ 2 ∷ 0 ∷ 2 ∷ []
  pub m_full_112 : digits 8 (full_word_m 5 3 m8 y8 (vector (1 ∷ 1 ∷ 2 ∷ []))) ≡ 1 ∷ 0 ∷ 1 ∷ 1 ∷ 2 ∷ 1 ∷ 1 ∷ 2 ∷ []
  pub m_counts_112 : full_counts_in 1 5 3 m8 y8 (vector (1 ∷ 1 ∷ 2 ∷ [])) ≡ record { ones = 5; twos = 2 }
  -- the other form of R is M, and of M it is R
  pub other_of_r : other_form 0 ≡ 1
  pub other_of_m : other_form 1 ≡ 0
