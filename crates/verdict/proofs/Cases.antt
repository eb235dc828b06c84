-- The worked cases, computed from the definitions. Assumes nothing.
use mathlib.Core.Path.{◌≡◌, refl, ap}
use mathlib.Core.List.{[], ◌∷◌}
use Prim.Native.Nat.{ℕ}
use native.Mathlib.Omega.{arith}
use Rattle.trits.specs.Trit.{Trit, t0, t1, t2, add_t, number, dot_v, sum_to}
use Rattle.trits.specs.Planes.{tabulate}
use Rattle.trits.specs.InDigits.{vector, digit_rows}
use Rattle.verdict.specs.Verdict.{times_key, full_word, full_counts, says_yes, syndrome, Found}
use Rattle.verdict.specs.Wavelet.{in_pairs, changed_trits, rows_of_m, rows_of_r, full_word_m, full_word_in, full_counts_in, says_yes_in, other_form}
use Rattle.verdict.specs.Cases.{key4, y4, Cases}

-- x + 1 is 1 only for 0
no_one : (x : Trit) → add_t x t1 ≡ t1 → x ≡ t0
no_one t0 e = refl
no_one t1 e = let two : ◌≡◌ {A = ℕ} 2 1 = ap number e in absurd (omega arith)
no_one t2 e = let none : ◌≡◌ {A = ℕ} 0 1 = ap number e in absurd (omega arith)

-- x + 0 is x
no_more : (x y : Trit) → add_t x t0 ≡ y → x ≡ y
no_more t0 y e = e
no_more t1 y e = e
no_more t2 y e = e

-- the word can only be 0212
none_12 : Found 2 2 4 key4 y4 (vector (1 ∷ 2 ∷ [])) → ⊥
unfolding dot_v sum_to times_key syndrome
none_12 f =
    let c : f.word 2 ≡ t1 = f.extending.extends 0 (omega arith) in
    let d : f.word 3 ≡ t2 = f.extending.extends 1 (omega arith) in
    let a : f.word 0 ≡ t0 = no_one (f.word 0) (rw (c, d) at (f.extending.has_syndrome 0 (omega arith))) in
    let b : f.word 1 ≡ t2 = no_more (f.word 1) t2 (rw (c, d) at (f.extending.has_syndrome 1 (omega arith))) in
    let three : ◌≡◌ {A = ℕ} 3 4 = rw (a, b, c, d) at f.weighs in
    absurd (omega arith)

pub cases : Cases
unfolding dot_v sum_to tabulate digit_rows times_key full_word full_counts says_yes in_pairs changed_trits rows_of_m rows_of_r full_word_m
    full_word_in full_counts_in says_yes_in
    other_form
cases = record {
  full_11 = refl;
  counts_11 = refl;
  yes_11 = refl;
  full_12 = refl;
  counts_12 = refl;
  no_12 = refl;
  none_12 = none_12;
  full_00 = refl;
  counts_00 = refl;
  yes_00 = refl;
  full_112 = refl;
  counts_112 = refl;
  full_121 = refl;
  m_rows = refl;
  r_rows = refl;
  m_twice = refl;
  changed_11 = refl;
  m_full_11 = refl;
  changed_12 = refl;
  m_full_12 = refl;
  m_counts_11 = refl;
  m_read_as_r = refl;
  m_yes_11 = refl;
  m_no_12 = refl;
  m_rows_odd = refl;
  r_rows_odd = refl;
  changed_112 = refl;
  m_full_112 = refl;
  m_counts_112 = refl;
  other_of_r = refl;
  other_of_m = refl;
}
