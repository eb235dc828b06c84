-- A vector written in planes passes the tests of its contents and is read back; rows written one after another are each their stretch. Assumes nothing.
use mathlib.Core.Path.{◌≡◌, refl, sym, ap, ◌∙◌}
use mathlib.Core.List.{List, ◌++◌}
use Prim.Native.Nat.{ℕ, zero, suc, ◌+◌, ◌*◌, ◌^◌, ◌<◌}
use native.Mathlib.Decide.{dec_lt}
use native.Mathlib.Omega.{arith}
use lib.Dec.{lit<}
use lib.ListN.{length, get_or, take, drop, length-drop, get_or-eq_default}
use lib.Seq.{take_all, drop_at, take-append-le, drop-append-le}
use Rattle.trits.specs.Trit.{up_to, one, two}
use Rattle.trits.specs.Planes.{from_bits, trit_at, ones_of, twos_of, zero_words, words_for}
use Rattle.trits.specs.Rows.{row_part, rows_of}
use Rattle.trits.specs.Refusal.{planes_refusal}
use Rattle.trits.proofs.Bits.{from_lt}
use Rattle.trits.proofs.Lists.{get_d_tabulate, zero_at}
use Rattle.trits.proofs.Reading.{one_lt, two_lt, length_ones, length_twos, holds_reads}
use Rattle.trits.proofs.Ends.{upto_out}
use Rattle.trits.proofs.Refusals.{vector_passes}
use Rattle.trits.proofs.Matrix.{row_le, part_there, length_rows}
use Rattle.matrix.specs.Linear.{Vector}
use Rattle.wave.specs.Terms.{Bits}

-- ---- a vector of m trits

module _ (m : ℕ) (v : Vector) where
  abbrev ones : List ℕ
  ones = ones_of (up_to m v) (words_for m)

  abbrev twos : List ℕ
  twos = twos_of (up_to m v) (words_for m)

  -- it is read back
  pub written_back : trit_at (ones_of (up_to m v) (words_for m)) (twos_of (up_to m v) (words_for m)) ≡ up_to m v
  written_back = (holds_reads ones twos (words_for m) (up_to m v) (λ i l. upto_out v m i (omega arith)) (record { ones_are = refl; twos_are = refl })).trits

  -- its planes are not refused
  pub written_passes : planes_refusal (ones_of (up_to m v) (words_for m)) (twos_of (up_to m v) (words_for m)) 1 m ≡ 0
  written_passes = vector_passes (up_to m v) m (λ i l. upto_out v m i l)

-- ---- 64-bit words

pub ones_words : (v : Vector) (n : ℕ) → Bits 64 (ones_of v n)
unfolding ones_of
ones_words v n j = by (dec_lt j n)
  where
    by : Dec (j < n) → get_or (ones_of v n) j 0 < 2 ^ 64
    by (yes l) = rw (get_d_tabulate n (λ k. from_bits (λ b. one (v (64 * k + b))) 64) j 0 l)
        (from_lt 64 (λ b. one (v (64 * j + b))) (λ b. one_lt (v (64 * j + b))))
    by (no f) = let e : get_or (ones_of v n) j 0 ≡ 0 = get_or-eq_default (ones_of v n) 0 (omega (arith, length_ones v n)) in rw e (lit< tt)

pub twos_words : (v : Vector) (n : ℕ) → Bits 64 (twos_of v n)
unfolding twos_of
twos_words v n j = by (dec_lt j n)
  where
    by : Dec (j < n) → get_or (twos_of v n) j 0 < 2 ^ 64
    by (yes l) = rw (get_d_tabulate n (λ k. from_bits (λ b. two (v (64 * k + b))) 64) j 0 l)
        (from_lt 64 (λ b. two (v (64 * j + b))) (λ b. two_lt (v (64 * j + b))))
    by (no f) = let e : get_or (twos_of v n) j 0 ≡ 0 = get_or-eq_default (twos_of v n) 0 (omega (arith, length_twos v n)) in rw e (lit< tt)

pub zero_words_law : (n : ℕ) → Bits 64 (zero_words n)
zero_words_law n j = rw (zero_at n j) (lit< tt)

-- ---- rows of w words, one after another

module _ (f : ℕ → List ℕ) (w : ℕ) (s : (i : ℕ) → length (f i) ≡ w) where
  row_at : (k j : ℕ) → j < k → take w (drop (j * w) (rows_of f k)) ≡ f j
  unfolding rows_of
  row_at zero j h = absurd (omega arith)
  row_at (suc k) j h = by (row_at k j) (dec_lt j k)
    where
      by : (j < k → take w (drop (j * w) (rows_of f k)) ≡ f j) → Dec (j < k) → take w (drop (j * w) (rows_of f k ++ f k)) ≡ f j
      by ih (yes l) =
          let g = row_le w {i = j} {m = k} l in
          let d = length-drop (j * w) (rows_of f k) in
          ap (take w) (drop-append-le (j * w) (rows_of f k) (f k) (omega (arith, length_rows f w s k)))
          ∙ take-append-le w (drop (j * w) (rows_of f k)) (f k) (omega (arith, length_rows f w s k, d))
          ∙ ih l
      by ih (no n) =
          let e : j ≡ k = omega arith in
          ap (λ (x : ℕ). take w (drop (x * w) (rows_of f k ++ f k))) e
          ∙ ap (take w) (drop_at (rows_of f k) (f k) (k * w) (length_rows f w s k))
          ∙ take_all w (f k) (omega (arith, s k)) ∙ ap f (sym e)

  -- row j is what was written there
  pub rows_part : (k j : ℕ) → j < k → row_part (rows_of f k) k w j ≡ f j
  rows_part k j h = sym (part_there (rows_of f k) k w j (length_rows f w s k) h) ∙ row_at k j h
