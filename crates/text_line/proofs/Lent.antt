-- What is lent to the checker: the words of a key and of a row, and digits as planes. Assumes nothing.
use mathlib.Core.Path.{◌≡◌, refl, ap, ◌∙◌}
use mathlib.Core.Bool.{and-false}
use mathlib.Core.List.{List, [], ◌++◌}
use Prim.Native.Nat.{ℕ, zero, suc, ◌+◌, ◌-◌, ◌*◌, ◌/◌, ◌≤◌, ◌<◌}
use native.Mathlib.Decide.{dec_lt}
use native.Mathlib.Omega.{arith}
use borrow.Author.Tests.{eq-eqb, ne_eqb, le-leb, lt-leb}
use lib.Dec.{leb}
use lib.ListN.{length, take, drop}
use Rattle.trits.specs.Planes.{tabulate, ones_of, twos_of, ones_word, twos_word, words_for, zero_words, Holds}
use Rattle.trits.proofs.Lists.{take_tabulate}
use Rattle.text.specs.Digits.{digit_row}
use Rattle.held_key.specs.declared.state.Held.{Held}
use Rattle.held_key.specs.Held.{row_trits, row_words, key_words}
use Rattle.held_key.specs.Store.{store_of, store_refusal, store_held, store_ones, store_twos}
use Rattle.check_tests.specs.Check.{check_of, check_answer}
use Rattle.text_line.specs.Answer.{asked, key_part, after_key, offered_ones, offered_twos, digits_refusal, digits_refusal_under, row_kept, row_kept_under}
use Rattle.text_line.specs.Answer.{sign_answer, sign_answer_under, holding}

-- ---- words that a state asks for

module _ (h : Held) (w : ℕ) where
  pub asked_long : 256 < h.n → 0 ≡ asked h w
  unfolding asked
  asked_long l = rw (lt-leb h.n 256 l)

  module _ (l : h.n ≤ 256) where
    pub asked_over : h.n < h.k → 0 ≡ asked h w
    unfolding asked
    asked_over k = rw (le-leb h.n 256 l, lt-leb h.k h.n k)

    pub asked_all : h.k ≤ h.n → w ≡ asked h w
    unfolding asked
    asked_all k = rw (le-leb h.n 256 l, le-leb h.k h.n k)

-- the most words of one plane of a key
pub most_words_law : (n k : ℕ) → n ≤ 256 → k ≤ n → k * ((n - k + 63) / 64) ≤ 382
most_words_law n k l h = by ((n - k + 63) / 64) refl
  where
    by : (q : ℕ) → q ≡ (n - k + 63) / 64 → k * q ≤ 382
    by zero e = omega (arith, e)
    by (suc zero) e = omega (arith, e)
    by (suc (suc zero)) e = omega (arith, e)
    by (suc (suc (suc zero))) e = omega (arith, e)
    by (suc (suc (suc (suc zero)))) e = omega (arith, e)
    by (suc (suc (suc (suc (suc q))))) e = absurd (omega (arith, e))

-- the words of a key are those of its rows
module _ (h : Held) where
  pub key_asked : (h.k * asked h (row_words h) ≡ asked h (key_words h)) × (asked h (key_words h) ≤ 382)
  unfolding asked
  key_asked = by (dec_lt 256 h.n) (dec_lt h.n h.k)
    where
      by : Dec (256 < h.n) → Dec (h.n < h.k) → (h.k * asked h (row_words h) ≡ asked h (key_words h)) × (asked h (key_words h) ≤ 382)
      by (yes l) k = rw (lt-leb h.n 256 l) (omega arith, omega arith)
      by (no l) (yes k) = rw (lt-leb h.k h.n k, and-false (leb h.n 256)) (omega arith, omega arith)
      by (no l) (no k) = rw (le-leb h.n 256 (omega arith), le-leb h.k h.n (omega arith)) (refl, most_words_law h.n h.k (omega arith) (omega arith))

-- ---- the first words of a table

pub take_zeros : (w n : ℕ) → w ≤ n → take w (zero_words n) ≡ zero_words w
unfolding zero_words
take_zeros w n h = take_tabulate w n (λ j. 0) h

-- ---- digits as planes

module _ (m : ℕ) (digits : List ℕ) where
  pub offered_none : (length digits ≡ m → ⊥) → ([] ≡ offered_ones m digits) × ([] ≡ offered_twos m digits)
  unfolding offered_ones offered_twos
  offered_none f = (rw (ne_eqb (length digits) m f), rw (ne_eqb (length digits) m f))

  pub offered : {o t : List ℕ} (w : ℕ) → length digits ≡ m → w ≡ words_for (length digits) → w ≤ 16 → Holds o t 16 (digit_row digits)
      → (take w o ≡ offered_ones m digits) × (take w t ≡ offered_twos m digits)
  unfolding offered_ones offered_twos ones_of twos_of
  offered w e q l a =
      let v = digit_row digits in
      let z : w ≡ words_for m = q ∙ ap words_for e in (
        rw (eq-eqb (length digits) m e) (ap (take w) a.ones_are ∙ take_tabulate w 16 (ones_word v) l ∙ ap (tabulate (ones_word v)) z),
        rw (eq-eqb (length digits) m e) (ap (take w) a.twos_are ∙ take_tabulate w 16 (twos_word v) l ∙ ap (tabulate (twos_word v)) z),
      )

-- ---- a row offered, and a check asked, with what is lent

module _ (h : Held) (plane : List ℕ) {w : ℕ} (e : w ≡ asked h (key_words h)) where
  pub part_key : take w plane ≡ key_part h plane
  unfolding key_part
  part_key = ap (λ (j : ℕ). take j plane) e

  pub part_after : drop w plane ≡ after_key h plane
  unfolding after_key
  part_after = ap (λ (j : ℕ). drop j plane) e

module _ (h : Held) (ones twos : List ℕ) {p q : List ℕ} (ep : p ≡ key_part h ones) (eq : q ≡ key_part h twos) where
  module _ (digits : List ℕ) {x y : List ℕ} (ex : x ≡ offered_ones (row_trits h) digits) (ey : y ≡ offered_twos (row_trits h) digits) where
    pub row_refusal : store_refusal (store_of h p q x y) ≡ digits_refusal (holding h ones twos) digits
    unfolding digits_refusal_under
    row_refusal = λ i. store_refusal (store_of h (ep i) (eq i) (ex i) (ey i))

    pub row_kept_law : {g : Held} {o t u v : List ℕ} → g ≡ store_held (store_of h p q x y) → o ≡ store_ones (store_of h p q x y)
        → t ≡ store_twos (store_of h p q x y)
        → u ≡ after_key h ones → v ≡ after_key h twos → holding g (o ++ u) (t ++ v) ≡ row_kept (holding h ones twos) digits
    unfolding row_kept_under
    row_kept_law {g} {o} {t} {u} {v} eg eo et eu ev =
        (λ i. holding (eg i) (eo i ++ u) (et i ++ v))
        ∙ (λ i. let c = store_of h (ep i) (eq i) (ex i) (ey i) in holding (store_held c) (store_ones c ++ eu i) (store_twos c ++ ev i))

  pub sign_answer_here : (number : ℕ) (y s : List ℕ) {a b c d e f : List ℕ} → a ≡ offered_ones (row_trits h) y → b ≡ offered_twos (row_trits h) y
      → c ≡ offered_ones h.k s → d ≡ offered_twos h.k s
      → e ≡ zero_words (asked h (row_words h)) → f ≡ zero_words (asked h (row_words h))
      → check_answer (check_of h number p q a b c d e f) ≡ sign_answer (holding h ones twos) number y s
  unfolding sign_answer_under
  sign_answer_here number y s ea eb ec ed ee ef = λ i. check_answer (check_of h number (ep i) (eq i) (ea i) (eb i) (ec i) (ed i) (ee i) (ef i))
