-- What a line prints and keeps: refusals, sizes too large for any range, and a text byte by byte. Assumes nothing.
use mathlib.Core.Path.{◌≡◌, refl, sym, ap, ◌∙◌}
use mathlib.Core.Bool.{◌&&◌}
use mathlib.Core.List.{List, []}
use Prim.Native.Nat.{ℕ, ◌-◌, ◌%◌, ◌≤◌, ◌<◌}
use native.Mathlib.Decide.{dec_lt, ℕ_discrete}
use native.Mathlib.Omega.{arith}
use borrow.Author.Tests.{eq-eqb, ne_eqb, le-leb, lt-leb, lt-ltb, le-ltb, leb-true, ltb-false}
use lib.Dec.{eqb, leb, ltb, lit<}
use Rattle.trits.specs.Rows.{put_words}
use Rattle.trits.proofs.Refusals.{passed_refuse, passed_demand}
use Rattle.text.specs.Forms.{Line, no_form, key_line, row_line, sign_line}
use Rattle.text.specs.Steps.{at_most_large, bounded, large}
use Rattle.text.specs.Answers.{line_refused, verdict_answer, sign_refused}
use Rattle.text.proofs.Numbers.{value_small, value_large}
use Rattle.held_key.specs.declared.state.Held.{Held}
use Rattle.check_tests.specs.declared.Checked.{Checked}
use Rattle.held_key.specs.Held.{most_key_number, numbers_fit, numbers_fit_under}
use Rattle.held_key.specs.Store.{begin_refusal, begin_refusal_under, begin_held}
use Rattle.held_key.proofs.Sizes.{and_both}
use Rattle.held_key.specs.Load.{Holding}
use Rattle.text_line.specs.Answer.{key_refusal, key_refusal_under, key_held, key_held_under, refusal_prints, sign_prints, line_prints, line_prints_under}
use Rattle.text_line.specs.Answer.{line_kept, line_kept_under}

-- nothing printed leaves the buffer
pub none_put : (l : List ℕ) → l ≡ put_words 0 l []
unfolding put_words
none_put l = refl

-- ---- what is printed

pub printed_none : (r : ℕ) → r ≡ 0 → [] ≡ refusal_prints r
unfolding refusal_prints
printed_none r e = rw (eq-eqb r 0 e)

pub printed_refusal : (r : ℕ) → (r ≡ 0 → ⊥) → line_refused r ≡ refusal_prints r
unfolding refusal_prints
printed_refusal r f = rw (ne_eqb r 0 f)

module _ (number formula : ℕ) (c : Checked) where
  pub sign_verdict : c.refusal ≡ 0 → verdict_answer number formula c.ones c.twos (eqb c.yes 1) ≡ sign_prints number formula c
  unfolding sign_prints
  sign_verdict e = rw (eq-eqb c.refusal 0 e)

  pub sign_refused_here : (c.refusal ≡ 0 → ⊥) → sign_refused number formula c.refusal ≡ sign_prints number formula c
  unfolding sign_prints
  sign_refused_here f = rw (ne_eqb c.refusal 0 f)

-- ---- P

module _ (h : Held) (number n k w : ℕ) where
  pub key_long : 256 < n → (1 ≡ key_refusal number n k w) × (h ≡ key_held h number n k w)
  unfolding key_held_under key_refusal_under
  key_long l = (rw (lt-ltb 256 n l), rw (lt-ltb 256 n l))

  pub key_short : n ≤ 256 → (begin_refusal number n k w ≡ key_refusal number n k w) × (begin_held h number n k w ≡ key_held h number n k w)
  unfolding key_held_under key_refusal_under begin_held
  key_short l = (rw (le-ltb 256 n l), rw (le-ltb 256 n l))

-- ---- sizes too large for any range

-- a number that counts as large is on the same side of any bound
below_same : (v x : ℕ) → x < large → leb (at_most_large v) x ≡ leb v x
below_same v x h = by (dec_lt v large)
  where
    by : Dec (v < large) → leb (at_most_large v) x ≡ leb v x
    by (yes l) = ap (λ (u : ℕ). leb u x) (sym (value_small v l))
    by (no l) = ap (λ (u : ℕ). leb u x) (sym (value_large v (omega arith))) ∙ lt-leb large x (omega arith) ∙ sym (lt-leb v x (omega arith))

above_same : (v x : ℕ) → x < large → leb x (at_most_large v) ≡ leb x v
above_same v x h = by (dec_lt v large)
  where
    by : Dec (v < large) → leb x (at_most_large v) ≡ leb x v
    by (yes l) = ap (leb x) (sym (value_small v l))
    by (no l) = ap (leb x) (sym (value_large v (omega arith))) ∙ le-leb x large (omega arith) ∙ sym (le-leb x v (omega arith))

module _ (number n k w : ℕ) where
  fit_same : n ≤ 256 → numbers_fit number n (at_most_large k) (at_most_large w) ≡ numbers_fit number n k w
  unfolding numbers_fit_under
  fit_same l =
      λ i. leb number most_key_number && (leb 4 n && (leb n 16384 &&
      (eqb (n % 2) 0 && (above_same k 2 (omega arith) i && (below_same k (n - 2) (omega arith) i &&
      (above_same w 1 (omega arith) i && below_same w n (omega arith) i))))))

  pub refusal_same : key_refusal number (at_most_large n) (at_most_large k) (at_most_large w) ≡ key_refusal number n k w
  unfolding key_refusal_under begin_refusal_under
  refusal_same = by (dec_lt 256 n) (dec_lt n large)
    where
      by : Dec (256 < n) → Dec (n < large) → key_refusal number (at_most_large n) (at_most_large k) (at_most_large w) ≡ key_refusal number n k w
      by (yes l) (no z) = rw (← value_large n (omega arith), lt-ltb 256 n l)
      by (yes l) (yes z) = rw (← value_small n z, lt-ltb 256 n l)
      by (no l) z = rw (← value_small n (omega arith), le-ltb 256 n (omega arith), fit_same (omega arith))

  -- what is not refused is in reach
  small : key_refusal number n k w ≡ 0 → (n < large) × (k < large) × (w < large)
  unfolding key_refusal_under begin_refusal_under numbers_fit_under
  small z =
      let p = passed_refuse (ltb 256 n) 1 (begin_refusal number n k w) (lit< tt) z in
      let f = (passed_demand (numbers_fit number n k w) 1 0 (lit< tt) p.1).0 in
      let a = (and_both (leb number most_key_number) _ f).1 in
      let b = (and_both (leb 4 n) _ a).1 in
      let c = (and_both (leb n 16384) _ b).1 in
      let d = (and_both (eqb (n % 2) 0) _ c).1 in
      let e = (and_both (leb 2 k) _ d).1 in
      let g = and_both (leb k (n - 2)) _ e in
      let j = and_both (leb 1 w) (leb w n) g.1 in
      let l = ltb-false 256 n p.0 in
      (omega (arith, l), omega (arith, l, leb-true k (n - 2) g.0), omega (arith, l, leb-true w n j.1))

-- a refused key leaves the held one
key_refused : (h : Held) (number n k w : ℕ) → (key_refusal number n k w ≡ 0 → ⊥) → key_held h number n k w ≡ h
unfolding key_held_under
key_refused h number n k w f = rw (ne_eqb (key_refusal number n k w) 0 f)

module _ (h : Held) (number n k w : ℕ) where
  pub held_same : key_held h number (at_most_large n) (at_most_large k) (at_most_large w) ≡ key_held h number n k w
  held_same = by (ℕ_discrete (key_refusal number n k w) 0)
    where
      by : Dec (key_refusal number n k w ≡ 0) → key_held h number (at_most_large n) (at_most_large k) (at_most_large w) ≡ key_held h number n k w
      by (yes z) =
          let s = small number n k w z in λ i. key_held h number (sym (value_small n s.0) i) (sym (value_small k s.1) i) (sym (value_small w s.2) i)
      by (no f) = key_refused h number _ _ _ (λ z. f (sym (refusal_same number n k w) ∙ z)) ∙ sym (key_refused h number n k w f)

-- ---- a line as it is read, with sizes that count as large

pub prints_same : (kept : Holding) (l : Line) → line_prints kept (bounded l) ≡ line_prints kept l
unfolding line_prints_under bounded
prints_same kept no_form = refl
prints_same kept (key_line number n k w) = ap refusal_prints (refusal_same number n k w)
prints_same kept (row_line digits) = refl
prints_same kept (sign_line number formula y s) = refl

pub kept_same : (kept : Holding) (l : Line) → line_kept kept (bounded l) ≡ line_kept kept l
unfolding line_kept_under bounded
kept_same kept no_form = refl
kept_same kept (key_line number n k w) = λ i. record { held = held_same kept.held number n k w i; ones = kept.ones; twos = kept.twos }
kept_same kept (row_line digits) = refl
kept_same kept (sign_line number formula y s) = refl

-- the answer to a line from what its form says
module _ (kept : Holding) (l : Line) {f : Line} (e : f ≡ bounded l) where
  pub line_kept_law : line_kept kept f ≡ line_kept kept l
  line_kept_law = ap (line_kept kept) e ∙ kept_same kept l

  pub line_prints_here : line_prints kept f ≡ line_prints kept l
  line_prints_here = ap (line_prints kept) e ∙ prints_same kept l
