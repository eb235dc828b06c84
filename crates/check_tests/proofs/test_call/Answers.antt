-- The tests are made in the order of `call_refusal`, and each return tells what they found.
-- Assumes nothing.
use mathlib.Core.Path.{◌≡◌, sym, ap, ◌∙◌}
use mathlib.Core.Bool.{true, false}
use Prim.Native.Nat.{ℕ}
use native.Mathlib.Omega.{arith}
use lib.Dec.{eqb}
use borrow.Author.Tests.{eq-eqb, ne_eqb}
use Rattle.trits.specs.Refusal.{demand}
use Rattle.held_key.specs.declared.state.Held.{Held}
use Rattle.held_key.specs.Held.{sound, row_words, key_words}
use Rattle.check_tests.specs.Check.{call_refusal, call_refusal_under}
use Rattle.check_tests.proofs.test_call.Goals as goal
use Rattle.check_tests.proofs.test_call.Goals.{then-ones-words-via-then-ones-words, then-ones-words-via-else-ones-words+then-twos-words}
use Rattle.check_tests.proofs.test_call.Goals.{then-work_ones-row-via-then-work_ones-row, then-work_ones-row-via-else-work_ones-row+then-work_twos-row}

module _ (h : Held) (number a b d e : ℕ) (begun : eqb h.begun 0 ≡ false) (is_sound : sound h ≡ true) (whole : eqb h.rows h.k ≡ true)
    (named : eqb number h.number ≡ true) where
  -- once the key is whole and the one named, the lengths decide
  lengths_left : call_refusal h number a b d e
      ≡ demand (eqb a (key_words h)) 2 (demand (eqb b (key_words h)) 2 (demand (eqb d (row_words h)) 2 (demand (eqb e (row_words h)) 2 0)))
  unfolding call_refusal_under
  lengths_left = rw (begun, is_sound, whole, named)

  -- and once both planes have theirs, the working space
  work_left : a ≡ key_words h → b ≡ key_words h → call_refusal h number a b d e ≡ demand (eqb d (row_words h)) 2 (demand (eqb e (row_words h)) 2 0)
  work_left p q = rw (lengths_left, eq-eqb a (key_words h) p, eq-eqb b (key_words h) q)

pub returns-then-held-eq0-clause-refusal : goal.returns-then-held-eq0-clause-refusal
unfolding call_refusal_under
returns-then-held-eq0-clause-refusal c =
    rw (eq-eqb _ _ c.if-held-eq0.true)

pub returns-in_default-clause-refusal : goal.returns-in_default-clause-refusal
unfolding call_refusal_under
returns-in_default-clause-refusal c =
    rw (ne_eqb _ _ c.if-held-eq0.false, c.in_default.ensures)

pub returns-then-held-clause-refusal : goal.returns-then-held-clause-refusal
unfolding call_refusal_under
returns-then-held-clause-refusal c =
    let state_sound : sound c.args.held ≡ true = sym (ap sound c.in-Some.ensures) ∙ c.in-Some.begun.sound in
    rw (ne_eqb _ _ c.if-held-eq0.false, state_sound, ne_eqb _ _ c.if-held.true)

pub returns-then-number-held-clause-refusal : goal.returns-then-number-held-clause-refusal
unfolding call_refusal_under
returns-then-number-held-clause-refusal c =
    let a = c.args in
    let state_sound : sound a.held ≡ true = sym (ap sound c.in-Some.ensures) ∙ c.in-Some.begun.sound in
    rw (
      ne_eqb _ _ c.if-held-eq0.false,
      state_sound,
      eq-eqb _ _ c.if-held.false,
      ne_eqb a.number a.held.number (λ e. omega (arith, e, c.if-number-held.true)),
    )

pub returns-then-ones-words-clause-refusal : goal.returns-then-ones-words-clause-refusal
returns-then-ones-words-clause-refusal c =
    let a = c.args in
    let state_sound : sound a.held ≡ true = sym (ap sound c.in-Some.ensures) ∙ c.in-Some.begun.sound in
    let left = lengths_left a.held a.number a.ones a.twos a.work_ones a.work_twos
    (ne_eqb _ _ c.if-held-eq0.false) state_sound (eq-eqb _ _ c.if-held.false) (eq-eqb _ _ (omega (arith, c.if-number-held.false))) in
    let e = c.key_words-words.ensures ∙ ap key_words c.in-Some.ensures in
    elim c.then-ones-words.branch [
      | then-ones-words-via-then-ones-words w ↦
          rw (left, ne_eqb a.ones (key_words a.held) (λ z. w.if-ones-words.true (z ∙ sym e)))
      | then-ones-words-via-else-ones-words+then-twos-words w ↦
          rw (
            left,
            eq-eqb a.ones (key_words a.held) (w.if-ones-words.false ∙ e),
            ne_eqb a.twos (key_words a.held) (λ z. w.if-twos-words.true (z ∙ sym e)),
          )
    ]

pub returns-then-work_ones-row-clause-refusal : goal.returns-then-work_ones-row-clause-refusal
returns-then-work_ones-row-clause-refusal c =
    let a = c.args in
    let state_sound : sound a.held ≡ true = sym (ap sound c.in-Some.ensures) ∙ c.in-Some.begun.sound in
    let e = c.key_words-words.ensures ∙ ap key_words c.in-Some.ensures in
    let r = c.row_words-row.ensures ∙ ap row_words c.in-Some.ensures in
    let left = work_left a.held a.number a.ones a.twos a.work_ones a.work_twos
    (ne_eqb _ _ c.if-held-eq0.false) state_sound (eq-eqb _ _ c.if-held.false) (eq-eqb _ _ (omega (arith, c.if-number-held.false)))
    (c.if-ones-words.false ∙ e) (c.if-twos-words.false ∙ e) in
    elim c.then-work_ones-row.branch [
      | then-work_ones-row-via-then-work_ones-row w ↦
          rw (left, ne_eqb a.work_ones (row_words a.held) (λ z. w.if-work_ones-row.true (z ∙ sym r)))
      | then-work_ones-row-via-else-work_ones-row+then-work_twos-row w ↦
          rw (
            left,
            eq-eqb a.work_ones (row_words a.held) (w.if-work_ones-row.false ∙ r),
            ne_eqb a.work_twos (row_words a.held) (λ z. omega (arith, z, r, w.if-work_twos-row.true)),
          )
    ]

pub returns-clause-refusal : goal.returns-clause-refusal
returns-clause-refusal c =
    let a = c.args in
    let state_sound : sound a.held ≡ true = sym (ap sound c.in-Some.ensures) ∙ c.in-Some.begun.sound in
    let e = c.key_words-words.ensures ∙ ap key_words c.in-Some.ensures in
    let r = c.row_words-row.ensures ∙ ap row_words c.in-Some.ensures in
    let left = work_left a.held a.number a.ones a.twos a.work_ones a.work_twos
    (ne_eqb _ _ c.if-held-eq0.false) state_sound (eq-eqb _ _ c.if-held.false) (eq-eqb _ _ (omega (arith, c.if-number-held.false)))
    (c.if-ones-words.false ∙ e) (c.if-twos-words.false ∙ e) in
    rw (
      left,
      eq-eqb a.work_ones (row_words a.held) (c.if-work_ones-row.false ∙ r),
      eq-eqb a.work_twos (row_words a.held) (omega (arith, r, c.if-work_twos-row.false)),
    )
