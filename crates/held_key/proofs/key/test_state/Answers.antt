-- The tests are made in the order of `row_refusal`, and each return tells what they found.
-- Assumes nothing.
use mathlib.Core.Path.{◌≡◌, sym, ap, ◌∙◌}
use mathlib.Core.Bool.{true, false}
use Prim.Native.Nat.{ℕ}
use lib.Dec.{eqb}
use lib.ListN.{length}
use borrow.Author.Tests.{eq-eqb, ne_eqb}
use Rattle.trits.specs.Refusal.{demand}
use Rattle.held_key.specs.declared.state.Held.{Held}
use Rattle.held_key.specs.Held.{sound, key_words}
use Rattle.held_key.specs.Store.{row_refusal, row_refusal_under}
use Rattle.held_key.proofs.key.test_state.Goals as goal
use Rattle.held_key.proofs.key.test_state.Goals.{then-key-words-via-then-key-words, then-key-words-via-else-key-words+then-key-words-2}

-- a sound state that lacks a row: the lengths decide
lengths_left : (h : Held) (ones twos : ℕ) → eqb h.begun 0 ≡ false → sound h ≡ true → eqb h.rows h.k ≡ false
    → row_refusal h ones twos ≡ demand (eqb ones (key_words h)) 2 (demand (eqb twos (key_words h)) 2 0)
unfolding row_refusal_under
lengths_left h ones twos b s r = rw (b, s, r)

pub returns-then-held-eq0-clause-refusal : goal.returns-then-held-eq0-clause-refusal
unfolding row_refusal_under
returns-then-held-eq0-clause-refusal c =
    rw (eq-eqb _ _ c.if-held-eq0.true)

pub returns-in_default-clause-refusal : goal.returns-in_default-clause-refusal
unfolding row_refusal_under
returns-in_default-clause-refusal c =
    rw (ne_eqb _ _ c.if-held-eq0.false, c.in_default.ensures)

pub returns-then-held-clause-refusal : goal.returns-then-held-clause-refusal
unfolding row_refusal_under
returns-then-held-clause-refusal c =
    let state_sound : sound c.args.held ≡ true = sym (ap sound c.in-Some.ensures) ∙ c.in-Some.begun.sound in
    rw (ne_eqb _ _ c.if-held-eq0.false, state_sound, eq-eqb _ _ c.if-held.true)

pub returns-then-key-words-clause-refusal : goal.returns-then-key-words-clause-refusal
returns-then-key-words-clause-refusal c =
    let a = c.args in
    let state_sound : sound a.held ≡ true = sym (ap sound c.in-Some.ensures) ∙ c.in-Some.begun.sound in
    let left = lengths_left a.held (length a.key.ones.now) (length a.key.twos.now) (ne_eqb _ _ c.if-held-eq0.false) state_sound (ne_eqb _ _ c.if-held.false) in
    let e = c.key_words-words.ensures ∙ ap key_words c.in-Some.ensures in
    elim c.then-key-words.branch [
      | then-key-words-via-then-key-words w ↦ rw (left, ne_eqb (length a.key.ones.now) (key_words a.held) (λ z. w.if-key-words.true (z ∙ sym e)))
      | then-key-words-via-else-key-words+then-key-words-2 w ↦
          rw (
            left,
            eq-eqb (length a.key.ones.now) (key_words a.held) (w.if-key-words.false ∙ e),
            ne_eqb (length a.key.twos.now) (key_words a.held) (λ z. w.if-key-words-2.true (z ∙ sym e)),
          )
    ]

pub returns-clause-refusal : goal.returns-clause-refusal
returns-clause-refusal c =
    let a = c.args in
    let state_sound : sound a.held ≡ true = sym (ap sound c.in-Some.ensures) ∙ c.in-Some.begun.sound in
    let left = lengths_left a.held (length a.key.ones.now) (length a.key.twos.now) (ne_eqb _ _ c.if-held-eq0.false) state_sound (ne_eqb _ _ c.if-held.false) in
    let e = c.key_words-words.ensures ∙ ap key_words c.in-Some.ensures in
    rw (
      left,
      eq-eqb (length a.key.ones.now) (key_words a.held) (c.if-key-words.false ∙ e),
      eq-eqb (length a.key.twos.now) (key_words a.held) (c.if-key-words-2.false ∙ e),
    )
