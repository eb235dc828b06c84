-- Four tests in the order of `planes_lengths`, and what they found.
-- Assumes nothing.
use mathlib.Core.Path.{sym, ◌∙◌}
use native.Mathlib.Omega.{arith}
use lib.ListN.{length}
use borrow.Author.Tests.{eq-eqb, ne_eqb}
use Rattle.held_key.specs.Held.{row_words}
use Rattle.held_key.proofs.Sizes.{sizes}
use Rattle.check_tests.specs.Check.{planes_lengths}
use Rattle.check_tests.proofs.test_lengths.Goals as goal
use Rattle.check_tests.proofs.test_lengths.Goals.{then-y-row-via-then-y-row, then-y-row-via-else-y-row+then-y-row-2}
use Rattle.check_tests.proofs.test_lengths.Goals.{then-y-row-via-else-y-row+else-y-row-2+then-s-words}
use Rattle.check_tests.proofs.test_lengths.Goals.{then-y-row-via-else-y-row+else-y-row-2+else-s-words+then-s-words-2}

pub overflow_add-words : goal.overflow_add-words
overflow_add-words c =
    omega (arith, sizes _ c.args.begun.sound)

pub returns-then-y-row : goal.returns-then-y-row
unfolding planes_lengths
returns-then-y-row c =
    let a = c.args in
    let e = c.row_words-row.ensures in
    elim c.then-y-row.branch [
      | then-y-row-via-then-y-row w ↦ rw (ne_eqb (length a.y.ones.now) (row_words a.begun.held) (λ z. w.if-y-row.true (z ∙ sym e)))
      | then-y-row-via-else-y-row+then-y-row-2 w ↦
          rw (
            eq-eqb (length a.y.ones.now) (row_words a.begun.held) (w.if-y-row.false ∙ e),
            ne_eqb (length a.y.twos.now) (row_words a.begun.held) (λ z. w.if-y-row-2.true (z ∙ sym e)),
          )
      | then-y-row-via-else-y-row+else-y-row-2+then-s-words w ↦
          rw (
            eq-eqb (length a.y.ones.now) (row_words a.begun.held) (w.if-y-row.false ∙ e),
            eq-eqb (length a.y.twos.now) (row_words a.begun.held) (w.if-y-row-2.false ∙ e),
            ne_eqb _ _ w.if-s-words.true,
          )
      | then-y-row-via-else-y-row+else-y-row-2+else-s-words+then-s-words-2 w ↦
          rw (
            eq-eqb (length a.y.ones.now) (row_words a.begun.held) (w.if-y-row.false ∙ e),
            eq-eqb (length a.y.twos.now) (row_words a.begun.held) (w.if-y-row-2.false ∙ e),
            eq-eqb _ _ w.if-s-words.false,
            ne_eqb _ _ w.if-s-words-2.true,
          )
    ]

pub returns : goal.returns
unfolding planes_lengths
returns c =
    let a = c.args in
    let e = c.row_words-row.ensures in
    rw (
      eq-eqb (length a.y.ones.now) (row_words a.begun.held) (c.if-y-row.false ∙ e),
      eq-eqb (length a.y.twos.now) (row_words a.begun.held) (c.if-y-row-2.false ∙ e),
      eq-eqb _ _ c.if-s-words.false,
      eq-eqb _ _ c.if-s-words-2.false,
    )
