-- Two tests in the order of `packed_lengths`, and what they found.
-- Assumes nothing.
use mathlib.Core.Path.{sym, ap, ◌∙◌}
use native.Mathlib.Omega.{arith}
use lib.ListN.{length}
use borrow.Author.Tests.{eq-eqb, ne_eqb}
use Rattle.packed.specs.Packed.{bytes_for}
use Rattle.held_key.specs.Held.{row_trits}
use Rattle.held_key.proofs.Sizes.{sizes}
use Rattle.check_tests.specs.Check.{packed_lengths}
use Rattle.check_tests.proofs.test_packed_lengths.Goals as goal
use Rattle.check_tests.proofs.test_packed_lengths.Goals.{then-y-row_trits-via-then-y-row_trits, then-y-row_trits-via-else-y-row_trits+then-s-begun}

pub overflow_add-row_trits : goal.overflow_add-row_trits
overflow_add-row_trits c =
    omega (arith, sizes _ c.args.begun.sound, c.row_trits.ensures)

pub overflow_add-begun : goal.overflow_add-begun
overflow_add-begun c =
    omega (arith, sizes _ c.args.begun.sound)

pub returns-then-y-row_trits : goal.returns-then-y-row_trits
unfolding packed_lengths
returns-then-y-row_trits c =
    let a = c.args in
    let e = ap bytes_for c.row_trits.ensures in
    elim c.then-y-row_trits.branch [
      | then-y-row_trits-via-then-y-row_trits w ↦
          rw (ne_eqb (length a.y.now) (bytes_for (row_trits a.begun.held)) (λ z. w.if-y-row_trits.true (z ∙ sym e)))
      | then-y-row_trits-via-else-y-row_trits+then-s-begun w ↦
          rw (eq-eqb (length a.y.now) (bytes_for (row_trits a.begun.held)) (w.if-y-row_trits.false ∙ e), ne_eqb _ _ w.if-s-begun.true)
    ]

pub returns : goal.returns
unfolding packed_lengths
returns c =
    let a = c.args in
    let e = ap bytes_for c.row_trits.ensures in
    rw (eq-eqb (length a.y.now) (bytes_for (row_trits a.begun.held)) (c.if-y-row_trits.false ∙ e), eq-eqb _ _ c.if-s-begun.false)
