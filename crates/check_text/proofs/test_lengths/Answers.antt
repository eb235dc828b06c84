-- Two tests in the order of `text_lengths`, and what they found.
-- Assumes nothing.
use native.Mathlib.Omega.{arith}
use borrow.Author.Tests.{eq-eqb, ne_eqb}
use Rattle.held_key.proofs.Sizes.{sizes}
use Rattle.check_text.specs.TextCheck.{text_lengths}
use Rattle.check_text.proofs.test_lengths.Goals as goal
use Rattle.check_text.proofs.test_lengths.Goals.{then-salt-ne32-via-then-salt-ne32, then-salt-ne32-via-else-salt-ne32+then-s-begun}

pub overflow_add-begun : goal.overflow_add-begun
overflow_add-begun c =
    omega (arith, sizes _ c.args.begun.sound)

pub returns-then-salt-ne32 : goal.returns-then-salt-ne32
unfolding text_lengths
returns-then-salt-ne32 c =
    elim c.then-salt-ne32.branch [
      | then-salt-ne32-via-then-salt-ne32 w ↦ rw (ne_eqb _ _ w.if-salt-ne32.true)
      | then-salt-ne32-via-else-salt-ne32+then-s-begun w ↦ rw (eq-eqb _ _ w.if-salt-ne32.false, ne_eqb _ _ w.if-s-begun.true)
    ]

pub returns : goal.returns
unfolding text_lengths
returns c =
    rw (eq-eqb _ _ c.if-salt-ne32.false, eq-eqb _ _ c.if-s-begun.false)
