-- By the test: the sum, or the sum less n.
-- Assumes nothing.
use native.Mathlib.Omega.{arith}
use Rattle.sign_lines.proofs.Made.{turned_within, turned_over}
use Rattle.sign_lines.proofs.samples.turn.Goals as goal

pub returns-then-q-a-clause-value : goal.returns-then-q-a-clause-value
returns-then-q-a-clause-value c =
    turned_within c.args.n c.args.a c.args.q (omega arith)

pub returns-else-q-a-clause-value : goal.returns-else-q-a-clause-value
returns-else-q-a-clause-value c =
    turned_over c.args.n c.args.a c.args.q (omega arith)
