-- By the two cases of the definition.
-- Assumes nothing.
use Rattle.build_matrix.specs.Steps.{col_of}
use borrow.Author.Tests.{lt-ltb, le-ltb}
use native.Mathlib.Omega.{arith}
use Rattle.build_columns.proofs.places.Places.column.Goals as goal

pub returns-then-q-self : goal.returns-then-q-self
unfolding col_of
returns-then-q-self c =
    rw (lt-ltb c.args.q c.args.self.half c.if-q-self.true)

pub returns-else-q-self : goal.returns-else-q-self
unfolding col_of
returns-else-q-self c =
    rw (le-ltb c.args.q c.args.self.half (omega arith))
