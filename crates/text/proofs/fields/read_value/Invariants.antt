-- Each turn takes in one digit (`value_next`); a value that has become too large stays so (`value_le`).
-- Assumes nothing.
use Prim.Native.Nat.{◌<◌}
use mathlib.Core.Path.{◌≡◌}
use lib.ListN.{drop}
use Rattle.text.specs.Steps.{large}
use Rattle.text.specs.Numbers.{value_from}
use Rattle.text.proofs.fields.read_value.Given as goal

abbrev pub invariant-loop-b : goal.invariant-loop-b
invariant-loop-b l =
    (l.v < large) × (value_from l.v (drop l.b-index l.field) ≡ value_from 0 l.field)
