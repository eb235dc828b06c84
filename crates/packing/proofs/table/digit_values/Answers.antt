-- The table is the one that the base-3 rule makes: antt computes the rule's 32 numbers and compares them with the table's.
-- Assumes nothing.
use mathlib.Core.Path.{refl}
use Rattle.trits.specs.Planes.{bit, tabulate}
use Rattle.packed.specs.Steps.{five_digits, digit_values}
use Rattle.packing.proofs.table.digit_values.Goals as goal

pub returns : goal.returns
unfolding bit digit_values five_digits tabulate
returns c = refl
