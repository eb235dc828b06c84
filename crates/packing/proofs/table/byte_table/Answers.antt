-- The table is the one that the base-3 rule makes: antt computes the rule's 1,215 digits and compares them with the table's.
-- Assumes nothing.
use mathlib.Core.Path.{refl}
use Rattle.trits.specs.Planes.{tabulate}
use Rattle.packed.specs.Packed.{digit_of, byte_table}
use Rattle.packing.proofs.table.byte_table.Goals as goal

pub returns : goal.returns
unfolding byte_table digit_of tabulate
returns c = refl
