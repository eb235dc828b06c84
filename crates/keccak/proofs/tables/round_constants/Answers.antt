-- The table is the one that the rule of the register makes: antt computes its 24 constants and compares them.
-- Assumes nothing.
use mathlib.Core.Path.{refl}
use Rattle.trits.specs.Planes.{tabulate}
use Rattle.keccak.specs.Keccak.{round_constant, constant_before, register_bit, register}
use Rattle.keccak.specs.Steps.{constants_of}
use Rattle.keccak.proofs.tables.round_constants.Goals as goal

pub returns : goal.returns
unfolding constant_before constants_of register register_bit round_constant tabulate
returns c = refl
