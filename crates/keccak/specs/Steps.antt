-- What the code's tables hold. No rule of the standard: code is tied to it. Assumes nothing.
use Rattle.std.specs.Prelude.{List, ℕ}
use Rattle.trits.specs.Planes.{tabulate}
use Rattle.keccak.specs.Keccak.{round_constant}

-- the constants of the 24 rounds
unfoldable pub constants_of : List ℕ
constants_of = tabulate round_constant 24
