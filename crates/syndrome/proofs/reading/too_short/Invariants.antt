-- What is missing is counted down byte by byte of the output (`missing_turn`, `Gives`).
-- Assumes nothing.
use Prim.Native.Nat.{◌-◌, ◌*◌}
use mathlib.Core.Path.{◌≡◌}
use Rattle.packed.proofs.Keeping.{given}
use Rattle.keccak.specs.Lanes.{lane_at}
use Rattle.shake.specs.Output.{Gives}
use Rattle.syndrome.specs.Steps.{output_for}
use Rattle.syndrome.proofs.reading.too_short.Given as goal

abbrev pub invariant-loop-read : goal.invariant-loop-read
invariant-loop-read l =
    (l.left ≡ l.m - 5 * given (output_for l.m l.fn.a) l._read) × Gives (lane_at l.fn.a) l._read l.output.state l.output.block l.output.place
