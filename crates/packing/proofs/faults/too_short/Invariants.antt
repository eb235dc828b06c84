-- What is missing is counted down byte by byte; the stream is too short where something is missing at its end (`counted_out`).
-- Assumes nothing.
use Prim.Native.Nat.{◌-◌, ◌*◌}
use mathlib.Core.Path.{◌≡◌}
use Rattle.packed.proofs.Keeping.{given}
use Rattle.packing.proofs.faults.too_short.Given as goal

abbrev pub invariant-loop-b : goal.invariant-loop-b
invariant-loop-b l = l.left ≡ l.m - 5 * given l.bytes l.b-index
