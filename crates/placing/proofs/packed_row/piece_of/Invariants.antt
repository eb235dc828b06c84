-- A turn takes one byte more before those that are taken (`piece_more`).
-- Assumes nothing.
use Prim.Native.Nat.{◌+◌, ◌-◌, ◌*◌, ◌≤◌}
use mathlib.Core.Path.{◌≡◌}
use Rattle.packed.specs.Packed.{packed_row}
use Rattle.packed.specs.Steps.{piece_of}
use Rattle.placing.proofs.packed_row.piece_of.Given as goal

abbrev pub invariant-loop-i : goal.invariant-loop-i
invariant-loop-i l =
    (l.from ≤ l.i) × (l.i ≤ l.to) × (l.piece ≡ piece_of (λ k. packed_row l.bytes (5 * l.i + k)) (5 * (l.to - l.i)))
