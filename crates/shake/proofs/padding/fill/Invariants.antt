-- A turn writes one byte of the padded message.
-- Assumes nothing.
use Prim.Native.Nat.{◌+◌, ◌≤◌}
use mathlib.Core.List.{◌++◌}
use lib.ListN.{length}
use Rattle.trits.proofs.Patches.{Patched}
use Rattle.shake.specs.Shake.{padded_byte}
use Rattle.shake.proofs.padding.fill.Given as goal

abbrev pub invariant-loop-i : goal.invariant-loop-i
invariant-loop-i l = (l.i ≤ length l.initial.block) × Patched (λ j. padded_byte (l.first ++ l.last) (l.start + j)) 0 l.i l.initial.block l.block
