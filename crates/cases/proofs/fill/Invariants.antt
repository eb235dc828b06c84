-- A turn writes one byte, and the next one is seven more modulo 243.
-- Assumes nothing.
use Prim.Native.Nat.{◌+◌, ◌*◌, ◌%◌}
use mathlib.Core.Path.{◌≡◌}
use Rattle.trits.proofs.Patches.{Patched}
use Rattle.cases.proofs.fill.Given as goal

abbrev pub invariant-loop-byte : goal.invariant-loop-byte
invariant-loop-byte l =
    (l.x ≡ (7 * l.byte-index + 3) % 243) × Patched (λ k. (7 * k + 3) % 243) 0 l.byte-index l.initial.bytes l.bytes
