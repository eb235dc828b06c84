-- A turn writes one byte; the next is seven more, modulo 256.
-- Assumes nothing.
use Prim.Native.Nat.{◌+◌, ◌*◌, ◌%◌}
use mathlib.Core.Path.{◌≡◌}
use lib.ListN.{length}
use Rattle.trits.proofs.Patches.{Patched}
use Rattle.hash_cases.proofs.fill.Given as goal

abbrev pub invariant-loop-byte : goal.invariant-loop-byte
invariant-loop-byte l =
    (l.x ≡ (7 * l.byte-index + length l.initial.message) % 256)
    × Patched (λ j. (7 * j + length l.initial.message) % 256) 0 l.byte-index l.initial.message l.message
