-- Each turn writes one word more (`patch_more`).
-- Assumes nothing.
use Prim.Native.Nat.{◌+◌, ◌*◌}
use lib.ListN.{get_or}
use Rattle.trits.proofs.Patches.{Patched}
use Rattle.key_rows.proofs.key.write_row.Given as goal

abbrev pub invariant-loop-g : goal.invariant-loop-g
invariant-loop-g l =
    Patched (λ m. get_or l.plane (l.at + 64 * m) 0) 0 l.g l.initial.row l.row
