-- Each turn lends the part of row j to the row writer, and what comes back is one row more (`written_turn`).
-- Assumes nothing.
use Prim.Native.Nat.{◌+◌, ◌-◌, ◌*◌}
use lib.ListN.{get_or}
use Rattle.key_rows.specs.Steps.{Written}
use Rattle.key_rows.proofs.key.write_group.Given as goal

abbrev pub invariant-loop-j : goal.invariant-loop-j
invariant-loop-j l =
    Written l.kw l.i l.j (λ m g. get_or l.plane (l.at + (m - l.i) + 64 * g) 0) l.initial.key l.key
