-- The bits stand in one word, or in two of which the second is moved behind the first (`twelve_within`, `twelve_across`).
-- Assumes nothing.
use Prim.Native.Nat.{◌/◌}
use native.Mathlib.Omega.{arith}
use Rattle.tables.proofs.Numbers.{twelve_within, twelve_across}
use Rattle.tables.proofs.entries.twelve_from.Goals as goal

pub returns-then-b-gt52 : goal.returns-then-b-gt52
returns-then-b-gt52 c =
    let plane = c.args.plane.now in
    twelve_across plane c.args.p (omega arith) (c.type_inv.plane (c.args.p / 64)).fits

pub returns-else-b-gt52 : goal.returns-else-b-gt52
returns-else-b-gt52 c =
    twelve_within c.args.plane.now c.args.p (omega arith)
