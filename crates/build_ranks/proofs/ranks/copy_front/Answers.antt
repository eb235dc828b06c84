-- Each turn copies one row more (`fronts_turn`).
-- Assumes nothing.
use mathlib.Core.List.{List}
use Prim.Native.Nat.{ℕ, ◌+◌, ◌-◌, ◌*◌, ◌≤◌, ◌<◌}
use native.Mathlib.Omega.{arith}
use lib.ListN.{length}
use Rattle.trits.proofs.Matrix.{row_le}
use Rattle.build_ranks.specs.Steps.{ForCopyFront}
use Rattle.build_ranks.proofs.Fronts.{fronts_turn}
use Rattle.build_ranks.proofs.ranks.copy_front.Goals as goal

-- the words of row i that are copied, and the room for them
row_fits : {plane work : List ℕ} {w rows v i : ℕ} → ForCopyFront plane w rows v work → i < rows
    → (i * w + v ≤ length plane) × (i * v + v ≤ length work)
row_fits {w = w} {v = v} f h = (omega (arith, row_le w h, f.size, f.width), omega (arith, row_le v h, f.room))

pub loop-i-preserved : goal.loop-i-preserved
loop-i-preserved c =
    let l = c.loop-i in
    let a = c.args in
    let f = row_fits c.requires c.loop-i-test.true in
    fronts_turn (l.i * a.w + a.v - l.i * a.w) (omega arith) l.invariant f.0 f.1 c.put_row.ensures
