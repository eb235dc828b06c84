-- Each turn exchanges one word of the two rows (`swap_turn`), which share none.
-- Assumes nothing.
use Prim.Native.Nat.{◌+◌}
use mathlib.Core.Path.{sym, subst}
use native.Mathlib.Omega.{arith}
use Rattle.grid.proofs.Swaps.{SwappedTo, swap_turn}
use Rattle.grid.proofs.two_rows.swap_plane.Goals as goal

pub loop-j-preserved : goal.loop-j-preserved
loop-j-preserved c =
    let t = swap_turn c.loop-j.invariant c.requires.size c.requires.a_in c.requires.b_in (omega arith) in
    subst (SwappedTo c.args.a c.args.b c.args.w (c.loop-j.j + 1) c.args.plane.now) (sym c.swap.ensures.after) t
