-- After j turns the state is that after j blocks.
-- Assumes nothing.
use Prim.Native.Nat.{◌≤◌}
use mathlib.Core.Path.{◌≡◌}
use mathlib.Core.List.{◌++◌}
use Rattle.keccak.specs.Lanes.{lanes_of}
use Rattle.shake.specs.Shake.{absorbed}
use Rattle.shake.proofs.absorbing.absorb.Given as goal

abbrev pub invariant-loop-j : goal.invariant-loop-j
invariant-loop-j l = (l.j ≤ l.blocks) × (l.a ≡ lanes_of (absorbed (l.first ++ l.last) l.j))
