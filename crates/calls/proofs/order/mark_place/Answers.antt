-- By the two cases of the definition.
-- Assumes nothing.
use mathlib.Core.Path.{refl}
use native.Mathlib.Omega.{arith}
use lib.ListN.{length-set}
use Rattle.calls.proofs.Marks.{mark_in, mark_out}
use Rattle.calls.proofs.order.mark_place.Goals as goal

pub bounds-flags-v : goal.bounds-flags-v
bounds-flags-v c =
    omega (arith, c.if-v-n.true, c.requires)

pub shape_of-flags : goal.shape_of-flags
shape_of-flags c =
    simp length-set refl

pub returns-then-v-n : goal.returns-then-v-n
returns-then-v-n c =
    mark_in _ _ _ c.if-v-n.true

pub returns-else-v-n : goal.returns-else-v-n
returns-else-v-n c =
    mark_out _ _ _ c.if-v-n.false
