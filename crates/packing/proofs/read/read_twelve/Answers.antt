-- A turn writes one byte of the part; words that are shifted alike have no bit in both where they had none before (`further_apart`).
-- Assumes nothing.
use Prim.Native.Nat.{◌*◌}
use mathlib.Core.Path.{refl}
use native.Mathlib.Omega.{arith}
use Rattle.trits.proofs.Patches.{patch_none, patch_more, patched_all}
use Rattle.packed.specs.Steps.{byte_from}
use Rattle.packed.proofs.Values.{further_apart}
use Rattle.packing.proofs.read.read_twelve.Goals as goal

pub loop-k-init : goal.loop-k-init
loop-k-init c = (omega arith, patch_none _ _ _)

pub five_trits-requires : goal.five_trits-requires
five_trits-requires c =
    record { is_table = c.requires.is_table; apart = further_apart c.args.x c.args.y c.requires.apart (5 * c.loop-k.k) }

pub loop-k-preserved : goal.loop-k-preserved
unfolding byte_from
loop-k-preserved c =
    let l = c.loop-k in
    (omega arith, patch_more l.invariant.1 l.k _ (omega arith) (omega arith) c.five_trits.ensures)

pub shape_of-part : goal.shape_of-part
shape_of-part c = c.loop-k.invariant.1.kept

pub returns : goal.returns
returns c =
    patched_all _ c.loop-k.invariant.1 refl (omega arith)
