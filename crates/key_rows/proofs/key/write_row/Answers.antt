-- Each turn writes one word more (`patch_more`).
-- Assumes nothing.
use mathlib.Core.Path.{refl}
use native.Mathlib.Omega.{arith}
use lib.ListN.{length}
use Rattle.trits.proofs.Patches.{patched_all}
use Rattle.key_rows.specs.Steps.{each_block}
use Rattle.key_rows.proofs.key.write_row.Goals as goal

pub returns : goal.returns
unfolding each_block
returns c =
    patched_all (length c.args.row.now) c.loop-g.invariant refl (omega arith)
