-- Each number follows the one before, and its byte is written in its turn.
-- Assumes nothing.
use mathlib.Core.Path.{refl, ap, ◌∙◌}
use Prim.Native.Nat.{◌+◌}
use native.Mathlib.Omega.{arith}
use lib.ListN.{take, set}
use Rattle.sign_lines.specs.{number_after, packed_after}
use Rattle.sign_lines.proofs.Made.{number_next, packed_next}
use Rattle.sign_lines.proofs.samples.fill_bytes.Goals as goal

pub loop-byte-init : goal.loop-byte-init
unfolding number_after packed_after
loop-byte-init c = (refl, refl)

pub loop-byte-preserved : goal.loop-byte-preserved
loop-byte-preserved c =
    let l = c.loop-byte in
    let j = l.byte-index in
    let e = c.next-state.ensures ∙ number_next j c.args.x l.state l.invariant.0 in
    (e, ap (λ v. take (j + 1) (set l.bytes j v)) c.packed.ensures ∙ packed_next l.bytes j c.args.x c.next-state.result (omega arith) l.invariant.1 e)
