-- Each of the words f to v - 1 of row d becomes the sum of those of rows a and b (`within_more`).
-- Assumes nothing.
use Prim.Native.Nat.{◌<◌}
use native.Mathlib.Omega.{arith}
use Rattle.grid.proofs.Words.{other_word, joined_word, within_from, within_more, within_made}
use Rattle.grid.proofs.sums.sum_row.Goals as goal

pub loop-k-init : goal.loop-k-init
loop-k-init c = within_from c.requires.grid c.requires.d_in c.requires.width

pub loop-k-preserved : goal.loop-k-preserved
loop-k-preserved c =
    let m = c.loop-k.invariant in
    let n = m.making in
    let h : c.loop-k.k < c.args.w = omega (arith, c.requires.width) in
    within_more m (omega arith)
    (joined_word c.words.ensures (other_word n c.args.a c.requires.a_apart h) (other_word n c.args.b c.requires.b_apart h))

pub returns : goal.returns
returns c = within_made c.loop-k.invariant (omega arith)
