-- Each of the words f to v - 1 of row d becomes that of row i (`within_more`).
-- Assumes nothing.
use Prim.Native.Nat.{◌<◌}
use native.Mathlib.Omega.{arith}
use Rattle.grid.proofs.Words.{other_word, within_from, within_more, within_made}
use Rattle.grid.proofs.sums.copy_words.Goals as goal

pub loop-k-init : goal.loop-k-init
loop-k-init c = within_from c.requires.grid c.requires.d_in c.requires.width

pub loop-k-preserved : goal.loop-k-preserved
loop-k-preserved c =
    let m = c.loop-k.invariant in
    let h : c.loop-k.k < c.args.w = omega (arith, c.requires.width) in
    within_more m (omega arith) (other_word m.making c.args.i c.requires.apart h)

pub returns : goal.returns
returns c = within_made c.loop-k.invariant (omega arith)
