-- Each of the words f to v - 1 of row i becomes the difference of it and those of rows a, b and c (`within_more`).
-- Assumes nothing.
use Prim.Native.Nat.{◌<◌}
use native.Mathlib.Omega.{arith}
use Rattle.grid.proofs.Words.{own_word, other_word, joined_word, within_from, within_more, within_made}
use Rattle.grid.proofs.sums.sub_three.Goals as goal

pub loop-k-init : goal.loop-k-init
loop-k-init c = within_from c.requires.grid c.requires.i_in c.requires.width

pub loop-k-preserved : goal.loop-k-preserved
loop-k-preserved c =
    let a = c.args in
    let m = c.loop-k.invariant in
    let n = m.making in
    let h : c.loop-k.k < a.w = omega (arith, c.requires.width) in
    let first = joined_word c.words-x.ensures (own_word n h) (other_word n a.a c.requires.a_apart h) in
    let second = joined_word c.words-x-in-loop-k.ensures first (other_word n a.b c.requires.b_apart h) in
    within_more m (omega arith) (joined_word c.words.ensures second (other_word n a.c c.requires.c_apart h))

pub returns : goal.returns
returns c = within_made c.loop-k.invariant (omega arith)
