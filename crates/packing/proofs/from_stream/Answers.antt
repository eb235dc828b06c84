-- Each return has the number of the first test that applies; the planes are written once the stream is long enough.
-- Assumes nothing.
use mathlib.Core.Path.{◌≡◌, sym, ◌∙◌}
use native.Mathlib.Omega.{arith}
use lib.Dec.{lit<}
use Rattle.trits.proofs.Refusals.{exit_kept, exit_new}
use Rattle.trits.proofs.Reading.{reads_words}
use Rattle.packed.specs.Calls.{stream_of, stream_refusal, stream_ones, stream_twos}
use Rattle.packed.proofs.Turned.{stream_size, stream_ones_here, stream_twos_here, stream_passed, stream_decides, stream_long}
use Rattle.packing.proofs.from_stream.Goals as goal
use Rattle.packing.proofs.from_stream.Goals.{then-ones-words-via-then-ones-words, then-ones-words-via-else-ones-words+then-twos-words}

pub returns-then-m-gt16384 : goal.returns-then-m-gt16384
unfolding stream_ones stream_twos
returns-then-m-gt16384 c =
    let e = stream_size _ _ _ _ c.if-m-gt16384.true in
    (e, exit_kept _ _ e (lit< tt), exit_kept _ _ e (lit< tt))

pub returns-then-ones-words : goal.returns-then-ones-words
unfolding stream_ones stream_twos
returns-then-ones-words c =
    let fits = c.if-m-gt16384.false in
    let a = c.args in
    let e : 2 ≡ stream_refusal (stream_of a.m a.bytes.now a.ones.now a.twos.now) = elim c.then-ones-words.branch [
      | then-ones-words-via-then-ones-words w ↦ stream_ones_here _ _ _ _ fits w.if-ones-words.true
      | then-ones-words-via-else-ones-words+then-twos-words w ↦
          stream_twos_here _ _ _ _ fits w.if-ones-words.false w.if-twos-words.true
    ] in
    (e, exit_kept _ _ e (lit< tt), exit_kept _ _ e (lit< tt))

pub returns-then-too_short : goal.returns-then-too_short
unfolding stream_ones stream_twos
returns-then-too_short c =
    let a = c.args in
    let t = sym c.too_short.ensures ∙ c.if-too_short.true in
    let e = stream_decides a.m a.bytes.now t
    ∙ stream_passed _ _ _ _ c.if-m-gt16384.false c.if-ones-words.false c.if-twos-words.false in
    (e, exit_kept _ _ e (lit< tt), exit_kept _ _ e (lit< tt))

pub write_stream-requires : goal.write_stream-requires
write_stream-requires c =
    let a = c.args in
    let l = stream_long a.m a.bytes.now (sym c.too_short.ensures ∙ c.if-too_short.false) in
    omega arith

pub returns : goal.returns
unfolding stream_ones stream_twos
returns c =
    let a = c.args in
    let t = sym c.too_short.ensures ∙ c.if-too_short.false in
    let z = sym (stream_decides a.m a.bytes.now t ∙ stream_passed _ _ _ _ c.if-m-gt16384.false c.if-ones-words.false c.if-twos-words.false) in
    let w = reads_words c.write_stream.ensures c.if-ones-words.false (λ j. omega (arith, c.type_inv.ones j))
    (λ j. omega (arith, c.type_inv.twos j)) in
    (sym z, w.ones_are ∙ exit_new _ _ z, w.twos_are ∙ exit_new _ _ z)
