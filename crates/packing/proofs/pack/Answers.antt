-- Each return has the number of the first test that applies; the bytes are written once nothing is refused, and so the planes are a row that is 0
-- past its length.
-- Assumes nothing.
use mathlib.Core.Path.{◌≡◌, sym, ◌∙◌}
use native.Mathlib.Omega.{arith}
use lib.Dec.{lit<}
use Rattle.trits.proofs.Refusals.{row_ended, exit_kept, exit_new}
use Rattle.trits.proofs.Outcomes.{handed_on, refused_positive}
use Rattle.packed.specs.Calls.{pack_of, pack_refusal, pack_exit}
use Rattle.packed.proofs.Turned.{pack_size, pack_ones, pack_twos, pack_bytes, pack_passed}
use Rattle.packing.proofs.pack.Goals as goal
use Rattle.packing.proofs.pack.Goals.{then-ones-words-via-then-ones-words, then-ones-words-via-else-ones-words+then-twos-words}
use Rattle.packing.proofs.pack.Goals.{then-ones-words-via-else-ones-words+else-twos-words+then-bytes-m}

pub returns-then-m-gt16384 : goal.returns-then-m-gt16384
unfolding pack_exit
returns-then-m-gt16384 c =
    let e = pack_size _ _ _ _ c.if-m-gt16384.true in
    (e, exit_kept _ _ e (lit< tt))

pub returns-then-ones-words : goal.returns-then-ones-words
unfolding pack_exit
returns-then-ones-words c =
    let fits = c.if-m-gt16384.false in
    let a = c.args in
    let e : 2 ≡ pack_refusal (pack_of a.m a.row.ones.now a.row.twos.now a.bytes.now) = elim c.then-ones-words.branch [
      | then-ones-words-via-then-ones-words w ↦ pack_ones _ _ _ _ fits w.if-ones-words.true
      | then-ones-words-via-else-ones-words+then-twos-words w ↦ pack_twos _ _ _ _ fits w.if-ones-words.false w.if-twos-words.true
      | then-ones-words-via-else-ones-words+else-twos-words+then-bytes-m w ↦
          pack_bytes _ _ _ _ fits w.if-ones-words.false w.if-twos-words.false w.if-bytes-m.true
    ] in
    (e, exit_kept _ _ e (lit< tt))

pub returns-in_err-test_planes : goal.returns-in_err-test_planes
unfolding pack_exit
returns-in_err-test_planes c =
    let e = handed_on _ _ c.from_residual.ensures.1 c.in_err-test_planes.ensures.refusal
    ∙ pack_passed _ _ _ _ c.if-m-gt16384.false c.if-bytes-m.false c.if-ones-words.false c.if-twos-words.false in
    (e, exit_kept _ _ e (refused_positive _ c.from_residual.ensures.0))

pub read_bytes-requires : goal.read_bytes-requires
read_bytes-requires c =
    let a = c.args in
    let lo = c.if-ones-words.false in
    let lt = c.if-twos-words.false in
    let z = sym c.in_ok-test_planes.ensures.refusal in
    record {
      row = c.in_ok-test_planes.ensures.readable;
      trits_fit = omega arith;
      ended = row_ended a.row.ones.now a.row.twos.now a.m z lo lt;
      small = omega arith;
      bytes_size = c.if-bytes-m.false;
    }

pub returns : goal.returns
unfolding pack_exit
returns c =
    let e = pack_passed _ _ _ _ c.if-m-gt16384.false c.if-bytes-m.false c.if-ones-words.false c.if-twos-words.false in
    let z = sym (c.in_ok-test_planes.ensures.refusal ∙ e) in
    (sym z, c.read_bytes.ensures ∙ exit_new _ _ z)
