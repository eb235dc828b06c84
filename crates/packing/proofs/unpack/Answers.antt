-- Each return has the number of the first test that applies; the planes are written once nothing is refused.
-- Assumes nothing.
use mathlib.Core.Path.{◌≡◌, sym, ◌∙◌}
use native.Mathlib.Omega.{arith}
use lib.Dec.{lit<}
use Rattle.trits.proofs.Refusals.{exit_kept, exit_new}
use Rattle.trits.proofs.Outcomes.{handed_on, refused_positive}
use Rattle.trits.proofs.Reading.{reads_words}
use Rattle.packed.specs.Calls.{unpack_of, unpack_refusal, unpack_ones, unpack_twos}
use Rattle.packed.proofs.Turned.{unpack_size, unpack_bytes, unpack_ones_here, unpack_twos_here, unpack_passed}
use Rattle.packing.proofs.unpack.Goals as goal
use Rattle.packing.proofs.unpack.Goals.{then-bytes-m-via-then-bytes-m, then-bytes-m-via-else-bytes-m+then-ones-words}
use Rattle.packing.proofs.unpack.Goals.{then-bytes-m-via-else-bytes-m+else-ones-words+then-twos-words}

pub returns-then-m-gt16384 : goal.returns-then-m-gt16384
unfolding unpack_ones unpack_twos
returns-then-m-gt16384 c =
    let e = unpack_size _ _ _ _ c.if-m-gt16384.true in
    (e, exit_kept _ _ e (lit< tt), exit_kept _ _ e (lit< tt))

pub returns-then-bytes-m : goal.returns-then-bytes-m
unfolding unpack_ones unpack_twos
returns-then-bytes-m c =
    let fits = c.if-m-gt16384.false in
    let a = c.args in
    let e : 2 ≡ unpack_refusal (unpack_of a.m a.bytes.now a.ones.now a.twos.now) = elim c.then-bytes-m.branch [
      | then-bytes-m-via-then-bytes-m w ↦ unpack_bytes _ _ _ _ fits w.if-bytes-m.true
      | then-bytes-m-via-else-bytes-m+then-ones-words w ↦ unpack_ones_here _ _ _ _ fits w.if-bytes-m.false w.if-ones-words.true
      | then-bytes-m-via-else-bytes-m+else-ones-words+then-twos-words w ↦
          unpack_twos_here _ _ _ _ fits w.if-bytes-m.false w.if-ones-words.false w.if-twos-words.true
    ] in
    (e, exit_kept _ _ e (lit< tt), exit_kept _ _ e (lit< tt))

pub returns-in_err-test_bytes : goal.returns-in_err-test_bytes
unfolding unpack_ones unpack_twos
returns-in_err-test_bytes c =
    let e = handed_on _ _ c.from_residual.ensures.1 c.in_err-test_bytes.ensures
    ∙ unpack_passed _ _ _ _ c.if-m-gt16384.false c.if-bytes-m.false c.if-ones-words.false c.if-twos-words.false in
    let f = refused_positive _ c.from_residual.ensures.0 in
    (e, exit_kept _ _ e f, exit_kept _ _ e f)

pub write_packed-requires : goal.write_packed-requires
write_packed-requires c =
    record {
      ones_size = omega arith;
      twos_size = omega arith;
      bytes_size = omega arith;
      small = omega arith;
      not_refused = sym c.in_ok-test_bytes.ensures;
    }

pub returns : goal.returns
unfolding unpack_ones unpack_twos
returns c =
    let a = c.args in
    let e = unpack_passed _ _ _ _ c.if-m-gt16384.false c.if-bytes-m.false c.if-ones-words.false c.if-twos-words.false in
    let z = sym (c.in_ok-test_bytes.ensures ∙ e) in
    let w = reads_words c.write_packed.ensures c.if-ones-words.false (λ j. omega (arith, c.type_inv.ones j))
    (λ j. omega (arith, c.type_inv.twos j)) in
    (sym z, w.ones_are ∙ exit_new _ _ z, w.twos_are ∙ exit_new _ _ z)
