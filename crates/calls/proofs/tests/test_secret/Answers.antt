-- Each return has the number of the first test that applies.
-- Assumes nothing.
use mathlib.Core.Path.{refl}
use native.Mathlib.Omega.{arith}
use Rattle.trits.proofs.Outcomes.{handed_on, refused_positive}
use Rattle.calls.specs.Lent.{planes_of}
use Rattle.calls.proofs.Bounds.{bounds}
use Rattle.calls.proofs.Secrets.{hu_told, hv_told, b_told, c_told, zero_told, secret_hu, secret_hv, secret_b, secret_c, secret_zero, secret_good}
use Rattle.calls.proofs.tests.test_secret.Goals as goal

pub test_planes-requires : goal.test_planes-requires
test_planes-requires c =
    let z = c.args.z in
    rw c.shape-s.ensures (record { ones_size = c.requires.hu1; twos_size = c.requires.hu2; small = omega (arith, (bounds z.sizes z.fit).high) })

pub returns-in_err-test_planes-clause-refusal : goal.returns-in_err-test_planes-clause-refusal
returns-in_err-test_planes-clause-refusal c =
    let z = c.args.z.sizes in
    let i = planes_of c.args.secret in
    let e = c.shape-s.ensures in
    secret_hu z i (hu_told z i e (handed_on _ _ c.from_residual.ensures.1 c.in_err-test_planes.ensures.refusal))
    (λ q. omega (arith, q, refused_positive _ c.from_residual.ensures.0))

pub test_planes-requires-2 : goal.test_planes-requires-2
test_planes-requires-2 c =
    let z = c.args.z in
    rw c.shape-s.ensures (record { ones_size = c.requires.hv1; twos_size = c.requires.hv2; small = omega (arith, (bounds z.sizes z.fit).high) })

pub returns-in_err-test_planes-2-clause-refusal : goal.returns-in_err-test_planes-2-clause-refusal
returns-in_err-test_planes-2-clause-refusal c =
    let z = c.args.z.sizes in
    let i = planes_of c.args.secret in
    let e = c.shape-s.ensures in
    secret_hv z i (hu_told z i e c.in_ok-test_planes.ensures.refusal) refl
    (hv_told z i e (handed_on _ _ c.from_residual-in_err-test_planes-2.ensures.1 c.in_err-test_planes-2.ensures.refusal))
    (λ q. omega (arith, q, refused_positive _ c.from_residual-in_err-test_planes-2.ensures.0))

pub test_planes-requires-3 : goal.test_planes-requires-3
test_planes-requires-3 c =
    let z = c.args.z in
    rw c.shape-s.ensures (record {
      ones_size = omega (arith, c.requires.b1);
      twos_size = omega (arith, c.requires.b2);
      small = omega (arith, (bounds z.sizes z.fit).high);
    })

pub returns-in_err-test_planes-3-clause-refusal : goal.returns-in_err-test_planes-3-clause-refusal
returns-in_err-test_planes-3-clause-refusal c =
    let z = c.args.z.sizes in
    let i = planes_of c.args.secret in
    let e = c.shape-s.ensures in
    secret_b z i (hu_told z i e c.in_ok-test_planes.ensures.refusal) refl (hv_told z i e c.in_ok-test_planes-2.ensures.refusal) refl
    (b_told z i e (handed_on _ _ c.from_residual-in_err-test_planes-3.ensures.1 c.in_err-test_planes-3.ensures.refusal))
    (λ q. omega (arith, q, refused_positive _ c.from_residual-in_err-test_planes-3.ensures.0))

pub test_planes-requires-4 : goal.test_planes-requires-4
test_planes-requires-4 c =
    let z = c.args.z in
    rw c.shape-s.ensures (record {
      ones_size = omega (arith, c.requires.c1);
      twos_size = omega (arith, c.requires.c2);
      small = omega (arith, (bounds z.sizes z.fit).high);
    })

pub returns-in_err-test_planes-4-clause-refusal : goal.returns-in_err-test_planes-4-clause-refusal
returns-in_err-test_planes-4-clause-refusal c =
    let z = c.args.z.sizes in
    let i = planes_of c.args.secret in
    let e = c.shape-s.ensures in
    secret_c z i (hu_told z i e c.in_ok-test_planes.ensures.refusal) refl (hv_told z i e c.in_ok-test_planes-2.ensures.refusal) refl
    (b_told z i e c.in_ok-test_planes-3.ensures.refusal) refl
    (c_told z i e (handed_on _ _ c.from_residual-in_err-test_planes-4.ensures.1 c.in_err-test_planes-4.ensures.refusal))
    (λ q. omega (arith, q, refused_positive _ c.from_residual-in_err-test_planes-4.ensures.0))

pub has_zero-requires : goal.has_zero-requires
has_zero-requires c =
    let b = bounds c.args.z.sizes c.args.z.fit in
    rw c.shape-s.ensures (record {
      twos_size = omega (arith, c.requires.c1, c.requires.c2);
      trits_fit = omega (arith, c.requires.c1);
      stretch_small = omega (arith, b.high);
    })

pub returns-then-has_zero-clause-refusal : goal.returns-then-has_zero-clause-refusal
returns-then-has_zero-clause-refusal c =
    let z = c.args.z.sizes in
    let i = planes_of c.args.secret in
    let e = c.shape-s.ensures in
    secret_zero z i (hu_told z i e c.in_ok-test_planes.ensures.refusal) refl (hv_told z i e c.in_ok-test_planes-2.ensures.refusal) refl
    (b_told z i e c.in_ok-test_planes-3.ensures.refusal) refl (c_told z i e c.in_ok-test_planes-4.ensures.refusal) refl
    (zero_told z i e c.has_zero.ensures c.if-has_zero.true)

pub returns-clause-refusal : goal.returns-clause-refusal
returns-clause-refusal c =
    let z = c.args.z.sizes in
    let i = planes_of c.args.secret in
    let e = c.shape-s.ensures in
    secret_good z i (hu_told z i e c.in_ok-test_planes.ensures.refusal) refl (hv_told z i e c.in_ok-test_planes-2.ensures.refusal) refl
    (b_told z i e c.in_ok-test_planes-3.ensures.refusal) refl (c_told z i e c.in_ok-test_planes-4.ensures.refusal) refl
    (zero_told z i e c.has_zero.ensures c.if-has_zero.false)

pub returns-clause-readable : goal.returns-clause-readable
returns-clause-readable c =
    let l = c.requires in
    let e = c.shape-s.ensures in
    record {
      hu = record { row = c.in_ok-test_planes.ensures.readable; size = l.hu1 };
      hv = record { row = c.in_ok-test_planes-2.ensures.readable; size = l.hv1 };
      b = c.in_ok-test_planes-3.ensures.readable;
      c = c.in_ok-test_planes-4.ensures.readable;
      b_size = l.b1;
      c_size = l.c1;
    }
