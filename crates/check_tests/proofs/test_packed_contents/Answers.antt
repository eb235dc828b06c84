-- The held rows, y and s are tested in the order of `packed_contents`, and the first refusal is returned.
-- Assumes nothing.
use Prim.Native.Nat.{ℕ}
use native.Mathlib.Omega.{arith}
use mathlib.Core.Path.{refl, sym, ap, ◌∙◌}
use Rattle.trits.proofs.Refusals.{first_stops, first_goes}
use Rattle.trits.proofs.Outcomes.{handed_on, refused_positive}
use Rattle.packed.specs.Packed.{bytes_for, packed_refusal}
use Rattle.check_tests.specs.Check.{packed_contents_under}
use Rattle.check_tests.proofs.Passed.{packed_fitted, still_readable}
use Rattle.check_tests.proofs.test_packed_contents.Goals as goal

pub returns-in_err-test_rows-clause-refusal : goal.returns-in_err-test_rows-clause-refusal
unfolding packed_contents_under
returns-in_err-test_rows-clause-refusal c =
    let r = c.from_residual.ensures in
    first_stops _ (handed_on _ _ r.1 c.in_err-test_rows.ensures.refusal) (λ z. omega (arith, refused_positive _ r.0))

pub test_bytes-requires : goal.test_bytes-requires
test_bytes-requires c =
    (packed_fitted _ _ _ c.requires.fitted).0 ∙ ap bytes_for (sym c.row_trits.ensures)

pub returns-in_err-test_bytes-clause-refusal : goal.returns-in_err-test_bytes-clause-refusal
unfolding packed_contents_under
returns-in_err-test_bytes-clause-refusal c =
    let r = c.from_residual-in_err-test_bytes.ensures in
    let y_told = c.in_err-test_bytes.ensures ∙ ap (λ (m : ℕ). packed_refusal m c.args.y.now) c.row_trits.ensures in
    first_goes c.in_ok-test_rows.ensures.refusal refl (first_stops _ (handed_on _ _ r.1 y_told) (λ z. omega (arith, refused_positive _ r.0)))

pub test_bytes-requires-2 : goal.test_bytes-requires-2
test_bytes-requires-2 c =
    (packed_fitted _ _ _ c.requires.fitted).1

pub returns-clause-refusal : goal.returns-clause-refusal
unfolding packed_contents_under
returns-clause-refusal c =
    let y_told = c.in_ok-test_bytes.ensures ∙ ap (λ (m : ℕ). packed_refusal m c.args.y.now) c.row_trits.ensures in
    first_goes c.in_ok-test_rows.ensures.refusal refl (first_goes y_told refl c.test_bytes-2.ensures)

pub returns-clause-readable : goal.returns-clause-readable
returns-clause-readable c =
    still_readable _ c.in_ok-test_rows.ensures.readable
