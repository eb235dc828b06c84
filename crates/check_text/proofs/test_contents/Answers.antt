-- The held rows and s are tested in the order of `text_contents`, and the first refusal is returned.
-- Assumes nothing.
use mathlib.Core.Path.{refl}
use native.Mathlib.Omega.{arith}
use Rattle.trits.proofs.Refusals.{first_stops, first_goes}
use Rattle.trits.proofs.Outcomes.{handed_on, refused_positive}
use Rattle.check_tests.proofs.Passed.{still_readable}
use Rattle.check_text.specs.TextCheck.{text_contents}
use Rattle.check_text.proofs.test_contents.Goals as goal

pub returns-in_err-test_rows-clause-refusal : goal.returns-in_err-test_rows-clause-refusal
unfolding text_contents
returns-in_err-test_rows-clause-refusal c =
    let r = c.from_residual.ensures in
    first_stops _ (handed_on _ _ r.1 c.in_err-test_rows.ensures.refusal) (λ z. omega (arith, refused_positive _ r.0))

pub returns-clause-refusal : goal.returns-clause-refusal
unfolding text_contents
returns-clause-refusal c =
    first_goes c.in_ok-test_rows.ensures.refusal refl c.test_bytes.ensures

pub returns-clause-readable : goal.returns-clause-readable
returns-clause-readable c =
    still_readable _ c.in_ok-test_rows.ensures.readable
