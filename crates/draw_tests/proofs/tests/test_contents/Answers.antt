-- The contents of the secret, then the others.
-- Assumes nothing.
use mathlib.Core.Path.{refl}
use native.Mathlib.Omega.{arith}
use Rattle.trits.proofs.Outcomes.{handed_on, refused_positive}
use Rattle.trits.proofs.Refusals.{first_stops, first_goes}
use Rattle.calls.specs.Lent.{planes_of}
use Rattle.draw_tests.proofs.Answers.{told_ready}
use Rattle.draw_tests.proofs.tests.test_contents.Goals as goal

pub returns-in_err-test_secret-clause-refusal : goal.returns-in_err-test_secret-clause-refusal
returns-in_err-test_secret-clause-refusal c =
    let r = c.from_residual.ensures in
    first_stops _ (handed_on _ _ r.1 c.in_err-test_secret.ensures.refusal) (λ q. omega (arith, q, refused_positive _ r.0))

pub returns-clause-refusal : goal.returns-clause-refusal
returns-clause-refusal c = first_goes c.in_ok-test_secret.ensures.refusal refl c.test_choices.ensures.refusal

pub returns-clause-ready : goal.returns-clause-ready
returns-clause-ready c =
    let a = c.args in
    told_ready (planes_of a.secret) a.p.now a.y a.choices c.in_ok-test_secret.ensures.readable c.test_choices.result c.test_choices.ensures.readable
