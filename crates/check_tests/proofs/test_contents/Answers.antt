-- The held rows, y and s are tested in the order of `planes_contents`, and the first refusal is returned.
-- Assumes nothing.
use native.Mathlib.Omega.{arith}
use mathlib.Core.Path.{refl, ap, ◌∙◌}
use Rattle.std.specs.Prelude.{Result, Ok, Err, IfOk}
use Rattle.trits.specs.Refusal.{planes_refusal}
use Rattle.trits.proofs.Refusals.{first_stops, first_goes}
use Rattle.trits.proofs.Outcomes.{handed_on, refused_positive}
use Rattle.held_key.proofs.Sizes.{sizes}
use Rattle.trits.specs.declared.refusal.Refusal.{Refusal}
use Rattle.check_tests.specs.Check.{planes_contents_under}
use Rattle.check_tests.proofs.Passed.{fitted}
use Rattle.check_tests.proofs.test_contents.Goals as goal

-- what the last test shows, with what the first two have shown
all_readable : {A B : Type 0} (C : Type 0) (tested : Result Unit Refusal) → A → B → IfOk tested (λ _. C) → IfOk tested (λ _. A × B × C)
all_readable C (Ok u) a b c = (a, b, c)
all_readable C (Err q) a b c = tt

pub returns-in_err-test_rows-clause-refusal : goal.returns-in_err-test_rows-clause-refusal
unfolding planes_contents_under
returns-in_err-test_rows-clause-refusal c =
    let r = c.from_residual.ensures in
    first_stops _ (handed_on _ _ r.1 c.in_err-test_rows.ensures.refusal) (λ z. omega (arith, refused_positive _ r.0))

pub test_planes-requires : goal.test_planes-requires
test_planes-requires c =
    omega (arith, fitted _ _ _ _ _ c.requires.fitted, sizes _ c.args.begun.sound, c.row_trits.ensures)

pub returns-in_err-test_planes-clause-refusal : goal.returns-in_err-test_planes-clause-refusal
unfolding planes_contents_under
returns-in_err-test_planes-clause-refusal c =
    let r = c.from_residual-in_err-test_planes.ensures in
    let y_told = c.in_err-test_planes.ensures.refusal ∙ ap (planes_refusal _ _ _) c.row_trits.ensures in
    first_goes c.in_ok-test_rows.ensures.refusal refl (first_stops _ (handed_on _ _ r.1 y_told) (λ z. omega (arith, refused_positive _ r.0)))

pub test_planes-requires-2 : goal.test_planes-requires-2
test_planes-requires-2 c =
    omega (arith, fitted _ _ _ _ _ c.requires.fitted, sizes _ c.args.begun.sound)

pub returns-clause-refusal : goal.returns-clause-refusal
unfolding planes_contents_under
returns-clause-refusal c =
    let y_told = c.in_ok-test_planes.ensures.refusal ∙ ap (planes_refusal _ _ _) c.row_trits.ensures in
    first_goes c.in_ok-test_rows.ensures.refusal refl (first_goes y_told refl c.test_planes-2.ensures.refusal)

pub returns-clause-readable : goal.returns-clause-readable
returns-clause-readable c =
    all_readable _ _ c.in_ok-test_rows.ensures.readable c.in_ok-test_planes.ensures.readable c.test_planes-2.ensures.readable
