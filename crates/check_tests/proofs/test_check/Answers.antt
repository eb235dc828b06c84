-- State and lengths, then the lengths of y and s, then the contents: the first refusal is returned.
-- Assumes nothing.
use mathlib.Core.Path.{◌≡◌, refl, sym, ap, subst, ◌∙◌}
use mathlib.Core.List.{List}
use Prim.Native.Nat.{ℕ}
use Rattle.trits.proofs.Refusals.{first_stops, first_goes}
use Rattle.held_key.specs.declared.state.Held.{Held}
use Rattle.held_key.specs.Steps.{Whole}
use Rattle.held_key.proofs.Outcomes.{handed_on, refused}
use Rattle.check_tests.specs.Check.{check_refusal_under, planes_lengths, planes_contents}
use Rattle.check_tests.proofs.Passed.{called, whole}
use Rattle.check_tests.proofs.test_check.Goals as goal

-- the state that was tested is the one that was lent
lengths_alike : {h k : Held} (a b d e : ℕ) → h ≡ k → planes_lengths h a b d e ≡ planes_lengths k a b d e
lengths_alike a b d e same = ap (λ (h : Held). planes_lengths h a b d e) same

contents_alike : {h k : Held} (a b d e f g : List ℕ) → h ≡ k → planes_contents h a b d e f g ≡ planes_contents k a b d e f g
contents_alike a b d e f g same = ap (λ (h : Held). planes_contents h a b d e f g) same

pub returns-in_err-begun-clause-refusal : goal.returns-in_err-begun-clause-refusal
unfolding check_refusal_under
returns-in_err-begun-clause-refusal c =
    let r = c.from_residual.ensures in
    first_stops _ (handed_on _ _ r.1 c.in_err-begun.ensures.refusal) (refused _ r.0)

pub returns-in_err-test_lengths-clause-refusal : goal.returns-in_err-test_lengths-clause-refusal
unfolding check_refusal_under
returns-in_err-test_lengths-clause-refusal c =
    let r = c.from_residual-in_err-test_lengths.ensures in
    let lengths = c.in_err-test_lengths.ensures ∙ lengths_alike _ _ _ _ c.in_ok-begun.ensures.same in
    first_goes c.in_ok-begun.ensures.refusal refl (first_stops _ (handed_on _ _ r.1 lengths) (refused _ r.0))

pub test_contents-requires-clause-whole : goal.test_contents-requires-clause-whole
test_contents-requires-clause-whole c =
    let a = c.args in
    let of_held = whole (called _ _ _ _ _ _ (sym c.in_ok-begun.ensures.refusal)) in
    subst (λ (h : Held). Whole h a.key.ones.now a.key.twos.now) (sym c.in_ok-begun.ensures.same) of_held

pub returns-in_err-test_contents-clause-refusal : goal.returns-in_err-test_contents-clause-refusal
unfolding check_refusal_under
returns-in_err-test_contents-clause-refusal c =
    let r = c.from_residual-in_err-test_contents.ensures in
    let lengths = c.in_ok-test_lengths.ensures ∙ lengths_alike _ _ _ _ c.in_ok-begun.ensures.same in
    let contents = c.in_err-test_contents.ensures.refusal ∙ contents_alike _ _ _ _ _ _ c.in_ok-begun.ensures.same in
    first_goes c.in_ok-begun.ensures.refusal refl (first_goes lengths refl (handed_on _ _ r.1 contents))

pub returns-clause-refusal : goal.returns-clause-refusal
unfolding check_refusal_under
returns-clause-refusal c =
    let lengths = c.in_ok-test_lengths.ensures ∙ lengths_alike _ _ _ _ c.in_ok-begun.ensures.same in
    let contents = c.in_ok-test_contents.ensures.refusal ∙ contents_alike _ _ _ _ _ _ c.in_ok-begun.ensures.same in
    first_goes c.in_ok-begun.ensures.refusal refl (first_goes lengths refl contents)
