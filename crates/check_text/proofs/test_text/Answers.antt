-- State and lengths, then the lengths of salt and s, then the contents: the first refusal is returned.
-- Assumes nothing.
use mathlib.Core.Path.{◌≡◌, refl, sym, ap, subst, ◌∙◌}
use mathlib.Core.List.{List}
use Prim.Native.Nat.{ℕ}
use Rattle.trits.proofs.Refusals.{first_stops, first_goes}
use Rattle.held_key.specs.declared.state.Held.{Held}
use Rattle.held_key.specs.Steps.{Whole}
use Rattle.held_key.proofs.Outcomes.{handed_on, refused}
use Rattle.check_tests.proofs.Passed.{called, whole}
use Rattle.check_text.specs.TextCheck.{text_lengths, text_contents}
use Rattle.check_text.specs.Steps.{tested_refusal}
use Rattle.check_text.proofs.Tested.{text_fitted}
use Rattle.check_text.proofs.test_text.Goals as goal

-- the state that was tested is the one that was lent
lengths_alike : {h k : Held} (salt s : ℕ) → h ≡ k → text_lengths h salt s ≡ text_lengths k salt s
lengths_alike salt s same = ap (λ (h : Held). text_lengths h salt s) same

contents_alike : {h k : Held} (ones twos s : List ℕ) → h ≡ k → text_contents h ones twos s ≡ text_contents k ones twos s
contents_alike ones twos s same = ap (λ (h : Held). text_contents h ones twos s) same

pub returns-in_err-begun-clause-refusal : goal.returns-in_err-begun-clause-refusal
unfolding tested_refusal
returns-in_err-begun-clause-refusal c =
    let r = c.from_residual.ensures in
    first_stops _ (handed_on _ _ r.1 c.in_err-begun.ensures.refusal) (refused _ r.0)

pub returns-in_err-test_lengths-clause-refusal : goal.returns-in_err-test_lengths-clause-refusal
unfolding tested_refusal
returns-in_err-test_lengths-clause-refusal c =
    let r = c.from_residual-in_err-test_lengths.ensures in
    let lengths = c.in_err-test_lengths.ensures ∙ lengths_alike _ _ c.in_ok-begun.ensures.same in
    first_goes c.in_ok-begun.ensures.refusal refl (first_stops _ (handed_on _ _ r.1 lengths) (refused _ r.0))

pub test_contents-requires : goal.test_contents-requires
test_contents-requires c =
    let a = c.args in
    let of_held = whole (called _ _ _ _ _ _ (sym c.in_ok-begun.ensures.refusal)) in
    record {
      whole = subst (λ (h : Held). Whole h a.key.ones.now a.key.twos.now) (sym c.in_ok-begun.ensures.same) of_held;
      s_len = (text_fitted _ _ _ (sym c.in_ok-test_lengths.ensures)).1;
    }

pub returns-in_err-test_contents-clause-refusal : goal.returns-in_err-test_contents-clause-refusal
unfolding tested_refusal
returns-in_err-test_contents-clause-refusal c =
    let r = c.from_residual-in_err-test_contents.ensures in
    let lengths = c.in_ok-test_lengths.ensures ∙ lengths_alike _ _ c.in_ok-begun.ensures.same in
    let contents = c.in_err-test_contents.ensures.refusal ∙ contents_alike _ _ _ c.in_ok-begun.ensures.same in
    first_goes c.in_ok-begun.ensures.refusal refl (first_goes lengths refl (handed_on _ _ r.1 contents))

pub returns-clause-refusal : goal.returns-clause-refusal
unfolding tested_refusal
returns-clause-refusal c =
    let lengths = c.in_ok-test_lengths.ensures ∙ lengths_alike _ _ c.in_ok-begun.ensures.same in
    let contents = c.in_ok-test_contents.ensures.refusal ∙ contents_alike _ _ _ c.in_ok-begun.ensures.same in
    first_goes c.in_ok-begun.ensures.refusal refl (first_goes lengths refl contents)
