-- Three tests, and what they found.
-- Assumes nothing.
use mathlib.Core.Path.{◌≡◌, refl, ap, ◌∙◌}
use mathlib.Core.Bool.{Bool, ◌&&◌}
use lib.Dec.{eqb, leb}
use borrow.Author.Tests.{eq-eqb, ne_eqb}
use Rattle.held_key.specs.Held.{numbers_fit, sound_under}
use Rattle.held_key.proofs.Ranges.{tested, untested, and_assoc}
use Rattle.held_key.proofs.state.Held.is_sound.Goals as goal
use Rattle.held_key.proofs.state.Held.is_sound.Goals.{then-self-eq1, else-self-eq1}

pub returns-then-numbers_fit : goal.returns-then-numbers_fit
unfolding sound_under
returns-then-numbers_fit c =
    let h = c.args.self in
    let fits = numbers_fit h.number h.n h.k h.w in
    let to_fit : c.if-self-eq1.value ≡ (eqb h.begun 1 && fits) =
    elim c.if-self-eq1.branch [
      | then-self-eq1 w ↦ tested _ _ (eq-eqb _ _ w.if-self-eq1.true) (w.value-is ∙ w.numbers_fit.ensures)
      | else-self-eq1 w ↦ untested _ _ (ne_eqb _ _ w.if-self-eq1.false) w.value-is
    ] in
    tested _ _ c.if-numbers_fit.true refl
    ∙ ap (λ (t : Bool). t && leb h.rows h.k) to_fit
    ∙ and_assoc (eqb h.begun 1) fits (leb h.rows h.k)

pub returns-else-numbers_fit : goal.returns-else-numbers_fit
unfolding sound_under
returns-else-numbers_fit c =
    let h = c.args.self in
    let fits = numbers_fit h.number h.n h.k h.w in
    let to_fit : c.if-self-eq1.value ≡ (eqb h.begun 1 && fits) =
    elim c.if-self-eq1.branch [
      | then-self-eq1 w ↦ tested _ _ (eq-eqb _ _ w.if-self-eq1.true) (w.value-is ∙ w.numbers_fit.ensures)
      | else-self-eq1 w ↦ untested _ _ (ne_eqb _ _ w.if-self-eq1.false) w.value-is
    ] in
    untested _ _ c.if-numbers_fit.false refl
    ∙ ap (λ (t : Bool). t && leb h.rows h.k) to_fit
    ∙ and_assoc (eqb h.begun 1) fits (leb h.rows h.k)
