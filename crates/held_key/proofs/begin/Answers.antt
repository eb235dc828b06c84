-- The sizes decide: the new key, or the state as it was.
-- Assumes nothing.
use mathlib.Core.Path.{sym, ◌∙◌}
use Rattle.held_key.specs.Store.{begin_refusal_under, begun_held, begin_held}
use Rattle.held_key.proofs.begin.Goals as goal

pub returns-then-not-numbers_fit : goal.returns-then-not-numbers_fit
unfolding begin_held begin_refusal_under begun_held
returns-then-not-numbers_fit c =
    let e = sym c.numbers_fit.ensures ∙ c.if-not-numbers_fit.true in
    record { refusal = rw e; state = rw e }

pub returns : goal.returns
unfolding begin_held begin_refusal_under begun_held
returns c =
    let e = sym c.numbers_fit.ensures ∙ c.if-not-numbers_fit.false in
    record { refusal = rw e; state = rw e }
