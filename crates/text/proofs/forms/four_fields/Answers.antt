-- Each search goes on after the tab found before; the fields are four where no fourth tab stands.
use mathlib.Core.Path.{sym, ◌∙◌}
use Rattle.text.proofs.Told.{at_some, at_none, single_field, two_fields, three_fields, more_fields, are_four}
use Rattle.text.proofs.forms.four_fields.Goals as goal

pub returns-in_err-first : goal.returns-in_err-first
returns-in_err-first c = rw c.from_residual.ensures (single_field c.args.text.now c.in_err-first.ensures)

pub returns-in_err-second : goal.returns-in_err-second
returns-in_err-second c = rw c.from_residual-in_err-second.ensures (two_fields c.in_ok-first.ensures c.in_err-second.ensures)

pub returns-in_err-third : goal.returns-in_err-third
returns-in_err-third c =
    rw c.from_residual-in_err-third.ensures (three_fields c.in_ok-first.ensures c.in_ok-second.ensures c.in_err-third.ensures)

pub returns-then-is_some : goal.returns-then-is_some
returns-then-is_some c =
    let fourth = at_some _ _ c.split_tab-4.result (sym c.is_some.ensures ∙ c.if-is_some.true) c.split_tab-4.ensures in
    more_fields c.in_ok-first.ensures c.in_ok-second.ensures c.in_ok-third.ensures fourth.1

pub returns : goal.returns
returns c =
    let fourth = at_none _ _ c.split_tab-4.result (sym c.is_some.ensures ∙ c.if-is_some.false) c.split_tab-4.ensures in
    are_four c.in_ok-first.ensures c.in_ok-second.ensures c.in_ok-third.ensures fourth
