-- A field with no digit is none; any other is one where all bytes are digits.
use mathlib.Core.Path.{sym, ap, ◌∙◌}
use mathlib.Core.Bool.{not}
use borrow.Author.Tests.{eqb-true, eqb-false}
use Rattle.text.proofs.Rows.{digits_none, digits_some}
use Rattle.text.proofs.fields.is_digits.Goals as goal

pub returns-then-not-is_empty : goal.returns-then-not-is_empty
returns-then-not-is_empty c =
    let h = sym c.is_empty.ensures ∙ c.if-not-is_empty.true in
    c.all_between.ensures ∙ digits_some c.args.field.now (eqb-false _ _ h)

pub returns-else-not-is_empty : goal.returns-else-not-is_empty
returns-else-not-is_empty c =
    let h = sym c.is_empty.ensures ∙ c.if-not-is_empty.false in
    ap not c.if-not-is_empty.false ∙ digits_none c.args.field.now (eqb-true _ _ h)
