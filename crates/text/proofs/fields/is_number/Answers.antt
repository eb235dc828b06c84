-- One digit may be 0; more than one do not begin with 0.
use Rattle.std.proofs.Common.{arith, ap, ◌∙◌, not}
use borrow.Author.Tests.{eq-eqb}
use Rattle.text.proofs.Numbers.{number_none, number_one, number_zero, number_more}
use Rattle.text.proofs.fields.is_number.Goals as goal

pub returns-in-empty : goal.returns-in-empty
returns-in-empty c = number_none c.args.field.now (omega arith)

pub returns-in-len1 : goal.returns-in-len1
returns-in-len1 c = c.all_between.ensures ∙ number_one c.args.field.now (omega arith)

pub returns-then-first-ne48 : goal.returns-then-first-ne48
returns-then-first-ne48 c =
    c.all_between-then-first-ne48.ensures ∙ number_more c.args.field.now (λ z. omega arith) (λ z. omega arith) c.if-first-ne48.true

pub returns-else-first-ne48 : goal.returns-else-first-ne48
returns-else-first-ne48 c =
    ap not (eq-eqb _ 48 c.if-first-ne48.false) ∙ number_zero c.args.field.now (λ z. omega arith) c.if-first-ne48.false
