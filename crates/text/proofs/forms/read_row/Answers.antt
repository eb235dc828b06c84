-- The one field has digits, or the line is none of the forms.
use mathlib.Core.Path.{sym}
use Rattle.text.proofs.Told.{row_told, row_not}
use Rattle.text.proofs.forms.read_row.Goals as goal

pub returns-then-not-is_digits-clause-result_value : goal.returns-then-not-is_digits-clause-result_value
returns-then-not-is_digits-clause-result_value c = row_not c.args.text.now (sym c.if-not-is_digits.ensures)

pub returns-clause-result_value : goal.returns-clause-result_value
returns-clause-result_value c = row_told c.args.text.now (sym c.if-not-is_digits.ensures)
