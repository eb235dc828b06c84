-- A line above 1,024 bytes is none of the forms, whatever it has.
use mathlib.Core.Path.{◌∙◌}
use Rattle.text.proofs.Told.{line_long, line_form}
use Rattle.text.proofs.forms.read_line.Goals as goal

pub returns-then-line-gt1024-clause-result_value : goal.returns-then-line-gt1024-clause-result_value
returns-then-line-gt1024-clause-result_value c = line_long c.args.most_key c.args.line.now c.if-line-gt1024.true

pub returns-clause-result_value : goal.returns-clause-result_value
returns-clause-result_value c =
    c.read_form.ensures.result_value ∙ line_form c.args.most_key c.args.line.now c.if-line-gt1024.false
