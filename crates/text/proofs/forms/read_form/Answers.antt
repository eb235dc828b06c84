-- The first field is one letter, and the letter names the form.
use mathlib.Core.Path.{◌∙◌}
use native.Mathlib.Omega.{arith}
use Rattle.text.proofs.Told.{form_alone, form_key, form_row, form_sign, form_none, digits_rest}
use Rattle.text.proofs.forms.read_form.Goals as goal

pub returns-in_err-letter-clause-result_value : goal.returns-in_err-letter-clause-result_value
returns-in_err-letter-clause-result_value c = rw c.from_residual.ensures (form_alone c.args.most_key c.args.line.now c.in_err-letter.ensures)

pub returns-in-80 : goal.returns-in-80
returns-in-80 c = record {
  result_value = c.read_key.ensures.result_value ∙ form_key c.args.most_key c.in_ok-letter.ensures (omega arith) (omega arith);
  digits = digits_rest c.args.most_key c.in_ok-letter.ensures c.read_key.result c.read_key.ensures.digits;
}

pub returns-in-75 : goal.returns-in-75
returns-in-75 c = record {
  result_value = c.read_row.ensures.result_value ∙ form_row c.args.most_key c.in_ok-letter.ensures (omega arith) (omega arith);
  digits = digits_rest c.args.most_key c.in_ok-letter.ensures c.read_row.result c.read_row.ensures.digits;
}

pub returns-in-83 : goal.returns-in-83
returns-in-83 c = record {
  result_value = c.read_sign.ensures.result_value ∙ form_sign c.args.most_key c.in_ok-letter.ensures (omega arith) (omega arith);
  digits = digits_rest c.args.most_key c.in_ok-letter.ensures c.read_sign.result c.read_sign.ensures.digits;
}

pub returns-then-letter-ne1-clause-result_value : goal.returns-then-letter-ne1-clause-result_value
returns-then-letter-ne1-clause-result_value c =
    form_none c.args.most_key c.in_ok-letter.ensures (λ h e. omega arith) (λ h e. omega arith) (λ h e. omega arith)

pub returns-in_default-clause-result_value : goal.returns-in_default-clause-result_value
returns-in_default-clause-result_value c =
    form_none c.args.most_key c.in_ok-letter.ensures (λ h e. omega arith) (λ h e. omega arith) (λ h e. omega arith)
