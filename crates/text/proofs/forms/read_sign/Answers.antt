-- The first two fields are numbers in their ranges and the others digits, or the line is none of the forms.
use mathlib.Core.Path.{sym, ◌∙◌}
use Rattle.text.proofs.Told.{not_sign, sign_not_1, sign_not_2, sign_not_3, sign_not_4, sign_told}
use Rattle.text.proofs.forms.read_sign.Goals as goal
use Rattle.text.proofs.forms.read_sign.Goals.{then-is_digits, else-is_digits}

pub returns-in_err-number-clause-result_value : goal.returns-in_err-number-clause-result_value
returns-in_err-number-clause-result_value c = rw c.from_residual.ensures (not_sign c.args.text.now c.args.most_key c.in_err-number.ensures)

pub returns-in_err-number-2-clause-result_value : goal.returns-in_err-number-2-clause-result_value
returns-in_err-number-2-clause-result_value c =
    rw c.from_residual-in_err-number-2.ensures (sign_not_1 c.in_ok-number.ensures c.args.most_key c.in_err-number-2.ensures)

pub returns-in_err-formula-clause-result_value : goal.returns-in_err-formula-clause-result_value
returns-in_err-formula-clause-result_value c =
    rw c.from_residual-in_err-formula.ensures (sign_not_2 c.in_ok-number.ensures c.args.most_key c.in_err-formula.ensures)

pub returns-then-not-is_digits-clause-result_value : goal.returns-then-not-is_digits-clause-result_value
returns-then-not-is_digits-clause-result_value c =
    let f = c.in_ok-number.ensures in
    elim c.if-is_digits.branch [
      | then-is_digits w ↦
          sign_not_4 f c.args.most_key (sym w.is_digits-then-is_digits.ensures ∙ sym w.value-is ∙ c.if-not-is_digits.true)
      | else-is_digits w ↦ sign_not_3 f c.args.most_key (sym c.is_digits.ensures ∙ w.if-is_digits.false)
    ]

pub returns-clause-result_value : goal.returns-clause-result_value
returns-clause-result_value c =
    let f = c.in_ok-number.ensures in
    let number = c.in_ok-number-2.ensures in
    let formula = c.in_ok-formula.ensures in
    let y = sym c.is_digits.ensures in
    elim c.if-is_digits.branch [
      | then-is_digits w ↦
          sign_told f c.args.most_key number.0 formula.0 (y ∙ w.if-is_digits.true)
          (sym w.is_digits-then-is_digits.ensures ∙ sym w.value-is ∙ c.if-not-is_digits.false) number.1 formula.1
      | else-is_digits w ↦ cc
    ]
