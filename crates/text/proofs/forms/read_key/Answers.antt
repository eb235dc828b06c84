-- Each field is a number, the first in its range, or the line is none of the forms.
use Rattle.text.proofs.Told.{not_key, key_not_1, key_not_2, key_not_3, key_not_4, key_told}
use Rattle.text.proofs.forms.read_key.Goals as goal

pub returns-in_err-number-clause-result_value : goal.returns-in_err-number-clause-result_value
returns-in_err-number-clause-result_value c = rw c.from_residual.ensures (not_key c.args.text.now c.args.most_key c.in_err-number.ensures)

pub returns-in_err-read_in_range-clause-result_value : goal.returns-in_err-read_in_range-clause-result_value
returns-in_err-read_in_range-clause-result_value c =
    rw c.from_residual-in_err-read_in_range.ensures (key_not_1 c.in_ok-number.ensures c.args.most_key c.in_err-read_in_range.ensures)

pub returns-in_err-read_number-clause-result_value : goal.returns-in_err-read_number-clause-result_value
returns-in_err-read_number-clause-result_value c =
    let number = c.in_ok-read_in_range.ensures in
    rw c.from_residual-in_err-read_number.ensures (key_not_2 c.in_ok-number.ensures c.args.most_key number.0 c.in_err-read_number.ensures)

pub returns-in_err-read_number-2-clause-result_value : goal.returns-in_err-read_number-2-clause-result_value
returns-in_err-read_number-2-clause-result_value c =
    let number = c.in_ok-read_in_range.ensures in
    let n = c.in_ok-read_number.ensures in
    rw c.from_residual-in_err-read_number-2.ensures (key_not_3 c.in_ok-number.ensures c.args.most_key number.0 n.0 c.in_err-read_number-2.ensures)

pub returns-in_err-read_number-3-clause-result_value : goal.returns-in_err-read_number-3-clause-result_value
returns-in_err-read_number-3-clause-result_value c =
    let number = c.in_ok-read_in_range.ensures in
    let n = c.in_ok-read_number.ensures in
    let k = c.in_ok-read_number-2.ensures in
    rw c.from_residual-in_err-read_number-3.ensures
    (key_not_4 c.in_ok-number.ensures c.args.most_key number.0 n.0 k.0 c.in_err-read_number-3.ensures)

pub returns-clause-result_value : goal.returns-clause-result_value
returns-clause-result_value c =
    let number = c.in_ok-read_in_range.ensures in
    let n = c.in_ok-read_number.ensures in
    let k = c.in_ok-read_number-2.ensures in
    let w = c.in_ok-read_number-3.ensures in
    key_told c.in_ok-number.ensures c.args.most_key number.0 n.0 k.0 w.0 number.1 n.1 k.1 w.1
