-- A number above the range is refused as no number is.
use Rattle.text.proofs.Told.{range_none, range_in, range_out}
use Rattle.text.proofs.fields.read_in_range.Goals as goal

pub returns-in_err-v : goal.returns-in_err-v
returns-in_err-v c = rw c.from_residual.ensures (range_none c.args.field.now c.args.most c.in_err-v.ensures)

pub returns-then-v-most : goal.returns-then-v-most
returns-then-v-most c =
    let v = c.in_ok-v.ensures in
    range_out c.args.field.now c.args.most v.0 v.1 c.if-v-most.true

pub returns : goal.returns
returns c =
    let v = c.in_ok-v.ensures in
    range_in c.args.field.now c.args.most v.0 v.1 c.requires c.if-v-most.false
