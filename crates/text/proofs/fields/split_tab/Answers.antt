-- The text is parted where its first tab stands.
use Rattle.text.proofs.Parting.{tab_none, tab_parts}
use Rattle.text.proofs.fields.split_tab.Goals as goal

pub returns-in_err-at : goal.returns-in_err-at
returns-in_err-at c = rw c.from_residual.ensures (tab_none c.args.text.now c.in_err-at.ensures)

pub returns : goal.returns
returns c = tab_parts c.args.text.now c.in_ok-at.ensures
