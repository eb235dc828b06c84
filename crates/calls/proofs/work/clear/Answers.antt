-- Each plane is made 0 by the one call that it is lent to.
-- Assumes nothing.
use borrow.Author.Rules.{rules}
use Rattle.calls.proofs.work.clear.Goals as goal

pub returns : goal.returns
returns c =
    (search rules, search rules)
