-- Each test is one of the definition (`tested_in_turn`).
-- Assumes nothing.
use borrow.Author.Rules.{rules}
use Rattle.scheme.proofs.Ranges.{tested_in_turn}
use Rattle.scheme.proofs.sizes.sizes_fit.Goals as goal

pub returns-then-z-2 : goal.returns-then-z-2
returns-then-z-2 c =
    tested_in_turn c.args.z c.contains.result c.if-contains.value c.if-z-eq0.value c.if-contains-2.value c.if-contains-3.value c.if-z.value
    (search rules) (search rules) (search rules) (search rules) (search rules) (search rules) (search rules)

pub returns-else-z-2 : goal.returns-else-z-2
returns-else-z-2 c =
    tested_in_turn c.args.z c.contains.result c.if-contains.value c.if-z-eq0.value c.if-contains-2.value c.if-contains-3.value c.if-z.value
    (search rules) (search rules) (search rules) (search rules) (search rules) (search rules) (search rules)
