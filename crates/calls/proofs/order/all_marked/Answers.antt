-- Each flag is looked at (`all_flags`).
-- Assumes nothing.
use mathlib.Core.Path.{◌∙◌}
use mathlib.Core.Bool.{not}
use lib.Dec.{eqb}
use lib.ListN.{take}
use Rattle.std.proofs.Common.{rules, tests}
use Rattle.std.proofs.lemmas.Iterator.{YieldsList-from_slice}
use Rattle.std.proofs.lemmas.Iterator.Search.{all_from_yields_List}
use Rattle.calls.proofs.Marks.{all_flags}
use Rattle.calls.proofs.order.all_marked.Goals as goal

pub returns : goal.returns
returns c =
    all_from_yields_List (λ x. not (eqb x 0)) _ _ c.all.result c.all.ensures.ran
    (YieldsList-from_slice (take c.args.n c.args.flags.now) (cc)) (λ x b q k. search (rules, tests))
    ∙ all_flags c.args.n c.args.flags.now c.requires
