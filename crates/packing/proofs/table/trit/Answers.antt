-- What stands at each place of the table is what the rule puts there (`table_rule`).
-- Assumes nothing.
use Prim.Native.Nat.{ℕ, ◌+◌, ◌*◌}
use mathlib.Core.Path.{ap, ◌∙◌}
use mathlib.Core.List.{List}
use lib.ListN.{get_or}
use Rattle.packed.proofs.Digits.{table_rule}
use Rattle.packing.proofs.table.trit.Goals as goal

pub returns : goal.returns
returns c =
    let a = c.args in
    ap (λ (l : List ℕ). get_or l (a.b * 5 + a.k) 0) c.requires.is_table ∙ table_rule a.b a.k c.requires.byte c.requires.digit
