-- The range's rows are tried as the definition tries them (`found_now`).
-- Assumes nothing.
use Prim.Native.Nat.{◌+◌, ◌-◌}
use mathlib.Core.Path.{refl}
use Rattle.std.proofs.Common.{rules, tests}
use Rattle.std.proofs.lemmas.Iterator.{YieldsList-from_range}
use Rattle.std.proofs.lemmas.Iterator.Search.{find_from_yields_List}
use Rattle.trits.specs.Rows.{matrix_at}
use Rattle.pivoting.proofs.Found.{now_set, found_now}
use Rattle.pivoting.proofs.search.find_now.Goals as goal

pub returns : goal.returns
returns c =
    let a = c.args in
    let A = matrix_at a.w a.m.ones.now a.m.twos.now in
    found_now a.r a.at a.k a.c A c.find.result c.requires.at_most
    (find_from_yields_List (now_set a.r a.k a.c A) _ _ c.find.result c.find.ensures.ran
    (YieldsList-from_range (a.at + a.k) a.r (a.r - (a.at + a.k)) refl refl) (λ x b q k. (search (rules, tests), search (rules, tests))))
