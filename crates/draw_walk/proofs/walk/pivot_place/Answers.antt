-- The range's columns are tried as the definition tries them (`found_place`).
-- Assumes nothing.
use Prim.Native.Nat.{◌-◌}
use mathlib.Core.Path.{refl}
use native.Mathlib.Omega.{arith}
use Rattle.std.proofs.Common.{rules, tests}
use Rattle.std.proofs.lemmas.Iterator.{YieldsList-from_range}
use Rattle.std.proofs.lemmas.Iterator.Search.{find_from_yields_List}
use Rattle.trits.specs.Rows.{matrix_at}
use Rattle.draw_walk.proofs.Solving.{not_zero, found_place}
use Rattle.draw_walk.proofs.walk.pivot_place.Goals as goal

pub returns-clause-value : goal.returns-clause-value
returns-clause-value c =
    let a = c.args in
    let A = matrix_at a.w a.a.ones.now a.a.twos.now in
    found_place A a.m a.c c.find.result (omega (arith, c.requires.begins)) c.unwrap_or.ensures
    (find_from_yields_List (not_zero (A a.c)) _ _ c.find.result c.find.ensures.ran (YieldsList-from_range a.c a.m (a.m - a.c) refl refl)
    (λ x b q k. search (rules, tests)))
