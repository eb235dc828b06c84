-- Each trit is looked at (`any_zero`).
-- Assumes nothing.
use mathlib.Core.Path.{refl, ◌∙◌}
use Prim.Native.Nat.{◌+◌}
use native.Mathlib.Omega.{arith}
use lib.Dec.{eqb}
use Rattle.std.proofs.Common.{rules, tests}
use Rattle.std.proofs.lemmas.Iterator.{YieldsList-from_range}
use Rattle.std.proofs.lemmas.Iterator.Search.{any_from_yields_List}
use Rattle.trits.specs.Trit.{number}
use Rattle.trits.specs.Planes.{trit_at}
use Rattle.calls.proofs.Marks.{any_zero}
use Rattle.calls.proofs.tests.has_zero.Goals as goal

pub returns : goal.returns
returns c =
    let a = c.args in
    any_from_yields_List (λ j. eqb (number (trit_at a.row.ones.now a.row.twos.now (a.from + j))) 0) _ _ c.any.result c.any.ensures.ran
    (YieldsList-from_range 0 a.m a.m refl (omega arith)) (λ x b q k. search (rules, tests))
    ∙ any_zero (λ j. trit_at a.row.ones.now a.row.twos.now (a.from + j)) a.m
