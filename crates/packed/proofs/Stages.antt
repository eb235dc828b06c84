-- Request C-20 at `pack`: its answer is the old one, or 4 for 3 where the row has both faults. Assumes nothing.
use mathlib.Core.Path.{◌≡◌}
use Prim.Native.Nat.{ℕ}
use lib.Dec.{eqb, ltb, lit<}
use lib.ListN.{length}
use Rattle.trits.specs.Planes.{words_for}
use Rattle.trits.specs.Refusal.{PlanesTest}
use Rattle.trits.specs.Stages.{both_first, decided, first_has_both, FourForThree}
use Rattle.trits.proofs.Stages.{refuse_stage, demand_stage, last_stage, stages_four_for_three}
use Rattle.packed.specs.Packed.{bytes_for}
use Rattle.packed.specs.Calls.{most_trits, Pack, pack_refusal, pack_refusal_under}
use Rattle.packed.specs.Stages.{pack_stages}

pub pack_stages_law : (test : PlanesTest) (c : Pack) → pack_refusal_under test c ≡ decided test (pack_stages c)
unfolding pack_refusal_under decided pack_stages
pack_stages_law test c =
    let m = c.m in
    refuse_stage (ltb most_trits m) 1 (lit< tt)
    (demand_stage (eqb (length c.ones) (words_for m)) 2 (lit< tt)
    (demand_stage (eqb (length c.twos) (words_for m)) 2 (lit< tt)
    (demand_stage (eqb (length c.bytes) (bytes_for m)) 2 (lit< tt)
    (last_stage (test c.ones c.twos 1 m)))))

pub pack_four_for_three : (c : Pack) → FourForThree ℕ 3 4 (pack_refusal_under both_first c) (pack_refusal c) (first_has_both (pack_stages c))
pack_four_for_three c = stages_four_for_three (λ (test : PlanesTest). pack_refusal_under test c) (pack_stages c) (λ test. pack_stages_law test c)
