-- Request C-20 at `store_row`: its answer is the old one, or 4 for 3 where the row is refused for its contents and has both faults. Assumes nothing.
use mathlib.Core.Path.{◌≡◌, ap}
use Prim.Native.Nat.{ℕ}
use lib.Dec.{eqb, lit<}
use lib.ListN.{length}
use Rattle.trits.specs.Refusal.{first, PlanesTest}
use Rattle.trits.specs.Stages.{both_first, decided, first_has_both, FourForThree}
use Rattle.trits.proofs.Stages.{demand_stage, last_stage, stages_four_for_three}
use Rattle.held_key.specs.Held.{most_key_number, row_trits, row_words}
use Rattle.held_key.specs.Store.{Store, row_refusal, store_refusal, store_refusal_under}
use Rattle.held_key.specs.Stages.{store_stages}

pub store_stages_law : (test : PlanesTest) (c : Store) → store_refusal_under most_key_number test c ≡ decided test (store_stages c)
unfolding store_refusal_under decided store_stages
store_stages_law test c =
    let h = c.held in
    ap (first (row_refusal h (length c.ones) (length c.twos)))
    (demand_stage (eqb (length c.row_ones) (row_words h)) 2 (lit< tt)
    (demand_stage (eqb (length c.row_twos) (row_words h)) 2 (lit< tt)
    (last_stage (test c.row_ones c.row_twos 1 (row_trits h)))))

pub store_four_for_three : (c : Store)
    → FourForThree ℕ 3 4 (store_refusal_under most_key_number both_first c) (store_refusal c) (first_has_both (store_stages c))
store_four_for_three c =
    stages_four_for_three (λ (test : PlanesTest). store_refusal_under most_key_number test c) (store_stages c) (λ test. store_stages_law test c)
