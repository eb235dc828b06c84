-- The stages of the tests of `store_row`: the state and the key's planes / the row's lengths / its contents. Assumes nothing.
use Rattle.std.specs.Prelude.{List, [], ◌∷◌, eqb, length}
use Rattle.trits.specs.Refusal.{demand}
use Rattle.trits.specs.Stages.{Stage, planes_stage, other_stage}
use Rattle.held_key.specs.Held.{row_trits, row_words}
use Rattle.held_key.specs.Store.{Store, row_refusal}

unfoldable pub store_stages : Store → List Stage
store_stages c =
    let h = c.held in
    other_stage (row_refusal h (length c.ones) (length c.twos))
    ∷ other_stage (demand (eqb (length c.row_ones) (row_words h)) 2 0)
    ∷ other_stage (demand (eqb (length c.row_twos) (row_words h)) 2 0)
    ∷ planes_stage c.row_ones c.row_twos 1 (row_trits h)
    ∷ []
