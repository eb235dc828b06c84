-- The stages of the tests of `pack`: 1 / 2 / the row's contents. Assumes nothing.
use Rattle.std.specs.Prelude.{List, [], ◌∷◌, eqb, ltb, length}
use Rattle.trits.specs.Planes.{words_for}
use Rattle.trits.specs.Refusal.{refuse, demand}
use Rattle.trits.specs.Stages.{Stage, planes_stage, other_stage}
use Rattle.packed.specs.Packed.{bytes_for}
use Rattle.packed.specs.Calls.{most_trits, Pack}

unfoldable pub pack_stages : Pack → List Stage
pack_stages c =
    let m = c.m in
    other_stage (refuse (ltb most_trits m) 1 0)
    ∷ other_stage (demand (eqb (length c.ones) (words_for m)) 2 0)
    ∷ other_stage (demand (eqb (length c.twos) (words_for m)) 2 0)
    ∷ other_stage (demand (eqb (length c.bytes) (bytes_for m)) 2 0)
    ∷ planes_stage c.ones c.twos 1 m
    ∷ []
