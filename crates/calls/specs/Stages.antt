-- The stages of the tests of `build` and `draw`: 1 / 2 / the contents, buffer after buffer / what the state turns back. Assumes nothing.
use Rattle.std.specs.Prelude.{List, [], ◌∷◌, ◌++◌}
use Rattle.trits.specs.Planes.{trit_at}
use Rattle.trits.specs.Refusal.{refuse, demand}
use Rattle.trits.specs.Stages.{Stage, planes_stage, other_stage}
use Rattle.matrix.specs.Orders.{is_order}
use Rattle.scheme.specs.declared.sizes.Sizes.{Sizes}
use Rattle.scheme.specs.Sizes.{half, places, ru, rv, codim, sizes_fit}
use Rattle.scheme.specs.Secret.{has_zero}
use Rattle.scheme.specs.Build.{build_refusal}
use Rattle.scheme.specs.Draw.{draw_refusal}
use Rattle.calls.specs.Lent.{Planes, secret_of}
use Rattle.calls.specs.BuildCall.{BuildCall, build_lengths_differ}
use Rattle.calls.specs.DrawCall.{DrawCall, draw_lengths_differ, last_has_zero, syndrome_of, choices_of}

-- H_U, H_V, b, c, and 8 for c
unfoldable pub secret_stages : Sizes → Planes → List Stage
secret_stages z i =
    planes_stage i.hu.ones i.hu.twos (ru z) (half z)
    ∷ planes_stage i.hv.ones i.hv.twos (rv z) (half z)
    ∷ planes_stage i.b.ones i.b.twos 1 (half z)
    ∷ planes_stage i.c.ones i.c.twos 1 (half z)
    ∷ other_stage (refuse (has_zero (half z) (trit_at i.c.ones i.c.twos)) 8 0)
    ∷ []

-- a build: the secret, the starting order, then 9 and 10
unfoldable pub build_stages : Sizes → BuildCall → List Stage
build_stages z i =
    other_stage (demand (sizes_fit z) 1 0)
    ∷ other_stage (refuse (build_lengths_differ z i) 2 0)
    ∷ (secret_stages z i.secret
    ++ (other_stage (demand (is_order (places z) i.start) 7 0)
    ∷ other_stage (build_refusal z (secret_of z i.secret))
    ∷ []))

-- p, y, the V order, the V trits, the U order, the U values, and 8 for these
unfoldable pub choices_stages : Sizes → DrawCall → List Stage
choices_stages z i =
    other_stage (demand (is_order (places z) i.p) 7 0)
    ∷ planes_stage i.y.ones i.y.twos 1 (codim z)
    ∷ other_stage (demand (is_order (half z) i.order_v) 7 0)
    ∷ planes_stage i.v.ones i.v.twos 1 z.kv
    ∷ other_stage (demand (is_order (half z) i.order_u) 7 0)
    ∷ planes_stage i.u.ones i.u.twos 1 z.ku
    ∷ other_stage (refuse (last_has_zero z i) 8 0)
    ∷ []

-- a draw: the secret, the choices, then 12, 13 and 14
unfoldable pub draw_stages : Sizes → DrawCall → List Stage
draw_stages z i =
    other_stage (demand (sizes_fit z) 1 0)
    ∷ other_stage (refuse (draw_lengths_differ z i) 2 0)
    ∷ (secret_stages z i.secret
    ++ (choices_stages z i
    ++ (other_stage (draw_refusal z (secret_of z i.secret) i.p (syndrome_of i) (choices_of i))
    ∷ [])))
