-- The stages of the tests of a check: the state, the number and the lengths / the held rows / y / s. Assumes nothing.
use Rattle.std.specs.Prelude.{List, [], ◌∷◌, length}
use Rattle.trits.specs.Stages.{Stage, planes_stage, other_stage}
use Rattle.packed.specs.Packed.{packed_refusal}
use Rattle.held_key.specs.Held.{row_trits}
use Rattle.check_tests.specs.Check.{Check, PackedCheck, call_refusal, planes_lengths, packed_lengths}

-- y and s in planes
unfoldable pub check_stages : Check → List Stage
check_stages c =
    let h = c.held in
    other_stage (call_refusal h c.number (length c.ones) (length c.twos) (length c.work_ones) (length c.work_twos))
    ∷ other_stage (planes_lengths h (length c.y_ones) (length c.y_twos) (length c.s_ones) (length c.s_twos))
    ∷ planes_stage c.ones c.twos h.k (row_trits h)
    ∷ planes_stage c.y_ones c.y_twos 1 (row_trits h)
    ∷ planes_stage c.s_ones c.s_twos 1 h.k
    ∷ []

-- packed y and s, whose own tests (5, 15) stay in their order
unfoldable pub check_packed_stages : PackedCheck → List Stage
check_packed_stages c =
    let h = c.held in
    other_stage (call_refusal h c.number (length c.ones) (length c.twos) (length c.work_ones) (length c.work_twos))
    ∷ other_stage (packed_lengths h (length c.y) (length c.s))
    ∷ planes_stage c.ones c.twos h.k (row_trits h)
    ∷ other_stage (packed_refusal (row_trits h) c.y)
    ∷ other_stage (packed_refusal h.k c.s)
    ∷ []
