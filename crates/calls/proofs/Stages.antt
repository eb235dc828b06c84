-- Request C-20 at `build` and `draw`: the answer is the old one, or 4 for 3 where the first buffer refused for its contents has both faults. Assumes nothing.
use mathlib.Core.Path.{◌≡◌, ◌∙◌, ap, ap₂}
use mathlib.Core.List.{List, [], ◌∷◌, ◌++◌}
use Prim.Native.Nat.{ℕ}
use lib.Dec.{lit<}
use Rattle.trits.specs.Planes.{trit_at}
use Rattle.trits.specs.Refusal.{refuse, demand, first, PlanesTest}
use Rattle.trits.specs.Stages.{Stage, other_stage, both_first, decided, first_has_both, FourForThree}
use Rattle.trits.proofs.Stages.{refuse_stage, demand_stage, last_stage, decided_append, stages_four_for_three}
use Rattle.matrix.specs.Orders.{is_order}
use Rattle.scheme.specs.declared.sizes.Sizes.{Sizes}
use Rattle.scheme.specs.Sizes.{half, places, ru, rv, codim, gaps_fit, sizes_fit}
use Rattle.scheme.specs.Secret.{has_zero}
use Rattle.scheme.specs.Build.{build_refusal}
use Rattle.scheme.specs.Draw.{draw_refusal}
use Rattle.calls.specs.Lent.{Planes, secret_of, secret_refusal_under}
use Rattle.calls.specs.BuildCall.{BuildCall, build_lengths_differ, build_answer, build_answer_under}
use Rattle.calls.specs.DrawCall.{DrawCall, draw_lengths_differ, last_has_zero, syndrome_of, choices_of, choices_refusal_under, draw_answer, draw_answer_under}
use Rattle.calls.specs.Stages.{secret_stages, build_stages, choices_stages, draw_stages}

module _ (test : PlanesTest) where
  -- ---- the stages

  secret_stages_here : (z : Sizes) (i : Planes) → secret_refusal_under test z i ≡ decided test (secret_stages z i)
  unfolding secret_refusal_under decided secret_stages
  secret_stages_here z i =
      ap (first (test i.hu.ones i.hu.twos (ru z) (half z)))
      (ap (first (test i.hv.ones i.hv.twos (rv z) (half z)))
      (ap (first (test i.b.ones i.b.twos 1 (half z)))
      (ap (first (test i.c.ones i.c.twos 1 (half z)))
      (last_stage (refuse (has_zero (half z) (trit_at i.c.ones i.c.twos)) 8 0)))))

  choices_stages_here : (z : Sizes) (i : DrawCall) → choices_refusal_under test z i ≡ decided test (choices_stages z i)
  unfolding choices_refusal_under decided choices_stages
  choices_stages_here z i =
      demand_stage (is_order (places z) i.p) 7 (lit< tt)
      (ap (first (test i.y.ones i.y.twos 1 (codim z)))
      (demand_stage (is_order (half z) i.order_v) 7 (lit< tt)
      (ap (first (test i.v.ones i.v.twos 1 z.kv))
      (demand_stage (is_order (half z) i.order_u) 7 (lit< tt)
      (ap (first (test i.u.ones i.u.twos 1 z.ku))
      (last_stage (refuse (last_has_zero z i) 8 0)))))))

  -- a group of tests before others, as its stages before theirs
  group_stages : {a b : ℕ} (group rest : List Stage) → a ≡ decided test group → b ≡ decided test rest → first a b ≡ decided test (group ++ rest)
  group_stages group rest e f = ap₂ first e f ∙ decided_append test group rest

  pub build_stages_here : (z : Sizes) (i : BuildCall) → build_answer_under gaps_fit test z i ≡ decided test (build_stages z i)
  unfolding build_answer_under decided build_stages
  build_stages_here z i =
      let ranks = build_refusal z (secret_of z i.secret) in
      let start = is_order (places z) i.start in
      demand_stage (sizes_fit z) 1 (lit< tt)
      (refuse_stage (build_lengths_differ z i) 2 (lit< tt)
      (group_stages (secret_stages z i.secret) (other_stage (demand start 7 0) ∷ other_stage ranks ∷ []) (secret_stages_here z i.secret)
      (demand_stage start 7 (lit< tt)
      (last_stage ranks))))

  pub draw_stages_here : (z : Sizes) (i : DrawCall) → draw_answer_under gaps_fit test z i ≡ decided test (draw_stages z i)
  unfolding draw_answer_under decided draw_stages
  draw_stages_here z i =
      let drawing = draw_refusal z (secret_of z i.secret) i.p (syndrome_of i) (choices_of i) in
      demand_stage (sizes_fit z) 1 (lit< tt)
      (refuse_stage (draw_lengths_differ z i) 2 (lit< tt)
      (group_stages (secret_stages z i.secret) (choices_stages z i ++ (other_stage drawing ∷ [])) (secret_stages_here z i.secret)
      (group_stages (choices_stages z i) (other_stage drawing ∷ []) (choices_stages_here z i)
      (last_stage drawing))))

-- ---- the answers

pub build_four_for_three : (z : Sizes) (i : BuildCall)
    → FourForThree ℕ 3 4 (build_answer_under gaps_fit both_first z i) (build_answer z i) (first_has_both (build_stages z i))
build_four_for_three z i =
    stages_four_for_three (λ (test : PlanesTest). build_answer_under gaps_fit test z i) (build_stages z i) (λ test. build_stages_here test z i)

pub draw_four_for_three : (z : Sizes) (i : DrawCall)
    → FourForThree ℕ 3 4 (draw_answer_under gaps_fit both_first z i) (draw_answer z i) (first_has_both (draw_stages z i))
draw_four_for_three z i =
    stages_four_for_three (λ (test : PlanesTest). draw_answer_under gaps_fit test z i) (draw_stages z i) (λ test. draw_stages_here test z i)
