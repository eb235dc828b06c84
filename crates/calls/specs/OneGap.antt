-- The sizes as they were before request C-18, with one gap g, and what `build` and `draw` did with them: the same definitions, where both gaps
-- are g and the test of the gaps is the one of that time. Assumes nothing.
use Rattle.std.specs.Prelude.{◌≡◌, cond, List, ℕ, ◌+◌, ◌-◌, leb, take, drop}
use Rattle.trits.specs.Planes.{Pair, trit_at}
use Rattle.trits.specs.Refusal.{planes_refusal}
use Rattle.scheme.specs.declared.sizes.Sizes.{Sizes}
use Rattle.scheme.specs.Sizes.{ru, rv, GapsTest, gaps_fit}
use Rattle.scheme.specs.Secret.{has_zero}
use Rattle.scheme.specs.Draw.{first_v, first_u, last_u}
use Rattle.calls.specs.BuildCall.{BuildCall, build_answer_under, order_exit_under, key_exit_under, build_work_exit_under}
use Rattle.calls.specs.DrawCall.{DrawCall, choices_of, last_has_zero, draw_answer_under, word_exit_under, s_exit_under, draw_work_exit_under}

-- ---- the sizes with one gap

pub record OneGap : Type 0 where
  pub n : ℕ
  pub ku : ℕ
  pub kv : ℕ
  pub g : ℕ
  pub w : ℕ

-- g is the gap of V and the gap of U
abbrev pub in_both : OneGap → Sizes
in_both o = record { n = o.n; ku = o.ku; kv = o.kv; gv = o.g; gu = o.g; w = o.w }

-- g was from 0 to the smaller of k_U and k_V
unfoldable pub one_gap_fits : ℕ → GapsTest
one_gap_fits g z = leb g (cond (leb z.ku z.kv) z.ku z.kv)

-- so the definitions of a draw read one gap: V's first part has r_V + g places and U's r_U + g, U's last part the k_U - g others, and 8 looks at the
-- U values from g on
pub record ReadOneGap (o : OneGap) (i : DrawCall) : Type 0 where
  pub first_v_here : first_v (in_both o) (choices_of i) ≡ take (rv (in_both o) + o.g) i.order_v
  pub first_u_here : first_u (in_both o) (choices_of i) ≡ take (ru (in_both o) + o.g) i.order_u
  pub last_u_here : last_u (in_both o) (choices_of i) ≡ drop (ru (in_both o) + o.g) i.order_u
  pub eight : last_has_zero (in_both o) i ≡ has_zero (o.ku - o.g) (λ j. trit_at i.u.ones i.u.twos (o.g + j))

-- ---- what a call does: its answer, and each lent buffer at exit

pub record BuildEnd : Type 0 where
  pub answer : ℕ
  pub p : List ℕ
  pub key : Pair
  pub work : Pair

abbrev pub build_end : GapsTest → Sizes → BuildCall → BuildEnd
build_end gaps z i = record {
  answer = build_answer_under gaps planes_refusal z i;
  p = order_exit_under gaps z i;
  key = key_exit_under gaps z i;
  work = build_work_exit_under gaps z i;
}

pub record DrawEnd : Type 0 where
  pub answer : ℕ
  pub word : Pair
  pub s : Pair
  pub work : Pair

abbrev pub draw_end : GapsTest → Sizes → DrawCall → DrawEnd
draw_end gaps z i = record {
  answer = draw_answer_under gaps planes_refusal z i;
  word = word_exit_under gaps z i;
  s = s_exit_under gaps z i;
  work = draw_work_exit_under gaps z i;
}

-- as the contracts have it
abbrev pub build_now : Sizes → BuildCall → BuildEnd
build_now z i = build_end gaps_fit z i

abbrev pub draw_now : Sizes → DrawCall → DrawEnd
draw_now z i = draw_end gaps_fit z i

-- with one gap
abbrev pub build_with_one_gap : OneGap → BuildCall → BuildEnd
build_with_one_gap o i = build_end (one_gap_fits o.g) (in_both o) i

abbrev pub draw_with_one_gap : OneGap → DrawCall → DrawEnd
draw_with_one_gap o i = draw_end (one_gap_fits o.g) (in_both o) i
