-- What request C-18 leaves as it was: where both gaps are g, `build` and `draw` answer, and leave every lent buffer, as with one gap g. Assumes nothing.
use mathlib.Core.Path.{◌≡◌, refl}
use mathlib.Core.Bool.{Bool, true, false, cond, ◌&&◌}
use Prim.Native.Nat.{ℕ}
use native.Mathlib.Omega.{arith}
use borrow.Author.Tests.{leb-true, leb-false, le-leb}
use lib.Dec.{leb}
use Rattle.scheme.specs.declared.sizes.Sizes.{Sizes}
use Rattle.scheme.specs.Sizes.{sized, GapsTest, gaps_fit, sizes_fit, sizes_fit_under}
use Rattle.scheme.specs.Secret.{secret_matrix}
use Rattle.scheme.specs.Build.{build_refusal}
use Rattle.calls.specs.Lent.{secret_differs, secret_refusal_under}
use Rattle.calls.specs.BuildCall.{BuildCall, key_differs, build_lengths_differ, build_answer_under, order_exit_under, key_ones_of, key_twos_of}
use Rattle.calls.specs.BuildCall.{key_exit_under, build_work_exit_under}
use Rattle.calls.specs.DrawCall.{DrawCall, draw_answer_under, word_exit_under, s_exit_under, draw_work_exit_under}
use Rattle.calls.specs.OneGap.{OneGap, in_both, one_gap_fits, ReadOneGap, build_end, build_now, build_with_one_gap, draw_end, draw_now, draw_with_one_gap}

-- g is at most each of two numbers exactly when it is at most the smaller
at_most_both : (g a b : ℕ) → (leb g a && leb g b) ≡ leb g (cond (leb a b) a b)
at_most_both g a b = by (leb a b) refl (leb g a) refl (leb g b) refl
  where
    by : (s : Bool) → leb a b ≡ s → (t : Bool) → leb g a ≡ t → (u : Bool) → leb g b ≡ u → (leb g a && leb g b) ≡ leb g (cond (leb a b) a b)
    by true f true h u k = rw (f, h, le-leb g b (omega (arith, leb-true g a h, leb-true a b f)))
    by true f false h u k = rw (f, h)
    by false f t h true k = rw (f, k, le-leb g a (omega (arith, leb-true g b k, leb-false a b f)))
    by false f true h false k = rw (f, h, k)
    by false f false h false k = rw (f, h, k)

-- ---- calls under two tests of the gaps that agree at their sizes

module _ (gaps others : GapsTest) (z : Sizes) (agree : gaps z ≡ others z) where
  same_sizes : sizes_fit_under gaps z ≡ sizes_fit_under others z
  unfolding sizes_fit_under
  same_sizes = rw agree

  pub same_build : (i : BuildCall) → build_end gaps z i ≡ build_end others z i
  unfolding build_answer_under order_exit_under key_exit_under build_work_exit_under
  same_build i = rw same_sizes

  pub same_draw : (i : DrawCall) → draw_end gaps z i ≡ draw_end others z i
  unfolding draw_answer_under word_exit_under s_exit_under draw_work_exit_under
  same_draw i = rw same_sizes

-- ---- one gap

-- both gaps pass exactly when the one gap passed
both_fit : (o : OneGap) → gaps_fit (in_both o) ≡ one_gap_fits o.g (in_both o)
unfolding gaps_fit one_gap_fits
both_fit o = at_most_both o.g o.ku o.kv

pub reads_one_gap : (o : OneGap) (i : DrawCall) → ReadOneGap o i
reads_one_gap o i = record { first_v_here = refl; first_u_here = refl; last_u_here = refl; eight = refl }

pub build_as_before : (o : OneGap) (i : BuildCall) → build_now (in_both o) i ≡ build_with_one_gap o i
build_as_before o i = same_build gaps_fit (one_gap_fits o.g) (in_both o) (both_fit o) i

pub draw_as_before : (o : OneGap) (i : DrawCall) → draw_now (in_both o) i ≡ draw_with_one_gap o i
draw_as_before o i = same_draw gaps_fit (one_gap_fits o.g) (in_both o) (both_fit o) i

-- ---- a build reads no gap and no weight: once they are in their ranges it does the same at any others

pub build_any_gaps : (z : Sizes) (gv gu w : ℕ) (i : BuildCall) → sizes_fit z ≡ true → sizes_fit (sized z gv gu w) ≡ true
    → build_now (sized z gv gu w) i ≡ build_now z i
unfolding build_answer_under build_lengths_differ key_differs secret_differs secret_refusal_under build_refusal secret_matrix order_exit_under
    key_exit_under key_ones_of
    key_twos_of build_work_exit_under
build_any_gaps z gv gu w i h k = rw (h, k)
