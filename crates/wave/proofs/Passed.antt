-- What a call of the builder or of the signer that was not refused has passed, and that a draw passes which has all of that. Assumes nothing.
use mathlib.Core.Path.{◌≡◌}
use mathlib.Core.Bool.{true, false}
use Prim.Native.Nat.{ℕ, ◌-◌, ◌+◌}
use borrow.Author.Tests.{eq-eqb}
use lib.Dec.{lit<}
use lib.ListN.{length}
use Rattle.trits.specs.Planes.{trit_at, words_for}
use Rattle.trits.specs.Refusal.{first, planes_refusal}
use Rattle.trits.proofs.Refusals.{passed_refuse, passed_demand, passed_first}
use Rattle.matrix.specs.Orders.{is_order}
use Rattle.matrix.proofs.Places.{or_false_left}
use Rattle.scheme.specs.declared.sizes.Sizes.{Sizes}
use Rattle.scheme.specs.Sizes.{half, places, dim, ru, rv, codim, gap_u, sizes_fit}
use Rattle.scheme.specs.Secret.{no_zero, has_zero}
use Rattle.scheme.specs.Build.{build_fits, build_refusal}
use Rattle.scheme.specs.Draw.{choices_fit, draw_refusal}
use Rattle.scheme.proofs.Zeros.{no_zero_of}
use Rattle.calls.specs.Lent.{Planes, secret_of, pair_differs, secret_refusal, secret_refusal_under}
use Rattle.calls.specs.BuildCall.{BuildCall, build_lengths_differ, build_answer, build_answer_under}
use Rattle.calls.specs.DrawCall.{DrawCall, syndrome_of, choices_of, draw_work_words, choices_differ, draw_lengths_differ, last_has_zero}
use Rattle.calls.specs.DrawCall.{choices_refusal, choices_refusal_under, draw_answer, draw_answer_under}
use Rattle.calls.proofs.Secrets.{differs}

-- ---- the secret, whatever the gaps and w are

-- c is nowhere 0
pub secret_unit : (z : Sizes) (k : Planes) → secret_refusal z k ≡ 0 → no_zero (half z) (trit_at k.c.ones k.c.twos) ≡ true
unfolding secret_refusal_under
secret_unit z k e =
    let a = passed_first (planes_refusal k.hu.ones k.hu.twos (ru z) (half z)) _ e in
    let b = passed_first (planes_refusal k.hv.ones k.hv.twos (rv z) (half z)) _ a.1 in
    let c = passed_first (planes_refusal k.b.ones k.b.twos 1 (half z)) _ b.1 in
    let d = passed_first (planes_refusal k.c.ones k.c.twos 1 (half z)) _ c.1 in
    no_zero_of (half z) (trit_at k.c.ones k.c.twos) (passed_refuse (has_zero (half z) (trit_at k.c.ones k.c.twos)) 8 0 (lit< tt) d.1).0

-- ---- a build

pub record BuildPassed (z : Sizes) (i : BuildCall) : Type 0 where
  pub sizes : sizes_fit z ≡ true
  pub lengths : differs z i.secret ≡ false
  pub contents : secret_refusal z i.secret ≡ 0
  pub start : is_order (places z) i.start ≡ true
  pub ranks : build_refusal z (secret_of z i.secret) ≡ 0

pub build_call_law : (z : Sizes) (i : BuildCall) → build_answer z i ≡ 0 → BuildPassed z i
unfolding build_answer_under build_lengths_differ
build_call_law z i e =
    let a = passed_demand (sizes_fit z) 1 _ (lit< tt) e in
    let b = passed_refuse (build_lengths_differ z i) 2 _ (lit< tt) a.1 in
    let c = passed_first (secret_refusal z i.secret) _ b.1 in
    let d = passed_demand (is_order (places z) i.start) 7 _ (lit< tt) c.1 in
    record { sizes = a.0; lengths = or_false_left (differs z i.secret) _ b.0; contents = c.0; start = d.0; ranks = d.1 }

-- what it was given is in order
pub build_fits_law : (z : Sizes) (i : BuildCall) → BuildPassed z i → build_fits z (secret_of z i.secret) i.start ≡ true
unfolding build_fits
build_fits_law z i p = rw (p.sizes, secret_unit z i.secret p.contents, p.start)

-- ---- a draw

pub record DrawPassed (z : Sizes) (l : DrawCall) : Type 0 where
  pub sizes : sizes_fit z ≡ true
  pub lengths : draw_lengths_differ z l ≡ false
  pub contents : secret_refusal z l.secret ≡ 0
  pub order : is_order (places z) l.p ≡ true
  pub syndrome : planes_refusal l.y.ones l.y.twos 1 (codim z) ≡ 0
  pub order_v_here : is_order (half z) l.order_v ≡ true
  pub trits_v_law : planes_refusal l.v.ones l.v.twos 1 z.kv ≡ 0
  pub order_u_here : is_order (half z) l.order_u ≡ true
  pub values_u_law : planes_refusal l.u.ones l.u.twos 1 z.ku ≡ 0
  pub last_u_here : last_has_zero z l ≡ false
  pub draws : draw_refusal z (secret_of z l.secret) l.p (syndrome_of l) (choices_of l) ≡ 0

pub draw_call_law : (z : Sizes) (l : DrawCall) → draw_answer z l ≡ 0 → DrawPassed z l
unfolding draw_answer_under choices_refusal_under
draw_call_law z l e =
    let a = passed_demand (sizes_fit z) 1 _ (lit< tt) e in
    let b = passed_refuse (draw_lengths_differ z l) 2 _ (lit< tt) a.1 in
    let c = passed_first (secret_refusal z l.secret) _ b.1 in
    let d = passed_first (choices_refusal z l) (draw_refusal z (secret_of z l.secret) l.p (syndrome_of l) (choices_of l)) c.1 in
    let f = passed_demand (is_order (places z) l.p) 7 _ (lit< tt) d.0 in
    let g = passed_first (planes_refusal l.y.ones l.y.twos 1 (codim z)) _ f.1 in
    let h = passed_demand (is_order (half z) l.order_v) 7 _ (lit< tt) g.1 in
    let i = passed_first (planes_refusal l.v.ones l.v.twos 1 z.kv) _ h.1 in
    let j = passed_demand (is_order (half z) l.order_u) 7 _ (lit< tt) i.1 in
    let k = passed_first (planes_refusal l.u.ones l.u.twos 1 z.ku) _ j.1 in
    let m = passed_refuse (last_has_zero z l) 8 0 (lit< tt) k.1 in
    record {
      sizes = a.0;
      lengths = b.0;
      contents = c.0;
      order = f.0;
      syndrome = g.0;
      order_v_here = h.0;
      trits_v_law = i.0;
      order_u_here = j.0;
      values_u_law = k.0;
      last_u_here = m.0;
      draws = d.1;
    }

-- and the other way
pub call_draws : (z : Sizes) (l : DrawCall) → DrawPassed z l → draw_answer z l ≡ 0
unfolding draw_answer_under choices_refusal_under first
call_draws z l p =
    rw (p.sizes, p.lengths, p.contents, p.order, p.syndrome, p.order_v_here, p.trits_v_law, p.order_u_here, p.values_u_law, p.last_u_here) p.draws

-- the choices are in order
pub choices_fit_law : (z : Sizes) (l : DrawCall) → DrawPassed z l → choices_fit z (choices_of l) ≡ true
unfolding choices_fit
choices_fit_law z l p = rw (p.order_v_here, p.order_u_here, no_zero_of (z.ku - gap_u z) (λ j. trit_at l.u.ones l.u.twos (gap_u z + j)) p.last_u_here)

-- ---- lengths that are right

same_pair : (m a b : ℕ) → a ≡ m → b ≡ m → pair_differs m a b ≡ false
same_pair m a b p q = rw (eq-eqb a m p, eq-eqb b m q)

pub no_choice_differs : (z : Sizes) {p y1 y2 ov v1 v2 ou u1 u2 e1 e2 s1 s2 w1 w2 : ℕ}
    → p ≡ places z → y1 ≡ words_for (codim z) → y2 ≡ words_for (codim z) → ov ≡ half z → v1 ≡ words_for z.kv → v2 ≡ words_for z.kv
    → ou ≡ half z → u1 ≡ words_for z.ku → u2 ≡ words_for z.ku → e1 ≡ words_for (places z) → e2 ≡ words_for (places z)
    → s1 ≡ words_for (dim z) → s2 ≡ words_for (dim z) → w1 ≡ draw_work_words z → w2 ≡ draw_work_words z
    → choices_differ z p y1 y2 ov v1 v2 ou u1 u2 e1 e2 s1 s2 w1 w2 ≡ false
unfolding choices_differ
no_choice_differs z {p} {y1} {y2} {ov} {v1} {v2} {ou} {u1} {u2} {e1} {e2} {s1} {s2} {w1} {w2} ep ey1 ey2 eov ev1 ev2 eou eu1 eu2 ee1 ee2 es1 es2 ew1 ew2 =
    rw (
      eq-eqb p (places z) ep,
      same_pair (words_for (codim z)) y1 y2 ey1 ey2,
      same_pair (half z) ov ou eov eou,
      same_pair (words_for z.kv) v1 v2 ev1 ev2,
      same_pair (words_for z.ku) u1 u2 eu1 eu2,
      same_pair (words_for (places z)) e1 e2 ee1 ee2,
      same_pair (words_for (dim z)) s1 s2 es1 es2,
      same_pair (draw_work_words z) w1 w2 ew1 ew2,
    )

-- every length of a draw
pub lengths_same : (z : Sizes) (l : DrawCall) → differs z l.secret ≡ false
    → choices_differ z (length l.p) (length l.y.ones) (length l.y.twos) (length l.order_v) (length l.v.ones) (length l.v.twos)
    (length l.order_u) (length l.u.ones) (length l.u.twos)
    (length l.word.ones) (length l.word.twos) (length l.s.ones) (length l.s.twos) (length l.work.ones) (length l.work.twos) ≡ false
    → draw_lengths_differ z l ≡ false
unfolding draw_lengths_differ
lengths_same z l a b = rw (a, b)
