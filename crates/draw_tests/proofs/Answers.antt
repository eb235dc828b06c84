-- The call's answer by its tests, and what is known once they have passed. Assumes nothing.
use mathlib.Core.Path.{◌≡◌, refl, sym, ◌∙◌}
use mathlib.Core.Bool.{Bool, true, false, not, ◌||◌, cond}
use mathlib.Core.List.{List}
use Prim.Native.Nat.{ℕ, ◌+◌, ◌-◌}
use borrow.Author.Tests.{eqb-true}
use mir.Syntax.{w64}
use mir.Val.{Fits}
use lib.Dec.{eqb, lit<}
use lib.ListN.{length, get_or}
use Rattle.std.specs.Prelude.{Result, Ok, Err, IfOk}
use Rattle.trits.specs.declared.Planes.{Planes as LentPlanes}
use Rattle.trits.specs.declared.refusal.Refusal.{Refusal}
use Rattle.trits.specs.Planes.{words_for, trit_at, zero_words}
use Rattle.trits.specs.Refusal.{first, space_exit, planes_refusal}
use Rattle.trits.proofs.Refusals.{passed_first, passed_refuse, passed_demand, planes_row, left_cleared, clears_demand, clears_none}
use Rattle.trits.proofs.Refusals.{Leaves, leaves_none, leaves_refuse, leaves_demand, leaves_first, leaves_planes}
use Rattle.trits.proofs.Tests.{or_false_both}
use Rattle.trits.specs.Trit.{weight_v}
use Rattle.matrix.specs.Linear.{Vector, rank}
use Rattle.matrix.specs.Orders.{is_order}
use Rattle.matrix.proofs.Field.{not-false}
use Rattle.matrix.proofs.Orders.{order_test}
use Rattle.scheme.specs.declared.sizes.Sizes.{Sizes}
use Rattle.scheme.specs.Sizes.{half, places, dim, codim, gap_u, sizes_fit, ru, rv}
use Rattle.scheme.specs.Secret.{Secret}
use Rattle.scheme.specs.Draw.{Choices, draw_refusal, first_v, first_u, drawn}
use Rattle.scheme.proofs.Zeros.{no_zero_of}
use Rattle.calls.specs.declared.lent.Choices.{Choices as LentChoices}
use Rattle.calls.specs.Lent.{Planes, pair_differs, secret_refusal}
use Rattle.calls.specs.Steps.{Readable}
use Rattle.calls.specs.DrawCall.{DrawCall, draw_work_words, choices_differ, draw_lengths_differ, last_has_zero, choices_refusal, choices_refusal_under}
use Rattle.calls.specs.DrawCall.{draw_answer, draw_answer_under}
use Rattle.calls.proofs.Secrets.{pair_same, differs, Lengths, secret_lengths, secret_leaves}
use Rattle.draw_tests.specs.Steps.{given, chosen, chosen_lent, ending, Chosen, Ready, ChosenLengths}

-- ---- the answer

-- the contents of the secret, then those of p, y and the choices
abbrev pub contents : Sizes → DrawCall → ℕ
contents z i = first (secret_refusal z i.secret) (choices_refusal z i)

module _ (z : Sizes) (i : DrawCall) where
  pub answer_size : sizes_fit z ≡ false → 1 ≡ draw_answer z i
  unfolding draw_answer_under
  answer_size e = rw e

  module _ (e : sizes_fit z ≡ true) where
    pub answer_length : draw_lengths_differ z i ≡ true → 2 ≡ draw_answer z i
    unfolding draw_answer_under
    answer_length f = rw (e, f)

    module _ (f : draw_lengths_differ z i ≡ false) where
      chain : first (secret_refusal z i.secret) (first (choices_refusal z i) (ending z i)) ≡ draw_answer z i
      unfolding draw_answer_under
      chain = rw (e, f)

      pub answer_contents : {x : ℕ} → x ≡ contents z i → (x ≡ 0 → ⊥) → x ≡ draw_answer z i
      unfolding first
      answer_contents {x} g h = g
          ∙ by (secret_refusal z i.secret) (eqb (secret_refusal z i.secret) 0) (choices_refusal z i) (eqb (choices_refusal z i) 0) refl (λ y. h (g ∙ y))
          ∙ chain
        where
          by : (S : ℕ) (s : Bool) (C : ℕ) (t : Bool) → eqb C 0 ≡ t → (cond s C S ≡ 0 → ⊥) → cond s C S ≡ cond s (cond t (ending z i) C) S
          by S true C true q k = absurd (k (eqb-true C 0 q))
          by S true C false q k = refl
          by S false C t q k = refl

      pub answer_ending : contents z i ≡ 0 → ending z i ≡ draw_answer z i
      unfolding first
      answer_ending g =
          let a = passed_first (secret_refusal z i.secret) (choices_refusal z i) g in
          by (secret_refusal z i.secret) a.0 (choices_refusal z i) a.1 ∙ chain
        where
          by : (S : ℕ) → S ≡ 0 → (C : ℕ) → C ≡ 0 → ending z i ≡ cond (eqb S 0) (cond (eqb C 0) (ending z i) C) S
          by S p C q = rw (p, q)

-- the choices are tested alone
pub same_choices : (z : Sizes) (i : DrawCall)
    → choices_refusal z (chosen i.p i.y.ones i.y.twos i.order_v i.v.ones i.v.twos i.order_u i.u.ones i.u.twos)
    ≡ choices_refusal z i
unfolding choices_refusal_under
same_choices z i = refl

-- ---- the working space

-- a refusal of the contents leaves it
pub contents_leaves : (z : Sizes) (i : DrawCall) → Leaves (contents z i)
unfolding choices_refusal_under
contents_leaves z i =
    leaves_first (secret_refusal z i.secret) (choices_refusal z i) (secret_leaves z i.secret)
    (leaves_demand (is_order (places z) i.p) 7 _ refl (leaves_first _ _ (leaves_planes i.y.ones i.y.twos 1 (codim z))
    (leaves_demand (is_order (half z) i.order_v) 7 _ refl (leaves_first _ _ (leaves_planes i.v.ones i.v.twos 1 z.kv)
    (leaves_demand (is_order (half z) i.order_u) 7 _ refl (leaves_first _ _ (leaves_planes i.u.ones i.u.twos 1 z.ku)
    (leaves_refuse (last_has_zero z i) 8 0 refl leaves_none)))))))

-- after the word it is 0
pub work_ended : (z : Sizes) (s : Secret) (p : List ℕ) (y : Vector) (ch : Choices) (w : List ℕ)
    → zero_words (length w) ≡ space_exit (draw_refusal z s p y ch) w
unfolding draw_refusal
work_ended z s p y ch w =
    left_cleared w (clears_demand (eqb (rank (rv z) (half z) s.hv (first_v z ch)) (rv z)) 12 _ refl
    (clears_demand (eqb (rank (ru z) (half z) s.hu (first_u z ch)) (ru z)) 13 _ refl
    (clears_demand (eqb (weight_v (drawn z s p y ch) (places z)) z.w) 14 0 refl clears_none)))

-- ---- lengths that do not differ

pub record ChoicesLengths (z : Sizes) (p y1 y2 ov v1 v2 ou u1 u2 e1 e2 s1 s2 w1 w2 : ℕ) : Type 0 where
  pub chosen : ChosenLengths z p y1 y2 ov v1 v2 ou u1 u2
  pub word_ones : e1 ≡ words_for (places z)
  pub word_twos : e2 ≡ words_for (places z)
  pub s_ones : s1 ≡ words_for (dim z)
  pub s_twos : s2 ≡ words_for (dim z)
  pub work_ones : w1 ≡ draw_work_words z
  pub work_twos : w2 ≡ draw_work_words z

choices_same : (z : Sizes) (p y1 y2 ov v1 v2 ou u1 u2 e1 e2 s1 s2 w1 w2 : ℕ) → choices_differ z p y1 y2 ov v1 v2 ou u1 u2 e1 e2 s1 s2 w1 w2 ≡ false
    → ChoicesLengths z p y1 y2 ov v1 v2 ou u1 u2 e1 e2 s1 s2 w1 w2
unfolding choices_differ
choices_same z p y1 y2 ov v1 v2 ou u1 u2 e1 e2 s1 s2 w1 w2 e =
    let A = or_false_both (not (eqb p (places z))) _ e in
    let B = or_false_both (pair_differs (words_for (codim z)) y1 y2) _ A.1 in
    let C = or_false_both (pair_differs (half z) ov ou) _ B.1 in
    let D = or_false_both (pair_differs (words_for z.kv) v1 v2) _ C.1 in
    let E = or_false_both (pair_differs (words_for z.ku) u1 u2) _ D.1 in
    let F = or_false_both (pair_differs (words_for (places z)) e1 e2) _ E.1 in
    let G = or_false_both (pair_differs (words_for (dim z)) s1 s2) _ F.1 in
    let y = pair_same _ y1 y2 B.0 in
    let o = pair_same _ ov ou C.0 in
    let v = pair_same _ v1 v2 D.0 in
    let u = pair_same _ u1 u2 E.0 in
    let r = pair_same _ e1 e2 F.0 in
    let s = pair_same _ s1 s2 G.0 in
    let w = pair_same _ w1 w2 G.1 in
    record {
      chosen = record {
        order = eqb-true p (places z) (not-false (eqb p (places z)) A.0);
        y_ones = y.0;
        y_twos = y.1;
        order_v = o.0;
        v_ones = v.0;
        v_twos = v.1;
        order_u = o.1;
        u_ones = u.0;
        u_twos = u.1;
      };
      word_ones = r.0;
      word_twos = r.1;
      s_ones = s.0;
      s_twos = s.1;
      work_ones = w.0;
      work_twos = w.1;
    }

module _ (z : Sizes) (i : DrawCall) where
  -- the lengths one after another
  abbrev choices_all : Bool
  choices_all = choices_differ z (length i.p) (length i.y.ones) (length i.y.twos) (length i.order_v) (length i.v.ones) (length i.v.twos)
      (length i.order_u) (length i.u.ones) (length i.u.twos)
      (length i.word.ones) (length i.word.twos) (length i.s.ones) (length i.s.twos) (length i.work.ones) (length i.work.twos)

  pub same_lengths : {t : Bool} → (differs z i.secret || choices_all) ≡ t → draw_lengths_differ z i ≡ t
  unfolding draw_lengths_differ
  same_lengths e = e

  module _ (e : draw_lengths_differ z i ≡ false) where
    pub lengths_secret : Lengths z i.secret
    unfolding draw_lengths_differ
    lengths_secret = secret_lengths z i.secret choices_all e

    pub lengths_choices : ChoicesLengths z (length i.p) (length i.y.ones) (length i.y.twos) (length i.order_v) (length i.v.ones)
        (length i.v.twos) (length i.order_u) (length i.u.ones)
        (length i.u.twos) (length i.word.ones) (length i.word.twos) (length i.s.ones) (length i.s.twos) (length i.work.ones)
        (length i.work.twos)
    unfolding draw_lengths_differ
    lengths_choices = choices_same z _ _ _ _ _ _ _ _ _ _ _ _ _ _ _ (or_false_both (differs z i.secret) choices_all e).1

    -- ---- contents that are not refused

    pub ready : contents z i ≡ 0 → Readable z i.secret
        → ((j : ℕ) → Fits w64 (get_or i.y.ones j 0)) → ((j : ℕ) → Fits w64 (get_or i.y.twos j 0))
        → ((j : ℕ) → Fits w64 (get_or i.v.ones j 0)) → ((j : ℕ) → Fits w64 (get_or i.v.twos j 0))
        → ((j : ℕ) → Fits w64 (get_or i.u.ones j 0)) → ((j : ℕ) → Fits w64 (get_or i.u.twos j 0))
        → Ready z (given i.secret i.p i.y.ones i.y.twos i.order_v i.v.ones i.v.twos i.order_u i.u.ones i.u.twos)
    unfolding choices_refusal_under
    ready g k f1 f2 f3 f4 f5 f6 =
        let l = lengths_choices.chosen in
        let S = passed_first (secret_refusal z i.secret) (choices_refusal z i) g in
        let A = passed_demand (is_order (places z) i.p) 7 _ (lit< tt) S.1 in
        let B = passed_first (planes_refusal i.y.ones i.y.twos 1 (codim z)) _ A.1 in
        let C = passed_demand (is_order (half z) i.order_v) 7 _ (lit< tt) B.1 in
        let D = passed_first (planes_refusal i.v.ones i.v.twos 1 z.kv) _ C.1 in
        let E = passed_demand (is_order (half z) i.order_u) 7 _ (lit< tt) D.1 in
        let F = passed_first (planes_refusal i.u.ones i.u.twos 1 z.ku) _ E.1 in
        record {
          secret = k;
          choices = record {
            p = order_test (places z) i.p A.0;
            y = planes_row 1 (codim z) B.0 (l.y_twos ∙ sym l.y_ones) f1 f2;
            y_size = l.y_ones;
            order_v = order_test (half z) i.order_v C.0;
            v = planes_row 1 z.kv D.0 (l.v_twos ∙ sym l.v_ones) f3 f4;
            v_size = l.v_ones;
            order_u = order_test (half z) i.order_u E.0;
            u = planes_row 1 z.ku F.0 (l.u_twos ∙ sym l.u_ones) f5 f6;
            u_size = l.u_ones;
            values = no_zero_of (z.ku - gap_u z) (λ j. trit_at i.u.ones i.u.twos (gap_u z + j))
                (passed_refuse (last_has_zero z i) 8 0 (lit< tt) F.1).0;
          };
        }

-- what the tests of the secret have shown, its words being words
pub contents_secret : (z : Sizes) (i : DrawCall) → contents z i ≡ 0 → secret_refusal z i.secret ≡ 0
contents_secret z i g = (passed_first (secret_refusal z i.secret) (choices_refusal z i) g).0

-- ---- what can be read, where the tests have told so

-- p, y and the choices can be, whatever the secret is
pub chosen_given : {z : Sizes} (s : Planes) (p : List ℕ) (y : LentPlanes) (ch : LentChoices) → Chosen z (chosen_lent p y ch)
    → Chosen z (given s p y.ones.now y.twos.now ch.v_order.now ch.v.ones.now ch.v.twos.now ch.u_order.now ch.u.ones.now ch.u.twos.now)
chosen_given s p y ch k = record {
  p = k.p;
  y = k.y;
  y_size = k.y_size;
  order_v = k.order_v;
  v = k.v;
  v_size = k.v_size;
  order_u = k.order_u;
  u = k.u;
  u_size = k.u_size;
  values = k.values;
}

pub told_ready : {z : Sizes} (s : Planes) (p : List ℕ) (y : LentPlanes) (ch : LentChoices) → Readable z s
    → (r : Result Unit Refusal) → IfOk r (λ _. Chosen z (chosen_lent p y ch))
    → IfOk r (λ _. Ready z (given s p y.ones.now y.twos.now ch.v_order.now ch.v.ones.now ch.v.twos.now ch.u_order.now ch.u.ones.now ch.u.twos.now))
told_ready s p y ch h (Ok u) k = record { secret = h; choices = chosen_given s p y ch k }
told_ready s p y ch h (Err q) k = k
