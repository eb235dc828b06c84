-- Demand 3 over the calls: a draw under a built key releases a word exactly when the terms hold of it. Assumes nothing.
use mathlib.Core.Path.{◌≡◌, refl, sym, ap, ap₂, ◌∙◌, subst}
use mathlib.Core.Bool.{true, false, and-eq-true_iff}
use mathlib.Core.Logic.{◌↔◌}
use mathlib.Core.List.{List}
use Prim.Native.Nat.{ℕ, ◌+◌, ◌-◌, ◌^◌, ◌≤◌, ◌<◌}
use native.Mathlib.Decide.{dec_lt}
use native.Mathlib.Omega.{arith}
use borrow.Author.Tests.{leb-true}
use lib.Dec.{leb, lit<}
use lib.ListN.{length, get_or, get_or-eq_default}
use Rattle.trits.specs.Trit.{up_to}
use Rattle.trits.specs.Planes.{pair_of, trit_at, words_for, ones_of, twos_of, zero_words}
use Rattle.trits.specs.Rows.{row_part}
use Rattle.trits.proofs.Lists.{length_zeros}
use Rattle.trits.proofs.Refusals.{exit_new}
use Rattle.trits.proofs.Reading.{length_ones, length_twos}
use Rattle.trits.proofs.Ends.{upto_in}
use Rattle.matrix.specs.Linear.{Vector}
use Rattle.matrix.specs.Orders.{Order}
use Rattle.matrix.proofs.Places.{elem_at}
use Rattle.matrix.proofs.Orders.{order_good, test_order}
use Rattle.scheme.specs.declared.sizes.Sizes.{Sizes}
use Rattle.scheme.specs.Sizes.{half, places, dim, codim, gap_u, sizes_fit, sizes_fit_under, sized}
use Rattle.scheme.specs.Secret.{Secret, no_zero}
use Rattle.scheme.specs.Build.{key_order, key_row}
use Rattle.scheme.specs.Draw.{Choices, drawn, draw_refusal, signature}
use Rattle.scheme_laws.proofs.Pairs.{zero_no}
use Rattle.scheme.proofs.Ranges.{sizes_fit_law}
use Rattle.scheme.proofs.Zeros.{has_zero_of}
use Rattle.scheme_laws.proofs.Draws.{Valid}
use Rattle.calls.specs.Lent.{secret_of, secret_differs, secret_refusal, secret_refusal_under}
use Rattle.calls.specs.BuildCall.{BuildCall, key_row_words, order_exit, order_exit_under, key_ones_of, key_twos_of, key_exit, key_exit_under}
use Rattle.calls.specs.DrawCall.{DrawCall, choices_of, draw_work_words, draw_lengths_differ, draw_answer}
use Rattle.calls.specs.DrawCall.{word_of, word_exit, word_exit_under, s_exit, s_exit_under}
use Rattle.wave.specs.Terms.{Built, built_key, LentSyndrome, LentAs, Under, HandsOut, Bits, SomeDraw, KeyTerms}
use Rattle.wave.specs.Vectors.{Released, Releases}
use Rattle.wave.proofs.Written.{written_back, written_passes, ones_words, twos_words, zero_words_law, rows_part}
use Rattle.wave.proofs.Cut.{cut, cut_valid, cut_passed, cut_word}
use Rattle.wave.proofs.Passed.{build_call_law, build_fits_law, DrawPassed, draw_call_law, call_draws, choices_fit_law, no_choice_differs, lengths_same}
use Rattle.wave.proofs.Verifier.{build_ended}
use Rattle.wave.proofs.Reach.{reach}

-- ---- a build that is not refused released its p and its key, as the words lent back say

module _ (z : Sizes) (i : BuildCall) (b : Built z i) where
  abbrev s : Secret
  s = secret_of z i.secret

  pub built_ones : (j : ℕ) → j < dim z
      → ones_of (up_to (codim z) (key_row z (secret_of z i.secret) i.start j)) (key_row_words z) ≡ row_part (key_exit z i).ones (dim z) (key_row_words z) j
  unfolding key_exit_under key_ones_of
  built_ones j l =
      sym (ap (λ (x : List ℕ). row_part x (dim z) (key_row_words z) j) (sym (exit_new (key_ones_of z s i.start) i.key.ones b))
      ∙ rows_part (λ k. ones_of (up_to (codim z) (key_row z s i.start k)) (key_row_words z)) (key_row_words z)
      (λ k. length_ones (up_to (codim z) (key_row z s i.start k)) (key_row_words z)) (dim z) j l)

  pub built_twos : (j : ℕ) → j < dim z
      → twos_of (up_to (codim z) (key_row z (secret_of z i.secret) i.start j)) (key_row_words z) ≡ row_part (key_exit z i).twos (dim z) (key_row_words z) j
  unfolding key_exit_under key_twos_of
  built_twos j l =
      sym (ap (λ (x : List ℕ). row_part x (dim z) (key_row_words z) j) (sym (exit_new (key_twos_of z s i.start) i.key.twos b))
      ∙ rows_part (λ k. twos_of (up_to (codim z) (key_row z s i.start k)) (key_row_words z)) (key_row_words z)
      (λ k. length_twos (up_to (codim z) (key_row z s i.start k)) (key_row_words z)) (dim z) j l)

  -- a row of the key's words is a row of R, and 0 past it
  pub built_row : (j : ℕ) → j < dim z → built_key z i j ≡ up_to (codim z) (key_row z (secret_of z i.secret) i.start j)
  unfolding built_key
  built_row j l = ap₂ trit_at (sym (built_ones j l)) (sym (built_twos j l)) ∙ written_back (codim z) (key_row z s i.start j)

  pub built_released : Released z (secret_of z i.secret) i.start (order_exit z i) (built_key z i)
  unfolding order_exit_under
  built_released =
      let p = build_call_law z i b in
      record {
        given = build_fits_law z i p;
        passed = p.ranks;
        order = sym (exit_new (key_order z s i.start) i.p b);
        rows = λ j q l m. ap (λ (v : Vector). v q) (built_row j l) ∙ upto_in (key_row z s i.start j) (codim z) q m;
      }

-- ---- from a call to vectors

-- the word lent back is the word drawn
pub handed_word : (z : Sizes) (l : DrawCall) → draw_answer z l ≡ 0 → trit_at (word_exit z l).ones (word_exit z l).twos ≡ up_to (places z) (word_of z l)
unfolding word_exit_under
handed_word z l d =
    ap₂ trit_at (sym (exit_new (ones_of (up_to (places z) (word_of z l)) (words_for (places z))) l.word.ones d))
    (sym (exit_new (twos_of (up_to (places z) (word_of z l)) (words_for (places z))) l.word.twos d))
    ∙ written_back (places z) (word_of z l)

call_releases : (z : Sizes) (l : DrawCall) (e : Vector) → HandsOut z l e → Releases z (secret_of z l.secret) l.p (trit_at l.y.ones l.y.twos) e
unfolding word_of
call_releases z l e h =
    let p = draw_call_law z l h.passed in
    record {
      choices = choices_of l;
      given = choices_fit_law z l p;
      passed = p.draws;
      word = λ q m. sym (ap (λ (v : Vector). v q) (handed_word z l h.passed) ∙ upto_in (word_of z l) (places z) q m) ∙ h.word q m;
    }

-- under a build's secret and p
pub under_releases : (z : Sizes) (i : BuildCall) (gv gu w : ℕ) (l : DrawCall) (e : Vector) → Under z i l → HandsOut (sized z gv gu w) l e
    → Releases (sized z gv gu w) (secret_of z i.secret) (order_exit z i) (trit_at l.y.ones l.y.twos) e
under_releases z i gv gu w l e u h =
    subst (λ k. Releases (sized z gv gu w) (secret_of z k) (order_exit z i) (trit_at l.y.ones l.y.twos) e) u.secret_is
    (subst (λ (p : List ℕ). Releases (sized z gv gu w) (secret_of z l.secret) p (trit_at l.y.ones l.y.twos) e) u.order_is
    (call_releases (sized z gv gu w) l e h))

-- and s lent back is its last k trits
pub handed_ones : (z : Sizes) (l : DrawCall) → draw_answer z l ≡ 0
    → (s_exit z l).ones ≡ ones_of (up_to (dim z) (signature z (word_of z l))) (words_for (dim z))
unfolding s_exit_under
handed_ones z l d = sym (exit_new (ones_of (up_to (dim z) (signature z (word_of z l))) (words_for (dim z))) l.s.ones d)

pub handed_twos : (z : Sizes) (l : DrawCall) → draw_answer z l ≡ 0
    → (s_exit z l).twos ≡ twos_of (up_to (dim z) (signature z (word_of z l))) (words_for (dim z))
unfolding s_exit_under
handed_twos z l d = sym (exit_new (twos_of (up_to (dim z) (signature z (word_of z l))) (words_for (dim z))) l.s.twos d)

pub handed_signature : (z : Sizes) (l : DrawCall) → draw_answer z l ≡ 0
    → trit_at (s_exit z l).ones (s_exit z l).twos ≡ up_to (dim z) (signature z (word_of z l))
handed_signature z l d = ap₂ trit_at (handed_ones z l d) (handed_twos z l d) ∙ written_back (dim z) (signature z (word_of z l))

-- the terms hold of the word that a draw under a built key made
pub drawn_terms : (z : Sizes) (i : BuildCall) → Built z i → (gv gu w : ℕ) (l : DrawCall) → Under z i l → draw_answer (sized z gv gu w) l ≡ 0
    → KeyTerms z i gu w l.y.ones l.y.twos (word_of (sized z gv gu w) l)
drawn_terms z i b gv gu w l u d =
    let e = word_of (sized z gv gu w) l in
    (reach z (secret_of z i.secret) i.start (order_exit z i) (built_key z i) (built_released z i b) gv gu w (draw_call_law (sized z gv gu w) l d).sizes
    (trit_at l.y.ones l.y.twos) e).0
    (under_releases z i gv gu w l e u
    (record { passed = d; word = λ q h. ap (λ (v : Vector). v q) (handed_word (sized z gv gu w) l d) ∙ upto_in e (places z) q h }))

-- ---- from vectors to a call

-- no size is large
pub few : (z : Sizes) → sizes_fit z ≡ true → z.n ≤ 16384
unfolding sizes_fit_under
few z h = leb-true z.n 16384 ((and-eq-true_iff (leb z.n 16384) _).0 ((and-eq-true_iff (leb 4 z.n) _).0 h).1).0

-- the numbers of an order of so few places have 16 bits
order_words : (n : ℕ) (ps : List ℕ) → Order n ps → n ≤ 16384 → Bits 16 ps
order_words n ps o h j = by (dec_lt j (length ps))
  where
    by : Dec (j < length ps) → get_or ps j 0 < 2 ^ 16
    by (yes l) = let b = (order_good n ps o).1 (get_or ps j 0) (elem_at ps j l) in omega arith
    by (no f) = let e : get_or ps j 0 ≡ 0 = get_or-eq_default ps 0 (omega arith) in rw e (lit< tt)

module _ (z : Sizes) (i : BuildCall) (b : Built z i) (gv gu w : ℕ) (fit : sizes_fit (sized z gv gu w) ≡ true)
    (y_ones y_twos : List ℕ) (ly : LentSyndrome z y_ones y_twos)
    (e : Vector)
    (re : Releases (sized z gv gu w) (secret_of z i.secret) (order_exit z i) (trit_at y_ones y_twos) e) where
  abbrev Z : Sizes
  Z = sized z gv gu w

  abbrev ch : Choices
  ch = cut Z re.choices

  -- the choices in planes; word, s and working space of 0
  abbrev made : DrawCall
  made =
      record {
        secret = i.secret;
        p = order_exit z i;
        y = pair_of y_ones y_twos;
        order_v = ch.order_v;
        v = pair_of (ones_of ch.trits_v (words_for z.kv)) (twos_of ch.trits_v (words_for z.kv));
        order_u = ch.order_u;
        u = pair_of (ones_of ch.values_u (words_for z.ku)) (twos_of ch.values_u (words_for z.ku));
        word = pair_of (zero_words (words_for (places z))) (zero_words (words_for (places z)));
        s = pair_of (zero_words (words_for (dim z))) (zero_words (words_for (dim z)));
        work = pair_of (zero_words (draw_work_words z)) (zero_words (draw_work_words z));
      }

  valid : Valid Z ch
  valid = cut_valid Z (s z i b) (order_exit z i) (trit_at y_ones y_twos) e (sizes_fit_law Z fit) re

  p_order : Order (places z) (order_exit z i)
  p_order = (build_ended z (s z i b) i.start (order_exit z i) (built_key z i) (built_released z i b)).1

  choices_are : choices_of made ≡ ch
  choices_are =
      ap₂ (λ (v u : Vector). record { order_v = ch.order_v; trits_v = v; order_u = ch.order_u; values_u = u })
      (written_back z.kv re.choices.trits_v) (written_back z.ku re.choices.values_u)

  made_lengths : draw_lengths_differ Z made ≡ false
  unfolding secret_differs
  made_lengths =
      lengths_same Z made (build_call_law z i b).lengths
      (no_choice_differs Z p_order.size ly.ones_size ly.twos_size valid.order_v.size (length_ones ch.trits_v (words_for z.kv))
      (length_twos ch.trits_v (words_for z.kv))
      valid.order_u.size (length_ones ch.values_u (words_for z.ku)) (length_twos ch.values_u (words_for z.ku))
      (length_zeros (words_for (places z))) (length_zeros (words_for (places z))) (length_zeros (words_for (dim z))) (length_zeros (words_for (dim z)))
      (length_zeros (draw_work_words z)) (length_zeros (draw_work_words z)))

  made_secret : secret_refusal Z i.secret ≡ 0
  unfolding secret_refusal_under
  made_secret = (build_call_law z i b).contents

  made_passes : DrawPassed Z made
  made_passes =
      record {
        sizes = fit;
        lengths = made_lengths;
        contents = made_secret;
        order = test_order (places z) (order_exit z i) p_order;
        syndrome = ly.contents;
        order_v_here = test_order (half z) ch.order_v valid.order_v;
        trits_v_law = written_passes z.kv re.choices.trits_v;
        order_u_here = test_order (half z) ch.order_u valid.order_u;
        values_u_law = written_passes z.ku re.choices.values_u;
        last_u_here = has_zero_of (z.ku - gap_u Z) (λ j. (choices_of made).values_u (gap_u Z + j))
            (ap (λ (c : Choices). no_zero (z.ku - gap_u Z) (λ j. c.values_u (gap_u Z + j))) choices_are
            ∙ zero_no (z.ku - gap_u Z) (λ j. ch.values_u (gap_u Z + j)) valid.values);
        draws = ap (draw_refusal Z (s z i b) (order_exit z i) (trit_at y_ones y_twos)) choices_are
            ∙ cut_passed Z (s z i b) (order_exit z i) (trit_at y_ones y_twos) e (sizes_fit_law Z fit) re;
      }

  made_answer : draw_answer Z made ≡ 0
  made_answer = call_draws Z made made_passes

  made_word : (q : ℕ) → q < places z → trit_at (word_exit Z made).ones (word_exit Z made).twos q ≡ e q
  unfolding word_of
  made_word q l =
      ap (λ (v : Vector). v q) (handed_word Z made made_answer)
      ∙ upto_in (word_of Z made) (places z) q l
      ∙ ap (λ (c : Choices). drawn Z (s z i b) (order_exit z i) (trit_at y_ones y_twos) c q) choices_are
      ∙ cut_word Z (s z i b) (order_exit z i) (trit_at y_ones y_twos) e (sizes_fit_law Z fit) re q l

  some_draw : SomeDraw z i gv gu w y_ones y_twos e
  some_draw =
      let n = few Z fit in
      record {
        call = made;
        lendable = record {
          order_v_here = order_words (half z) ch.order_v valid.order_v (omega arith);
          v_ones = ones_words ch.trits_v (words_for z.kv);
          v_twos = twos_words ch.trits_v (words_for z.kv);
          order_u_here = order_words (half z) ch.order_u valid.order_u (omega arith);
          u_ones = ones_words ch.values_u (words_for z.ku);
          u_twos = twos_words ch.values_u (words_for z.ku);
          word_ones = zero_words_law (words_for (places z));
          word_twos = zero_words_law (words_for (places z));
          s_ones = zero_words_law (words_for (dim z));
          s_twos = zero_words_law (words_for (dim z));
          work_ones = zero_words_law (draw_work_words z);
          work_twos = zero_words_law (draw_work_words z);
        };
        under = record { secret_is = refl; order_is = refl };
        y_ones = refl;
        y_twos = refl;
        releases = record { passed = made_answer; word = made_word };
      }

-- ---- both ways

-- every y of n-k trits can be lent
pub syndrome_lent : (z : Sizes) (y : Vector) → LentAs z y
syndrome_lent z y =
    let m = codim z in
    let w = words_for (codim z) in
    record {
      ones = ones_of (up_to m y) w;
      twos = twos_of (up_to m y) w;
      ones_words = ones_words (up_to m y) w;
      twos_words = twos_words (up_to m y) w;
      passes = record { ones_size = length_ones (up_to m y) w; twos_size = length_twos (up_to m y) w; contents = written_passes m y };
      back = λ j h. ap (λ (v : Vector). v j) (written_back m y) ∙ upto_in y m j h;
    }

pub reach_calls : (z : Sizes) (i : BuildCall) → Built z i → (gv gu w : ℕ) → sizes_fit (sized z gv gu w) ≡ true
    → (y_ones y_twos : List ℕ) → LentSyndrome z y_ones y_twos
    → (e : Vector)
    → SomeDraw z i gv gu w y_ones y_twos e ↔ KeyTerms z i gu w y_ones y_twos e
reach_calls z i b gv gu w fit y_ones y_twos ly e = (
  (λ d. iff.0 (by d)),
  λ t. some_draw z i b gv gu w fit y_ones y_twos ly e (iff.1 t),
)
  where
    iff : Releases (sized z gv gu w) (secret_of z i.secret) (order_exit z i) (trit_at y_ones y_twos) e ↔ KeyTerms z i gu w y_ones y_twos e
    iff = reach z (secret_of z i.secret) i.start (order_exit z i) (built_key z i) (built_released z i b) gv gu w fit (trit_at y_ones y_twos) e

    by : SomeDraw z i gv gu w y_ones y_twos e → Releases (sized z gv gu w) (secret_of z i.secret) (order_exit z i) (trit_at y_ones y_twos) e
    by d =
        subst (λ (y : Vector). Releases (sized z gv gu w) (secret_of z i.secret) (order_exit z i) y e) (ap₂ trit_at d.y_ones d.y_twos)
        (under_releases z i gv gu w d.call e d.under d.releases)

-- at two gaps of V the terms are the same, and so are the words that some draw releases
pub any_gap_of_v : (z : Sizes) (i : BuildCall) → Built z i → (gv other gu w : ℕ) → sizes_fit (sized z gv gu w) ≡ true
    → sizes_fit (sized z other gu w) ≡ true → (y_ones y_twos : List ℕ) → LentSyndrome z y_ones y_twos → (e : Vector)
    → SomeDraw z i gv gu w y_ones y_twos e ↔ SomeDraw z i other gu w y_ones y_twos e
any_gap_of_v z i b gv other gu w fit fits y_ones y_twos ly e =
    let here = reach_calls z i b gv gu w fit y_ones y_twos ly e in
    let there = reach_calls z i b other gu w fits y_ones y_twos ly e in
    ((λ d. there.1 (here.0 d)), λ d. here.1 (there.0 d))
