-- A built key's rows, packed and stored, then y and the s of a release, packed: the check answers yes, with the ones and twos of the released word,
-- which add up to w. Assumes nothing.
use mathlib.Core.Path.{◌≡◌, refl, sym, ap, ap₂, ◌∙◌}
use mathlib.Core.Bool.{true, false, not, and-eq-true_iff}
use mathlib.Core.List.{List}
use Prim.Native.Nat.{ℕ, ◌+◌, ◌-◌, ◌*◌, ◌%◌, ◌≤◌, ◌<◌}
use native.Mathlib.Nat.{le_refl}
use native.Mathlib.Omega.{arith}
use borrow.Author.Tests.{eq-eqb, leb-true, le-leb}
use lib.Dec.{eqb, leb}
use lib.ListN.{length}
use Rattle.trits.specs.Trit.{ones_v, twos_v, counts_v, sum_of, up_to}
use Rattle.trits.specs.Planes.{trit_at, words_for, ones_of, twos_of}
use Rattle.trits.specs.Rows.{row_part}
use Rattle.trits.specs.Refusal.{planes_refusal}
use Rattle.trits.specs.declared.Counts.{Counts}
use Rattle.trits.proofs.Counting.{counts_same, counts_weight}
use Rattle.trits.proofs.Refusals.{exit_new, passed_first, first_goes, row_ended}
use Rattle.trits.proofs.Reading.{length_ones, length_twos}
use Rattle.trits.proofs.Ends.{upto_in, upto_out, upto_ended}
use Rattle.packed.specs.Packed.{bytes_for, packed_row, packed_bytes, packed_refusal}
use Rattle.packed.specs.Calls.{pack_of, pack_refusal, pack_exit}
use Rattle.packed.proofs.RoundTrip.{packed_length, packed_back, packed_accepted}
use Rattle.packed.proofs.Turned.{pack_passed}
use Rattle.syndrome.specs.Syndrome.{salt_bytes, hashed_row, hashed_refusal}
use Rattle.syndrome.proofs.Made.{syndrome_passed, syndrome_holds}
use Rattle.matrix.specs.Linear.{Vector}
use Rattle.matrix.proofs.Places.{or_false_left, or_false_right}
use Rattle.verdict.specs.Verdict.{Key, full_counts}
use Rattle.verdict.proofs.FullWord.{counts_cong, counts_of}
use Rattle.held_key.specs.Held.{most_key_number, numbers_fit, numbers_fit_under}
use Rattle.held_key.specs.declared.state.Held.{Held}
use Rattle.check_tests.specs.declared.Checked.{Checked}
use Rattle.held_key.specs.Held.{row_trits}
use Rattle.held_key.specs.Load.{Holding, offer_all}
use Rattle.check_tests.specs.Check.{call_refusal, planes_lengths, planes_contents, planes_contents_under, answered}
use Rattle.check_tests.specs.Check.{check_refusal, check_refusal_under, check_answer, packed_check_of, check_packed_refusal, check_packed_refusal_under}
use Rattle.check_tests.specs.Check.{check_packed_answer}
use Rattle.check_tests.proofs.Passed.{check_packed_passed, packed_contents_law}
use Rattle.check_text.specs.TextCheck.{check_text_answer}
use Rattle.check_text.proofs.Verdicts.{text_as_packed}
use Rattle.checker.proofs.EndToEnd.{begun, offered, loaded}
use Rattle.checker.proofs.Verdicts.{packed_agrees}
use Rattle.scheme.specs.declared.sizes.Sizes.{Sizes}
use Rattle.scheme.specs.Sizes.{half, places, dim, codim, gaps_fit, sizes_fit, sizes_fit_under, sized}
use Rattle.scheme.specs.Build.{key_row}
use Rattle.scheme.specs.Draw.{signature}
use Rattle.scheme.proofs.Ranges.{sizes_fit_law, codim_dim}
use Rattle.calls.specs.Lent.{secret_of, pair_differs}
use Rattle.calls.specs.BuildCall.{BuildCall, key_row_words, key_exit}
use Rattle.calls.specs.DrawCall.{DrawCall, choices_differ, draw_lengths_differ, draw_answer, word_of, s_exit}
use Rattle.calls.proofs.Secrets.{pair_same, differs}
use Rattle.wave.specs.Terms.{Built, built_key, Under, HandsOut, KeyTerms}
use Rattle.wave.specs.Verifier.{Host, packed_key_row, carried, carried_check, carried_planes, Signs, carried_text, yes, Accepts}
use Rattle.wave.proofs.Written.{written_passes}
use Rattle.wave.proofs.Passed.{DrawPassed, draw_call_law}
use Rattle.wave.proofs.Checks.{packed_not_refused}
use Rattle.wave.proofs.ReachCalls.{few, built_ones, built_twos, built_row, handed_word, handed_ones, handed_twos, handed_signature, drawn_terms}

-- ---- a call of `pack`

module _ (m : ℕ) (ones twos bytes : List ℕ) (few : m ≤ 16384) (o : length ones ≡ words_for m) (t : length twos ≡ words_for m)
    (b : length bytes ≡ bytes_for m) (p : planes_refusal ones twos 1 m ≡ 0) where
  packs : pack_refusal (pack_of m ones twos bytes) ≡ 0
  packs = sym (pack_passed m ones twos bytes few b o t) ∙ p

  pack_writes : pack_exit (pack_of m ones twos bytes) ≡ packed_bytes m (trit_at ones twos)
  unfolding pack_exit
  pack_writes = sym (exit_new (packed_bytes m (trit_at ones twos)) bytes packs)

-- a row in planes that is not refused is 0 past its length
ended : (ones twos : List ℕ) (m : ℕ) → planes_refusal ones twos 1 m ≡ 0 → length ones ≡ words_for m → length twos ≡ words_for m
    → up_to m (trit_at ones twos) ≡ trit_at ones twos
ended ones twos m e lo lt =
    upto_ended (trit_at ones twos) m (row_ended ones twos m e lo lt)

-- ---- sizes

-- those of a draw are those of a key
fits_held : (z : Sizes) (number : ℕ) → sizes_fit z ≡ true → number ≤ most_key_number → numbers_fit number z.n (dim z) z.w ≡ true
unfolding sizes_fit_under numbers_fit_under
fits_held z number h l =
    let a = (and-eq-true_iff (leb 4 z.n) _).0 h in
    let b = (and-eq-true_iff (leb z.n 16384) _).0 a.1 in
    let c = (and-eq-true_iff (eqb (z.n % 2) 0) _).0 b.1 in
    let d = (and-eq-true_iff (leb 1 z.ku) _).0 c.1 in
    let e = (and-eq-true_iff (leb z.ku (half z - 1)) _).0 d.1 in
    let f = (and-eq-true_iff (leb 1 z.kv) _).0 e.1 in
    let g = (and-eq-true_iff (leb z.kv (half z - 1)) _).0 f.1 in
    let i = (and-eq-true_iff (gaps_fit z) _).0 g.1 in
    let k = (and-eq-true_iff (leb 1 z.w) _).0 i.1 in
    let ku = leb-true 1 z.ku d.0 in
    let kv = leb-true 1 z.kv f.0 in
    let low = leb-true z.ku (half z - 1) e.0 in
    let lowv = leb-true z.kv (half z - 1) g.0 in
    rw (le-leb number most_key_number l, a.0, b.0, c.0, le-leb 2 (dim z) (omega arith), le-leb (dim z) (z.n - 2) (omega arith), k.0, k.1)

-- y has its lengths
y_lengths : (z : Sizes) (l : DrawCall) → draw_lengths_differ z l ≡ false
    → (length l.y.ones ≡ words_for (codim z)) × (length l.y.twos ≡ words_for (codim z))
unfolding draw_lengths_differ choices_differ
y_lengths z l e =
    let a = or_false_right (differs z l.secret) _ e in
    let b = or_false_right (not (eqb (length l.p) (places z))) _ a in
    pair_same (words_for (codim z)) (length l.y.ones) (length l.y.twos)
    (or_false_left (pair_differs (words_for (codim z)) (length l.y.ones) (length l.y.twos)) _ b)

module _ (z : Sizes) (i : BuildCall) (b : Built z i) (gv gu w : ℕ) (l : DrawCall) (u : Under z i l)
    (d : draw_answer (sized z gv gu w) l ≡ 0) (m : Host z) where
  abbrev Z : Sizes
  Z = sized z gv gu w

  passed : DrawPassed Z l
  passed = draw_call_law Z l d

  size : z.n - dim z ≡ codim z
  size = let r = sizes_fit_law Z passed.sizes in omega (arith, codim_dim Z r, r.even)

  few_places : places z ≤ 16384
  few_places = let r = sizes_fit_law Z passed.sizes in omega (arith, few Z passed.sizes, r.even)

  few_dim : dim z ≤ 16384
  few_dim = omega (arith, few_places, codim_dim Z (sizes_fit_law Z passed.sizes))

  few_codim : codim z ≤ 16384
  few_codim = omega (arith, few_places, codim_dim Z (sizes_fit_law Z passed.sizes))

  -- ---- the rows

  row_is : (j : ℕ) → j < dim z → packed_key_row z i m j ≡ packed_bytes (codim z) (built_key z i j)
  unfolding built_key
  row_is j h =
      let v : Vector = up_to (codim z) (key_row z (secret_of z i.secret) i.start j) in
      pack_writes (codim z) (row_part (key_exit z i).ones (dim z) (key_row_words z) j) (row_part (key_exit z i).twos (dim z) (key_row_words z) j)
      (m.row_bytes j)
      few_codim
      (ap length (sym (built_ones z i b j h)) ∙ length_ones v (key_row_words z)) (ap length (sym (built_twos z i b j h)) ∙ length_twos v (key_row_words z))
      (m.row_bytes_size j h)
      (ap₂ (λ (x y : List ℕ). planes_refusal x y 1 (codim z)) (sym (built_ones z i b j h)) (sym (built_twos z i b j h))
      ∙ written_passes (codim z) (key_row z (secret_of z i.secret) i.start j))

  row_size : (j : ℕ) → j < dim z → length (packed_key_row z i m j) ≡ bytes_for (z.n - dim z)
  row_size j h = ap length (row_is j h) ∙ packed_length (codim z) (built_key z i j) ∙ ap bytes_for (sym size)

  row_good : (j : ℕ) → j < dim z → packed_refusal (z.n - dim z) (packed_key_row z i m j) ≡ 0
  row_good j h = ap₂ packed_refusal size (row_is j h) ∙ packed_accepted (codim z) (built_key z i j)

  row_back : (j : ℕ) → j < dim z → packed_row (packed_key_row z i m j) ≡ built_key z i j
  row_back j h =
      ap packed_row (row_is j h) ∙ packed_back (codim z) (built_key z i j)
      ∙ upto_ended (built_key z i j) (codim z) (λ q k. ap (λ (v : Vector). v q) (built_row z i b j h)
      ∙ upto_out (key_row z (secret_of z i.secret) i.start j) (codim z) q k)

  -- ---- y

  abbrev y : Vector
  y = trit_at l.y.ones l.y.twos

  abbrev y_packed : List ℕ
  y_packed = pack_exit (pack_of (codim z) l.y.ones l.y.twos m.y_bytes)

  y_is : y_packed ≡ packed_bytes (codim z) y
  y_is =
      let n = y_lengths Z l passed.lengths in
      pack_writes (codim z) l.y.ones l.y.twos m.y_bytes few_codim n.0 n.1 m.y_bytes_size passed.syndrome

  y_back : packed_row y_packed ≡ y
  y_back =
      let n = y_lengths Z l passed.lengths in
      ap packed_row y_is ∙ packed_back (codim z) y ∙ ended l.y.ones l.y.twos (codim z) passed.syndrome n.0 n.1

  -- ---- s

  abbrev s : Vector
  s = up_to (dim z) (signature Z (word_of Z l))

  s_ones : (s_exit Z l).ones ≡ ones_of s (words_for (dim z))
  s_ones = handed_ones Z l d

  s_twos : (s_exit Z l).twos ≡ twos_of s (words_for (dim z))
  s_twos = handed_twos Z l d

  abbrev s_packed : List ℕ
  s_packed = pack_exit (pack_of (dim z) (s_exit Z l).ones (s_exit Z l).twos m.s_bytes)

  s_is : s_packed ≡ packed_bytes (dim z) s
  s_is =
      pack_writes (dim z) (s_exit Z l).ones (s_exit Z l).twos m.s_bytes few_dim (ap length s_ones ∙ length_ones s (words_for (dim z)))
      (ap length s_twos ∙ length_twos s (words_for (dim z))) m.s_bytes_size
      (ap₂ (λ (x y : List ℕ). planes_refusal x y 1 (dim z)) s_ones s_twos ∙ written_passes (dim z) (signature Z (word_of Z l)))
      ∙ ap (packed_bytes (dim z)) (handed_signature Z l d)

  s_back : packed_row s_packed ≡ s
  s_back = ap packed_row s_is ∙ packed_back (dim z) s ∙ upto_ended s (dim z) (λ q k. upto_out (signature Z (word_of Z l)) (dim z) q k)

  -- ---- the ones and twos

  abbrev e : Vector
  e = word_of Z l

  terms : KeyTerms z i gu w l.y.ones l.y.twos e
  terms = drawn_terms z i b gv gu w l u d

  counts_are : full_counts (codim z) (dim z) (λ j. packed_row (packed_key_row z i m j)) (packed_row y_packed) (packed_row s_packed)
      ≡ counts_v e (places z)
  counts_are =
      let K : Key = λ j. packed_row (packed_key_row z i m j) in
      ap₂ (full_counts (codim z) (dim z) K) y_back s_back
      ∙ counts_cong (codim z) (dim z) K y s (built_key z i) (λ j q h. ap (λ (v : Vector). v q) (row_back j h))
      ∙ counts_of (codim z) (dim z) (built_key z i) y s e terms.has_syndrome (λ k h. sym (upto_in (signature Z e) (dim z) k h))
      ∙ ap (counts_v e) (codim_dim Z (sizes_fit_law Z passed.sizes))

  -- they add up to w
  sum_is : sum_of (counts_v e (places z)) ≡ w
  sum_is = counts_weight e (places z) ∙ terms.weighs

  -- the answer
  packed_answer : check_packed_answer (carried_check z i gv gu w l m) ≡ yes (ones_v e (places z)) (twos_v e (places z))
  unfolding answered
  packed_answer =
      loaded m.number z.n (dim z) w (fits_held Z m.number passed.sizes m.number_fits) (packed_key_row z i m) row_size row_good m.before
      m.ones m.twos y_packed s_packed m.work_ones m.work_twos
      (m.ones_size ∙ ap (λ (x : ℕ). dim z * words_for x) (sym size)) (m.twos_size ∙ ap (λ (x : ℕ). dim z * words_for x) (sym size))
      (ap length y_is ∙ packed_length (codim z) y ∙ ap bytes_for (sym size)) (ap length s_is ∙ packed_length (dim z) s)
      (ap₂ packed_refusal size y_is ∙ packed_accepted (codim z) y) (ap (packed_refusal (dim z)) s_is ∙ packed_accepted (dim z) s)
      (m.work_ones_size ∙ ap words_for (sym size)) (m.work_twos_size ∙ ap words_for (sym size))
      ∙ ap (λ (x : Counts). answered 0 x w)
      (ap (λ (k : ℕ). full_counts k (dim z) (λ j. packed_row (packed_key_row z i m j)) (packed_row y_packed) (packed_row s_packed)) size ∙ counts_are)
      ∙ rw (eq-eqb (sum_of (counts_v e (places z))) w sum_is)

  -- ---- the same with y and s in planes

  abbrev H : Held
  H = record { begun = 1; number = m.number; n = z.n; k = dim z; w = w; rows = dim z }

  abbrev key : Holding
  key = carried z i w m

  held_is : key.held ≡ H
  held_is =
      let f = fits_held Z m.number passed.sizes m.number_fits in
      ap (λ (h : Held). (offer_all (packed_key_row z i m) (dim z) (record { held = h; ones = m.ones; twos = m.twos })).held)
      (begun m.number z.n (dim z) w f (packed_key_row z i m) row_size row_good m.before).1
      ∙ (offered m.number z.n (dim z) w f (packed_key_row z i m) row_size row_good m.ones m.twos
      (m.ones_size ∙ ap (λ (x : ℕ). dim z * words_for x) (sym size)) (m.twos_size ∙ ap (λ (x : ℕ). dim z * words_for x) (sym size)) (dim z)
      (le_refl (dim z))).held_is

  packed_passed : check_packed_refusal (carried_check z i gv gu w l m) ≡ 0
  packed_passed = packed_not_refused (carried_check z i gv gu w l m) (ap (λ (x : Checked). x.refusal) packed_answer)

  call_passes : call_refusal key.held m.number (length key.ones) (length key.twos) (length m.work_ones) (length m.work_twos) ≡ 0
  unfolding check_packed_refusal_under
  call_passes = (passed_first (call_refusal key.held m.number (length key.ones) (length key.twos) (length m.work_ones) (length m.work_twos)) _
      packed_passed).0

  rows_pass : planes_refusal key.ones key.twos key.held.k (row_trits key.held) ≡ 0
  rows_pass =
      (packed_contents_law key.held key.ones key.twos y_packed s_packed
      (check_packed_passed (carried_check z i gv gu w l m) packed_passed).2).0

  lengths_pass : planes_lengths key.held (length l.y.ones) (length l.y.twos) (length (s_exit Z l).ones) (length (s_exit Z l).twos) ≡ 0
  unfolding planes_lengths
  lengths_pass =
      let n = y_lengths Z l passed.lengths in
      rw (
        held_is,
        size,
        eq-eqb (length l.y.ones) (words_for (codim z)) n.0,
        eq-eqb (length l.y.twos) (words_for (codim z)) n.1,
        eq-eqb (length (s_exit Z l).ones) (words_for (dim z)) (ap length s_ones ∙ length_ones s (words_for (dim z))),
        eq-eqb (length (s_exit Z l).twos) (words_for (dim z)) (ap length s_twos ∙ length_twos s (words_for (dim z))),
      )

  s_passes : planes_refusal (s_exit Z l).ones (s_exit Z l).twos 1 (dim z) ≡ 0
  s_passes = ap₂ (λ (x y : List ℕ). planes_refusal x y 1 (dim z)) s_ones s_twos ∙ written_passes (dim z) (signature Z (word_of Z l))

  contents_pass : planes_contents key.held key.ones key.twos l.y.ones l.y.twos (s_exit Z l).ones (s_exit Z l).twos ≡ 0
  unfolding planes_contents_under
  contents_pass =
      let f : row_trits key.held ≡ codim z = ap (λ (h : Held). row_trits h) held_is ∙ size in
      let k : key.held.k ≡ dim z = ap (λ (h : Held). h.k) held_is in
      sym (first_goes (sym rows_pass) refl
      (first_goes (sym (ap (planes_refusal l.y.ones l.y.twos 1) f ∙ passed.syndrome)) refl
      (sym (ap (planes_refusal (s_exit Z l).ones (s_exit Z l).twos 1) k ∙ s_passes))))

  planes_passed_all : check_refusal (carried_planes z i gv gu w l m) ≡ 0
  unfolding check_refusal_under
  planes_passed_all = sym (first_goes (sym call_passes) refl (first_goes (sym lengths_pass) refl (sym contents_pass)))

  planes_answer : check_answer (carried_planes z i gv gu w l m) ≡ yes (ones_v e (places z)) (twos_v e (places z))
  planes_answer =
      let f : row_trits key.held ≡ codim z = ap (λ (h : Held). row_trits h) held_is ∙ size in
      let k : key.held.k ≡ dim z = ap (λ (h : Held). h.k) held_is in
      let t : trit_at (s_exit Z l).ones (s_exit Z l).twos ≡ s = handed_signature Z l d in
      sym (packed_agrees (carried_planes z i gv gu w l m) planes_passed_all)
      ∙ ap₂ (λ (a b : List ℕ). check_packed_answer (packed_check_of key.held m.number key.ones key.twos a b m.work_ones m.work_twos))
      (ap (λ (x : ℕ). packed_bytes x y) f ∙ sym y_is) (ap₂ packed_bytes k t ∙ sym s_is)
      ∙ packed_answer

  -- ---- the same with the salt and the text for which y was made

  module _ (salt text : List ℕ) (g : Signs z salt text l) where
    made : (length salt ≡ salt_bytes) × (hashed_refusal (codim z) salt text ≡ 0)
    made = syndrome_passed (codim z) salt text g.ones g.twos g.not_refused

    y_made : y ≡ hashed_row (codim z) salt text
    y_made = ap₂ trit_at g.y_ones g.y_twos ∙ (syndrome_holds (codim z) salt text g.ones g.twos g.not_refused).trits

    text_answer : check_text_answer (carried_text z i gv gu w l m salt text) ≡ yes (ones_v e (places z)) (twos_v e (places z))
    text_answer =
        let f : row_trits key.held ≡ codim z = ap (λ (h : Held). row_trits h) held_is ∙ size in
        text_as_packed (carried_text z i gv gu w l m salt text) made.0 (ap (λ (x : ℕ). hashed_refusal x salt text) f ∙ made.1)
        ∙ ap (λ (a : List ℕ). check_packed_answer (packed_check_of key.held m.number key.ones key.twos a s_packed m.work_ones m.work_twos))
        (ap (λ (x : ℕ). packed_bytes x (hashed_row x salt text)) f ∙ ap (packed_bytes (codim z)) (sym y_made) ∙ sym y_is)
        ∙ packed_answer

-- ---- the word handed out is the word drawn, and so are its ones and twos

module _ (z : Sizes) (i : BuildCall) (b : Built z i) (gv gu w : ℕ) (l : DrawCall) (e : Vector) (u : Under z i l)
    (h : HandsOut (sized z gv gu w) l e) (m : Host z) where
  handed : counts_v (word_of (sized z gv gu w) l) (places z) ≡ counts_v e (places z)
  handed =
      counts_same (places z) (word_of (sized z gv gu w) l) e
      (λ q k. sym (ap (λ (v : Vector). v q) (handed_word (sized z gv gu w) l h.passed) ∙ upto_in (word_of (sized z gv gu w) l) (places z) q k)
      ∙ h.word q k)

  accepts : {answer : Checked} → answer ≡ yes (ones_v (word_of (sized z gv gu w) l) (places z)) (twos_v (word_of (sized z gv gu w) l) (places z))
      → Accepts z w e answer
  accepts a =
      let f = a ∙ ap (λ (c : Counts). yes c.ones c.twos) handed in record {
        says = f;
        adds_up = ap (λ (x : Checked). x.ones + x.twos) a ∙ sum_is z i b gv gu w l u h.passed m;
      }

  pub end_to_end : Accepts z w e (check_packed_answer (carried_check z i gv gu w l m))
  end_to_end = accepts (packed_answer z i b gv gu w l u h.passed m)

  pub end_to_end_planes : Accepts z w e (check_answer (carried_planes z i gv gu w l m))
  end_to_end_planes = accepts (planes_answer z i b gv gu w l u h.passed m)

  pub end_to_end_text : (salt text : List ℕ) → Signs z salt text l → Accepts z w e (check_text_answer (carried_text z i gv gu w l m salt text))
  end_to_end_text salt text g = accepts (text_answer z i b gv gu w l u h.passed m salt text g)
