-- Begin a key, offer its k packed rows, check: nothing is refused, and the answer is that of the rows offered. Assumes nothing.
use mathlib.Core.Path.{◌≡◌, refl, sym, ap, ap₂, ◌∙◌, subst}
use mathlib.Core.Bool.{true}
use mathlib.Core.List.{List}
use Prim.Native.Nat.{ℕ, zero, suc, ◌-◌, ◌*◌, ◌≤◌, ◌<◌}
use native.Mathlib.Nat.{le_refl}
use native.Mathlib.Numerals.{add-one}
use native.Mathlib.Omega.{arith}
use lib.ListN.{length}
use borrow.Author.Tests.{eq-eqb, ne_eqb, le-leb}
use Rattle.trits.specs.Trit.{Trit}
use Rattle.trits.specs.Planes.{ones_of, twos_of, words_for}
use Rattle.trits.specs.declared.Counts.{Counts}
use Rattle.trits.proofs.Refusals.{first_goes, exit_new}
use Rattle.trits.proofs.Reading.{length_ones, length_twos}
use Rattle.packed.specs.Packed.{bytes_for, packed_row, packed_refusal}
use Rattle.held_key.specs.declared.state.Held.{Held}
use Rattle.verdict.specs.Verdict.{Key, full_counts}
use Rattle.held_key.specs.Held.{numbers_fit, sound, sound_under, held_key}
use Rattle.held_key.specs.Store.{begin_refusal, begin_refusal_under, begun_held, begin_held, row_refusal, row_refusal_under, next_held, stored_held}
use Rattle.held_key.specs.Store.{PackedStore, packed_store_of, store_packed_refusal, store_packed_ones, store_packed_twos}
use Rattle.held_key.specs.Load.{Holding, offer, offer_all}
use Rattle.check_tests.specs.Check.{call_refusal, call_refusal_under, packed_lengths, packed_contents, packed_contents_under, held_counts_under, answered}
use Rattle.check_tests.specs.Check.{PackedCheck, packed_check_of, check_packed_refusal, check_packed_refusal_under, check_packed_counts, check_packed_answer}
use Rattle.check_tests.specs.Check.{check_packed_answer_under}
use Rattle.held_key.specs.Steps.{Whole}
use Rattle.verdict.proofs.FullWord.{counts_cong}
use Rattle.held_key.proofs.Room.{stored_packed_passed}
use Rattle.held_key.proofs.Storing.{plane_put}
use Rattle.held_key.proofs.Loader.{put_size}
use Rattle.held_key.proofs.Filled.{Filled, filled_none, filled_packed, filled_row, filled_passes}

module _ (number n k w : ℕ) (z : numbers_fit number n k w ≡ true) (rows : ℕ → List ℕ)
    (size : (i : ℕ) → i < k → length (rows i) ≡ bytes_for (n - k)) (good : (i : ℕ) → i < k → packed_refusal (n - k) (rows i) ≡ 0) where
  -- the state with i rows
  abbrev pub held_at : ℕ → Held
  held_at i = record { begun = 1; number = number; n = n; k = k; w = w; rows = i }

  -- the state that beginning gives
  pub begun : (h : Held) → (begin_refusal number n k w ≡ 0) × (begin_held h number n k w ≡ held_at 0)
  unfolding begin_refusal_under begin_held begun_held
  begun h = (rw z, rw z)

  -- the key of the rows offered
  abbrev pub key : Key
  key i = packed_row (rows i)

  sound_at : (i : ℕ) → i ≤ k → sound (held_at i) ≡ true
  unfolding sound_under
  sound_at i l = rw (z, le-leb i k l)

  -- what holds after i rows
  pub record Good (i : ℕ) (s : Holding) : Type 0 where
    pub held_is : s.held ≡ held_at i
    pub ones_size : length s.ones ≡ k * words_for (n - k)
    pub twos_size : length s.twos ≡ k * words_for (n - k)
    pub rows_are : Filled (held_at i) s.ones s.twos key

  module _ (i : ℕ) (ones twos : List ℕ) (l : i < k) (p : length ones ≡ k * words_for (n - k)) (q : length twos ≡ k * words_for (n - k)) where
    state_passes : row_refusal (held_at i) (length ones) (length twos) ≡ 0
    unfolding row_refusal_under
    state_passes = rw (
      sound_at i (omega arith),
      ne_eqb i k (λ e. absurd (omega arith)),
      eq-eqb (length ones) (k * words_for (n - k)) p,
      eq-eqb (length twos) (k * words_for (n - k)) q,
    )

    -- row i is offered
    abbrev c : PackedStore
    c = packed_store_of (held_at i) ones twos (rows i)

    row_passes : store_packed_refusal c ≡ 0
    unfolding store_packed_refusal
    row_passes = sym (first_goes (sym state_passes) refl (sym (good i l) ∙ rw (eq-eqb (length (rows i)) (bytes_for (n - k)) (size i l))))

    module _ (f : Filled (held_at i) ones twos key) where
      more : Good (suc i) (offer (record { held = held_at i; ones = ones; twos = twos }) (rows i))
      unfolding offer stored_held next_held
      more =
          let d : next_held (held_at i) ≡ held_at (suc i) = ap held_at (add-one i) in
          let r = (stored_packed_passed c row_passes).0 in
          let o = ones_of (key i) (words_for (n - k)) in
          let t = twos_of (key i) (words_for (n - k)) in
          record {
            held_is = sym (exit_new (next_held (held_at i)) (held_at i) row_passes) ∙ d;
            ones_size = ap length (sym (plane_put (held_at i) ones o row_passes)) ∙ put_size r ones o p (length_ones (key i) (words_for (n - k)));
            twos_size = ap length (sym (plane_put (held_at i) twos t row_passes)) ∙ put_size r twos t q (length_twos (key i) (words_for (n - k)));
            rows_are = subst (λ h. Filled h (store_packed_ones c) (store_packed_twos c) key) d (filled_packed c key row_passes refl f);
          }

  next : (i : ℕ) (s : Holding) → i < k → Good i s → Good (suc i) (offer s (rows i))
  next i s l g =
      subst (λ h. Good (suc i) (offer (record { held = h; ones = s.ones; twos = s.twos }) (rows i))) (sym g.held_is)
      (more i s.ones s.twos l g.ones_size g.twos_size g.rows_are)

  -- after i rows, whatever the planes held before
  pub offered : (ones twos : List ℕ) → length ones ≡ k * words_for (n - k) → length twos ≡ k * words_for (n - k) → (i : ℕ) → i ≤ k
      → Good i (offer_all rows i (record { held = held_at 0; ones = ones; twos = twos }))
  unfolding offer_all
  offered ones twos p q zero l = record { held_is = refl; ones_size = p; twos_size = q; rows_are = filled_none (held_at 0) ones twos key refl }
  offered ones twos p q (suc i) l = next i (offer_all rows i (record { held = held_at 0; ones = ones; twos = twos })) l (offered ones twos p q i (omega arith))

  -- and then a check
  module _ (s : Holding) (g : Good k s) (y t wo wt : List ℕ) (yl : length y ≡ bytes_for (n - k)) (tl : length t ≡ bytes_for k)
      (yg : packed_refusal (n - k) y ≡ 0) (tg : packed_refusal k t ≡ 0)
      (ol : length wo ≡ words_for (n - k)) (pl : length wt ≡ words_for (n - k)) where
    whole : Whole (held_at k) s.ones s.twos
    whole = record { is_sound = sound_at k (le_refl k); all_rows = refl; ones_size = g.ones_size; twos_size = g.twos_size }

    call_passes : call_refusal (held_at k) number (length s.ones) (length s.twos) (length wo) (length wt) ≡ 0
    unfolding call_refusal_under
    call_passes =
        rw (
          sound_at k (le_refl k),
          eq-eqb k k refl,
          eq-eqb number number refl,
          eq-eqb (length s.ones) (k * words_for (n - k)) g.ones_size,
          eq-eqb (length s.twos) (k * words_for (n - k)) g.twos_size,
          eq-eqb (length wo) (words_for (n - k)) ol,
          eq-eqb (length wt) (words_for (n - k)) pl,
        )

    lengths_pass : packed_lengths (held_at k) (length y) (length t) ≡ 0
    unfolding packed_lengths
    lengths_pass = rw (eq-eqb (length y) (bytes_for (n - k)) yl, eq-eqb (length t) (bytes_for k) tl)

    contents_pass : 0 ≡ packed_contents (held_at k) s.ones s.twos y t
    unfolding packed_contents_under
    contents_pass = first_goes (sym (filled_passes whole key g.rows_are)) refl (first_goes (sym yg) refl (sym tg))

    abbrev asks : PackedCheck
    asks = packed_check_of (held_at k) number s.ones s.twos y t wo wt

    -- nothing is refused
    pub accepted : check_packed_refusal (packed_check_of (held_at k) number s.ones s.twos y t wo wt) ≡ 0
    unfolding check_packed_refusal_under
    accepted = sym (first_goes (sym call_passes) refl (first_goes (sym lengths_pass) refl contents_pass))

    counts_are : check_packed_counts asks ≡ full_counts (n - k) k key (packed_row y) (packed_row t)
    unfolding held_counts_under
    counts_are = counts_cong (n - k) k (held_key (held_at k) s.ones s.twos) (packed_row y) (packed_row t) key
        (λ i q l. ap (λ (r : ℕ → Trit). r q) (filled_row whole key g.rows_are i l))

    -- the answer is that of the rows offered
    pub answer : check_packed_answer (packed_check_of (held_at k) number s.ones s.twos y t wo wt)
        ≡ answered 0 (full_counts (n - k) k key (packed_row y) (packed_row t)) w
    unfolding check_packed_answer_under
    answer = ap₂ (λ (a : ℕ) (b : Counts). answered a b w) accepted counts_are

  -- begin, offer the k rows, check: whatever was held before and whatever the planes had, the answer is that of the rows offered
  pub loaded : (h : Held) (ones twos y t wo wt : List ℕ) → length ones ≡ k * words_for (n - k) → length twos ≡ k * words_for (n - k)
      → length y ≡ bytes_for (n - k) → length t ≡ bytes_for k
      → packed_refusal (n - k) y ≡ 0 → packed_refusal k t ≡ 0 → length wo ≡ words_for (n - k) → length wt ≡ words_for (n - k)
      → let s = offer_all rows k (record { held = begin_held h number n k w; ones = ones; twos = twos }) in
      check_packed_answer (packed_check_of s.held number s.ones s.twos y t wo wt)
      ≡ answered 0 (full_counts (n - k) k key (packed_row y) (packed_row t)) w
  loaded h ones twos y t wo wt p q yl tl yg tg ol pl =
      let g = offered ones twos p q k (le_refl k) in
      let s = offer_all rows k (record { held = held_at 0; ones = ones; twos = twos }) in
      let asked : Holding → PackedCheck = λ u. packed_check_of u.held number u.ones u.twos y t wo wt in
      ap (λ (x : Held). check_packed_answer (asked (offer_all rows k (record { held = x; ones = ones; twos = twos })))) (begun h).1
      ∙ ap (λ (x : Held). check_packed_answer (packed_check_of x number s.ones s.twos y t wo wt)) g.held_is
      ∙ answer s g y t wo wt yl tl yg tg ol pl
