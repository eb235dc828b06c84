-- What is stored is what the check reads: the new row is the one offered, and the rows before it are as they were. Assumes nothing.
use mathlib.Core.Path.{◌≡◌, refl, sym, ap, ap₂, ◌∙◌}
use mathlib.Core.Bool.{true}
use mathlib.Core.List.{List}
use Prim.Native.Nat.{ℕ, ◌+◌, ◌*◌, ◌≤◌, ◌<◌}
use native.Mathlib.Omega.{arith}
use lib.Dec.{eqb, leb}
use lib.ListN.{length, get_or}
use borrow.Author.Tests.{le-leb}
use borrow.Rule.Slice.PartMut.{mid_of, put_mid}
use Rattle.trits.specs.Trit.{Trit}
use Rattle.trits.specs.Planes.{trit_at}
use Rattle.trits.specs.Rows.{put_words}
use Rattle.trits.proofs.Lists.{tabulated}
use Rattle.trits.proofs.Patches.{Patched}
use Rattle.trits.proofs.Parts.{length_mid, get_d_mid, put_patched}
use Rattle.trits.proofs.Matrix.{row_le}
use Rattle.trits.proofs.Reading.{length_ones, length_twos, holds_reads}
use Rattle.packed.specs.Packed.{packed_row}
use Rattle.held_key.specs.declared.state.Held.{Held}
use Rattle.held_key.specs.Held.{numbers_fit, sound, sound_under, row_trits, row_words, key_words, held_row, held_key, held_key_under}
use Rattle.held_key.specs.Store.{Store, store_refusal, next_held, store_ones, store_twos}
use Rattle.held_key.specs.Store.{PackedStore, packed_store_of, store_packed_refusal, new_ones, new_twos, store_packed_ones, store_packed_twos}
use Rattle.held_key.proofs.Sizes.{and_both}
use Rattle.held_key.proofs.Stretch.{row_there}
use Rattle.packed.proofs.Turned.{packed_out}
use Rattle.packed.proofs.RoundTrip.{one_form}
use Rattle.held_key.proofs.Room.{Room, stored_passed, stored_packed_passed}
use Rattle.held_key.proofs.Storing.{mid_words, plane_put}

-- lists of n words that agree are the same
same_list : (n : ℕ) (l r : List ℕ) → length l ≡ n → length r ≡ n → ((j : ℕ) → j < n → get_or l j 0 ≡ get_or r j 0) → l ≡ r
same_list n l r p q e = tabulated n (λ j. get_or r j 0) l p e ∙ sym (tabulated n (λ j. get_or r j 0) r q (λ j h. refl))

-- a plane of rows of w words, with new words for row r
module _ (w r : ℕ) (plane new : List ℕ) (h : r * w + w ≤ length plane) (e : length new ≡ w) where
  abbrev back : List ℕ
  back = put_mid (r * w) w plane new

  p : Patched (λ j. get_or new j 0) (r * w) w plane back
  p = put_patched (r * w) w plane h new e

  pub back_length : length (put_mid (r * w) w plane new) ≡ length plane
  back_length = p.kept

  pub back_new : mid_of (r * w) w (put_mid (r * w) w plane new) ≡ new
  back_new = same_list w (mid_of (r * w) w back) new (length_mid (r * w) w back (omega (arith, back_length))) e
      (λ j l. get_d_mid (r * w) w back (omega (arith, back_length)) j l ∙ p.new j l)

  pub back_old : (i : ℕ) → i < r → mid_of (i * w) w (put_mid (r * w) w plane new) ≡ mid_of (i * w) w plane
  back_old i l =
      let g = row_le w {i = i} {m = r} l in
      same_list w (mid_of (i * w) w back) (mid_of (i * w) w plane) (length_mid (i * w) w back (omega (arith, back_length)))
      (length_mid (i * w) w plane (omega arith))
      (λ j b. get_d_mid (i * w) w back (omega (arith, back_length)) j b ∙ p.below (i * w + j) (omega arith) ∙ sym (get_d_mid (i * w) w plane (omega arith) j b))

-- one row more is counted, and the state is still sound
pub sound_after : {h : Held} {ones twos : ℕ} → Room h ones twos → sound (next_held h) ≡ true
unfolding sound_under next_held
sound_after {h} f =
    let a = and_both (eqb h.begun 1) _ f.is_sound in
    let z = and_both (numbers_fit h.number h.n h.k h.w) (leb h.rows h.k) a.1 in
    rw (a.0, z.0, le-leb (h.rows + 1) h.k (omega (arith, f.more)))

-- one plane: `new` is the row's words in it
module _ {h : Held} {a b : ℕ} (f : Room h a b) (plane new : List ℕ) (size : length plane ≡ key_words h) (n : length new ≡ row_words h) where
  within : h.rows * row_words h + row_words h ≤ length plane
  within = omega (arith, f.within, size)

  abbrev after : List ℕ
  after = put_mid (h.rows * row_words h) (row_words h) plane new

  as_words : after ≡ put_words (h.rows * row_words h) plane new
  as_words = mid_words (h.rows * row_words h) (row_words h) plane new new (sym n) refl

  after_size : length after ≡ key_words h
  after_size = back_length (row_words h) h.rows plane new within n ∙ size

  pub put_size : length (put_words (h.rows * row_words h) plane new) ≡ key_words h
  put_size = ap length (sym as_words) ∙ after_size

  pub put_new : held_row (next_held h) (put_words (h.rows * row_words h) plane new) h.rows ≡ new
  unfolding next_held
  put_new =
      ap (λ (l : List ℕ). held_row (next_held h) l h.rows) (sym as_words)
      ∙ sym (row_there (next_held h) after h.rows (sound_after f) after_size (omega arith) (omega (arith, f.more)))
      ∙ back_new (row_words h) h.rows plane new within n

  pub put_old : (i : ℕ) → i < h.rows → held_row (next_held h) (put_words (h.rows * row_words h) plane new) i ≡ held_row h plane i
  unfolding next_held
  put_old i l =
      ap (λ (x : List ℕ). held_row (next_held h) x i) (sym as_words)
      ∙ sym (row_there (next_held h) after i (sound_after f) after_size (omega arith) (omega (arith, f.more)))
      ∙ back_old (row_words h) h.rows plane new within n i l
      ∙ row_there h plane i f.is_sound size l (omega (arith, f.more))

-- ---- a row in planes
module _ (c : Store) (e : store_refusal c ≡ 0) where
  abbrev h : Held
  h = c.held

  -- the new row is the row offered
  pub stored_new : held_key (next_held c.held) (store_ones c) (store_twos c) c.held.rows ≡ trit_at c.row_ones c.row_twos
  unfolding held_key_under
  stored_new =
      let p = stored_passed c e in
      ap₂ trit_at
      (ap (λ (l : List ℕ). held_row (next_held h) l h.rows) (sym (plane_put h c.ones c.row_ones e))
      ∙ put_new p.0 c.ones c.row_ones p.0.ones_are p.1)
      (ap (λ (l : List ℕ). held_row (next_held h) l h.rows) (sym (plane_put h c.twos c.row_twos e))
      ∙ put_new p.0 c.twos c.row_twos p.0.twos_are p.2)

  -- the rows before it are as they were
  pub stored_old : (i : ℕ) → i < c.held.rows → held_key (next_held c.held) (store_ones c) (store_twos c) i ≡ held_key c.held c.ones c.twos i
  unfolding held_key_under
  stored_old i l =
      let p = stored_passed c e in
      ap₂ trit_at
      (ap (λ (x : List ℕ). held_row (next_held h) x i) (sym (plane_put h c.ones c.row_ones e))
      ∙ put_old p.0 c.ones c.row_ones p.0.ones_are p.1 i l)
      (ap (λ (x : List ℕ). held_row (next_held h) x i) (sym (plane_put h c.twos c.row_twos e))
      ∙ put_old p.0 c.twos c.row_twos p.0.twos_are p.2 i l)

-- ---- a packed row
module _ (c : PackedStore) (e : store_packed_refusal c ≡ 0) where
  abbrev g : Held
  g = c.held

  abbrev v : ℕ → Trit
  v = packed_row c.row

  -- the new row is the row offered
  pub packed_new : held_key (next_held c.held) (store_packed_ones c) (store_packed_twos c) c.held.rows ≡ packed_row c.row
  unfolding held_key_under
  packed_new =
      let p = stored_packed_passed c e in
      ap₂ trit_at
      (ap (λ (l : List ℕ). held_row (next_held g) l g.rows) (sym (plane_put g c.ones (new_ones c) e))
      ∙ put_new p.0 c.ones (new_ones c) p.0.ones_are (length_ones v (row_words g)))
      (ap (λ (l : List ℕ). held_row (next_held g) l g.rows) (sym (plane_put g c.twos (new_twos c) e))
      ∙ put_new p.0 c.twos (new_twos c) p.0.twos_are (length_twos v (row_words g)))
      ∙ (holds_reads (new_ones c) (new_twos c) (row_words g) v (λ i l. packed_out (row_trits g) c.row p.2 i (omega arith))
      (record { ones_are = refl; twos_are = refl })).trits

  -- the rows before it are as they were
  pub packed_old : (i : ℕ) → i < c.held.rows
      → held_key (next_held c.held) (store_packed_ones c) (store_packed_twos c) i ≡ held_key c.held c.ones c.twos i
  unfolding held_key_under
  packed_old i l =
      let p = stored_packed_passed c e in
      ap₂ trit_at
      (ap (λ (x : List ℕ). held_row (next_held g) x i) (sym (plane_put g c.ones (new_ones c) e))
      ∙ put_old p.0 c.ones (new_ones c) p.0.ones_are (length_ones v (row_words g)) i l)
      (ap (λ (x : List ℕ). held_row (next_held g) x i) (sym (plane_put g c.twos (new_twos c) e))
      ∙ put_old p.0 c.twos (new_twos c) p.0.twos_are (length_twos v (row_words g)) i l)

-- ---- one packed form for one row: two packed rows that are taken in one state and leave the same words are the same bytes,
-- whatever the planes held before
pub stored_apart : (h : Held) (a b o t p q : List ℕ) → let x = packed_store_of h o t a in
    let y = packed_store_of h p q b in
    store_packed_refusal x ≡ 0 → store_packed_refusal y ≡ 0 → store_packed_ones x ≡ store_packed_ones y → store_packed_twos x ≡ store_packed_twos y → a ≡ b
stored_apart h a b o t p q e f same_ones same_twos =
    let x = packed_store_of h o t a in
    let y = packed_store_of h p q b in
    let (_, size_a, good_a) = stored_packed_passed x e in
    let (_, size_b, good_b) = stored_packed_passed y f in
    let same : packed_row a ≡ packed_row b =
    sym (packed_new x e) ∙ ap₂ (λ (ones twos : List ℕ). held_key (next_held h) ones twos h.rows) same_ones same_twos ∙ packed_new y f in
    one_form (row_trits h) a b size_a size_b good_a good_b (λ i l. ap (λ (v : ℕ → Trit). v i) same)
