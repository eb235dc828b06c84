-- A key that was stored row by row passes the tests of its contents, 3 and 4, and its rows are those that were offered. Assumes nothing.
use mathlib.Core.Path.{◌≡◌, refl, sym, ap, ap₂, ◌∙◌, subst₂}
use mathlib.Core.Bool.{false, ◌&&◌}
use mathlib.Core.List.{List}
use Prim.Native.Nat.{ℕ, ◌+◌, ◌*◌, ◌/◌, ◌%◌, ◌≤◌, ◌<◌}
use native.Mathlib.Nat.{mod-lt, div-add-mod, div-lt_iff_lt-mul, mul_comm}
use native.Mathlib.Decide.{ℕ_discrete}
use native.Mathlib.Omega.{arith}
use lib.Dec.{eqb}
use lib.ListN.{length, get_or}
use Rattle.trits.specs.Trit.{Trit, t0}
use Rattle.trits.specs.Planes.{bit, bit_at, trit_at, ones_of, twos_of, both_at, both_set, past_end}
use Rattle.trits.specs.Rows.{row_part, put_words, rows_past_end}
use Rattle.trits.specs.Refusal.{planes_refusal}
use Rattle.trits.proofs.Refusals.{neither_told, planes_passed}
use Rattle.trits.proofs.Tests.{any_none, none_any, written_both, written_past}
use Rattle.trits.proofs.Reading.{bit_at_place, length_ones, length_twos, holds_reads}
use Rattle.trits.proofs.Parts.{get_d_mid}
use Rattle.trits.proofs.Matrix.{row_le, one_row_past, part_there}
use Rattle.packed.specs.Packed.{packed_row}
use Rattle.held_key.specs.declared.state.Held.{Held}
use Rattle.verdict.specs.Verdict.{Key}
use Rattle.held_key.specs.Held.{row_trits, row_words, key_words, held_row, held_key, held_key_under}
use Rattle.held_key.specs.Store.{Store, store_refusal, next_held, store_ones, store_twos}
use Rattle.held_key.specs.Store.{PackedStore, store_packed_refusal, new_ones, new_twos, store_packed_ones, store_packed_twos}
use Rattle.held_key.specs.Steps.{Whole}
use Rattle.held_key.proofs.Sizes.{sizes}
use Rattle.held_key.proofs.Stretch.{ones_row, twos_row, ones_length}
use Rattle.packed.proofs.Turned.{packed_out}
use Rattle.held_key.proofs.Room.{Room, stored_passed, stored_packed_passed}
use Rattle.held_key.proofs.Storing.{plane_put}
use Rattle.held_key.proofs.Loader.{put_new, put_old}

-- a row that was tested: no bit in both planes, none past the length
pub record Tested (m : ℕ) (ones twos : List ℕ) : Type 0 where
  pub apart : both_set ones twos ≡ false
  pub ended : past_end ones twos m ≡ false

-- the rows stored so far are K's, and each was tested
pub record Filled (h : Held) (ones twos : List ℕ) (K : Key) : Type 0 where
  pub reads : (i : ℕ) → i < h.rows → held_key h ones twos i ≡ K i
  pub tested : (i : ℕ) → i < h.rows → Tested (row_trits h) (held_row h ones i) (held_row h twos i)

pub filled_none : (h : Held) (ones twos : List ℕ) (K : Key) → h.rows ≡ 0 → Filled h ones twos K
filled_none h ones twos K e = record { reads = λ i l. absurd (omega arith); tested = λ i l. absurd (omega arith) }

-- one row more
module _ {h : Held} {ones twos : List ℕ} (f : Room h (length ones) (length twos)) (new_ones new_twos : List ℕ) (lo : length new_ones ≡ row_words h)
    (lt : length new_twos ≡ row_words h)
    (K : Key) (r : trit_at new_ones new_twos ≡ K h.rows) (t : Tested (row_trits h) new_ones new_twos) (g : Filled h ones twos K) where
  filled_put : Filled (next_held h) (put_words (h.rows * row_words h) ones new_ones) (put_words (h.rows * row_words h) twos new_twos) K
  unfolding next_held held_key_under
  filled_put = record { reads = λ i l. rd i (ℕ_discrete i h.rows) l; tested = λ i l. ts i (ℕ_discrete i h.rows) l }
    where
      rd : (i : ℕ) → Dec (i ≡ h.rows) → i < h.rows + 1
          → trit_at (held_row (next_held h) (put_words (h.rows * row_words h) ones new_ones) i)
          (held_row (next_held h) (put_words (h.rows * row_words h) twos new_twos) i) ≡ K i
      rd i (yes q) l =
          ap (λ (x : ℕ). trit_at (held_row (next_held h) (put_words (h.rows * row_words h) ones new_ones) x)
          (held_row (next_held h) (put_words (h.rows * row_words h) twos new_twos) x)) q
          ∙ ap₂ trit_at (put_new f ones new_ones f.ones_are lo) (put_new f twos new_twos f.twos_are lt) ∙ r ∙ ap K (sym q)
      rd i (no m) l = ap₂ trit_at (put_old f ones new_ones f.ones_are lo i (omega arith)) (put_old f twos new_twos f.twos_are lt i (omega arith))
          ∙ g.reads i (omega arith)

      ts : (i : ℕ) → Dec (i ≡ h.rows) → i < h.rows + 1
          → Tested (row_trits h) (held_row (next_held h) (put_words (h.rows * row_words h) ones new_ones) i)
          (held_row (next_held h) (put_words (h.rows * row_words h) twos new_twos) i)
      ts i (yes q) l =
          subst₂ (Tested (row_trits h))
          (sym (ap (held_row (next_held h) (put_words (h.rows * row_words h) ones new_ones)) q ∙ put_new f ones new_ones f.ones_are lo))
          (sym (ap (held_row (next_held h) (put_words (h.rows * row_words h) twos new_twos)) q ∙ put_new f twos new_twos f.twos_are lt)) t
      ts i (no m) l = subst₂ (Tested (row_trits h)) (sym (put_old f ones new_ones f.ones_are lo i (omega arith)))
          (sym (put_old f twos new_twos f.twos_are lt i (omega arith))) (g.tested i (omega arith))

-- a row in planes
pub filled_more : (c : Store) (K : Key) → store_refusal c ≡ 0 → trit_at c.row_ones c.row_twos ≡ K c.held.rows
    → Filled c.held c.ones c.twos K → Filled (next_held c.held) (store_ones c) (store_twos c) K
filled_more c K e r g =
    let h = c.held in
    let ro = c.row_ones in
    let rt = c.row_twos in
    let p = stored_passed c e in
    let q = planes_passed ro rt 1 (row_trits h) p.3 in
    subst₂ (λ (x y : List ℕ). Filled (next_held h) x y K) (plane_put h c.ones ro e) (plane_put h c.twos rt e)
    (filled_put p.0 ro rt p.1 p.2 K r (record { apart = q.0; ended = sym (one_row_past ro rt (row_trits h) p.1 p.2) ∙ q.1 }) g)

-- the planes of a vector that ends pass
written_tested : (v : ℕ → Trit) (m n : ℕ) → ((i : ℕ) → m ≤ i → v i ≡ t0) → m ≤ 64 * n → Tested m (ones_of v n) (twos_of v n)
written_tested v m n z l = record { apart = written_both v n; ended = written_past v m n z l }

-- a packed row
pub filled_packed : (c : PackedStore) (K : Key) → store_packed_refusal c ≡ 0 → packed_row c.row ≡ K c.held.rows
    → Filled c.held c.ones c.twos K → Filled (next_held c.held) (store_packed_ones c) (store_packed_twos c) K
filled_packed c K e r g =
    let h = c.held in
    let p = stored_packed_passed c e in
    let v = packed_row c.row in
    let ended = packed_out (row_trits h) c.row p.2 in
    subst₂ (λ (x y : List ℕ). Filled (next_held h) x y K) (plane_put h c.ones (new_ones c) e) (plane_put h c.twos (new_twos c) e)
    (filled_put p.0 (new_ones c) (new_twos c) (length_ones v (row_words h)) (length_twos v (row_words h)) K
    ((holds_reads (new_ones c) (new_twos c) (row_words h) v (λ i l. ended i (omega arith))
    (record { ones_are = refl; twos_are = refl })).trits ∙ r)
    (written_tested v (row_trits h) (row_words h) ended (omega arith)) g)

-- ---- the whole key

module _ {h : Held} {ones twos : List ℕ} (w : Whole h ones twos) (K : Key) (g : Filled h ones twos K) where
  -- its rows are K's
  pub filled_row : (i : ℕ) → i < h.k → held_key h ones twos i ≡ K i
  filled_row i l = g.reads i (omega (arith, w.all_rows))

  -- it is not refused 4
  filled_ends : rows_past_end ones twos h.k (row_trits h) ≡ false
  unfolding rows_past_end
  filled_ends = none_any h.k (λ i. past_end (row_part ones h.k (row_words h) i) (row_part twos h.k (row_words h) i) (row_trits h))
      (λ i l. ap₂ (λ (x y : List ℕ). past_end x y (row_trits h)) (ones_row w i l) (twos_row w i l) ∙ (g.tested i (omega (arith, w.all_rows))).ended)

  -- a word of the plane is a word of a row
  word : (plane : List ℕ) → length plane ≡ key_words h → (i j : ℕ) → i < h.k → j < row_words h
      → get_or plane (i * row_words h + j) 0 ≡ get_or (row_part plane h.k (row_words h) i) j 0
  word plane e i j l b =
      sym (get_d_mid (i * row_words h) (row_words h) plane (omega (arith, e, row_le (row_words h) {i = i} {m = h.k} l)) j b)
      ∙ ap (λ (x : List ℕ). get_or x j 0) (part_there plane h.k (row_words h) i e l)

  none_both : (p : ℕ) → p < 64 * key_words h → both_at ones twos p ≡ false
  unfolding both_set bit_at
  none_both p l =
      let m = row_words h in
      let s = sizes h w.is_sound in
      let pos : 0 < m = omega (arith, s) in
      let c = p / 64 in
      let i = c / m in
      let j = c % m in
      let b = p % 64 in
      let jl : j < m = mod-lt c pos in
      let il : i < h.k = (div-lt_iff_lt-mul pos).1 (omega arith) in
      let e : c ≡ i * m + j = sym (div-add-mod c m) ∙ ap (λ (x : ℕ). x + j) (mul_comm m i) in
      let a : get_or ones c 0 ≡ get_or (held_row h ones i) j 0 = ap (λ (x : ℕ). get_or ones x 0) e ∙ word ones w.ones_size i j il jl
      ∙ ap (λ (x : List ℕ). get_or x j 0) (ones_row w i il) in
      let d : get_or twos c 0 ≡ get_or (held_row h twos i) j 0 = ap (λ (x : ℕ). get_or twos x 0) e ∙ word twos w.twos_size i j il jl
      ∙ ap (λ (x : List ℕ). get_or x j 0) (twos_row w i il) in
      let q = any_none (64 * length (held_row h ones i)) (both_at (held_row h ones i) (held_row h twos i)) (g.tested i (omega (arith, w.all_rows))).apart
      (64 * j + b) (omega (arith, ones_length w i il)) in
      ap₂ (λ (x y : ℕ). eqb (bit b x) 1 && eqb (bit b y) 1) a d
      ∙ sym (ap₂ (λ (x y : ℕ). eqb x 1 && eqb y 1) (bit_at_place j b (omega arith) (held_row h ones i)) (bit_at_place j b (omega arith) (held_row h twos i)))
      ∙ q

  -- it is not refused at all
  pub filled_passes : planes_refusal ones twos h.k (row_trits h) ≡ 0
  unfolding both_set
  filled_passes =
      neither_told ones twos h.k (row_trits h) filled_ends
      (none_any (64 * length ones) (both_at ones twos) (λ p l. none_both p (omega (arith, w.ones_size))))
