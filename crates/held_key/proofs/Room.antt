-- What the tests of a row have shown where none of them applied. Assumes nothing.
use mathlib.Core.Path.{◌≡◌, ap}
use mathlib.Core.Bool.{true}
use mathlib.Core.Logic.{◌≢◌}
use Prim.Native.Nat.{ℕ, ◌+◌, ◌*◌, ◌≤◌, ◌<◌}
use native.Mathlib.Omega.{arith}
use lib.Dec.{eqb, lit<}
use lib.ListN.{length}
use borrow.Author.Tests.{eqb-true, eqb-false}
use Rattle.trits.specs.Refusal.{planes_refusal}
use Rattle.trits.proofs.Refusals.{passed_refuse, passed_demand, passed_first}
use Rattle.trits.proofs.Matrix.{row_le}
use Rattle.packed.specs.Packed.{bytes_for, packed_refusal}
use Rattle.held_key.specs.declared.state.Held.{Held}
use Rattle.held_key.specs.Held.{sound, row_trits, row_words, key_words}
use Rattle.held_key.specs.Store.{Store, PackedStore, row_refusal, row_refusal_under, store_refusal, store_refusal_under, store_packed_refusal}
use Rattle.held_key.proofs.Sizes.{Sizes, sizes}

pub record Room (h : Held) (ones twos : ℕ) : Type 0 where
  pub is_sound : sound h ≡ true
  pub all : Sizes h
  pub more : h.rows < h.k
  pub ones_are : ones ≡ key_words h
  pub twos_are : twos ≡ key_words h
  pub within : h.rows * row_words h + row_words h ≤ key_words h

pub room : (h : Held) (ones twos : ℕ) → row_refusal h ones twos ≡ 0 → Room h ones twos
unfolding row_refusal_under
room h ones twos e =
    let a = passed_refuse (eqb h.begun 0) 20 _ (lit< tt) e in
    let b = passed_demand (sound h) 1 _ (lit< tt) a.1 in
    let c = passed_refuse (eqb h.rows h.k) 21 _ (lit< tt) b.1 in
    let d = passed_demand (eqb ones (key_words h)) 2 _ (lit< tt) c.1 in
    let f = passed_demand (eqb twos (key_words h)) 2 0 (lit< tt) d.1 in
    let s = sizes h b.0 in
    let ne : h.rows ≢ h.k = eqb-false _ _ c.0 in
    let l : h.rows < h.k = omega (arith, s.counted) in
    record {
      is_sound = b.0;
      all = s;
      more = l;
      ones_are = eqb-true _ _ d.0;
      twos_are = eqb-true _ _ f.0;
      within = row_le (row_words h) {i = h.rows} {m = h.k} l;
    }

-- a row in planes passed
pub stored_passed : (c : Store) → store_refusal c ≡ 0 → let h = c.held in
    Room h (length c.ones) (length c.twos) × (length c.row_ones ≡ row_words h) × (length c.row_twos ≡ row_words h)
    × (planes_refusal c.row_ones c.row_twos 1 (row_trits h) ≡ 0)
unfolding store_refusal_under
stored_passed c e =
    let h = c.held in
    let a = passed_first (row_refusal h (length c.ones) (length c.twos)) _ e in
    let b = passed_demand (eqb (length c.row_ones) (row_words h)) 2 _ (lit< tt) a.1 in
    let d = passed_demand (eqb (length c.row_twos) (row_words h)) 2 _ (lit< tt) b.1 in
    (room h (length c.ones) (length c.twos) a.0, eqb-true _ _ b.0, eqb-true _ _ d.0, d.1)

-- a packed row passed
pub stored_packed_passed : (c : PackedStore) → store_packed_refusal c ≡ 0 → let h = c.held in
    Room h (length c.ones) (length c.twos) × (length c.row ≡ bytes_for (row_trits h)) × (packed_refusal (row_trits h) c.row ≡ 0)
unfolding store_packed_refusal
stored_packed_passed c e =
    let h = c.held in
    let a = passed_first (row_refusal h (length c.ones) (length c.twos)) _ e in
    let b = passed_demand (eqb (length c.row) (bytes_for (row_trits h))) 2 _ (lit< tt) a.1 in
    (room h (length c.ones) (length c.twos) a.0, eqb-true _ _ b.0, b.1)

-- where the next row stands, whose words are w: within both planes, which are not long
pub record Placed (h : Held) (ones twos w : ℕ) : Type 0 where
  pub words : w ≡ row_words h
  pub start : h.rows * w ≡ h.rows * row_words h
  pub in_ones : h.rows * w + w ≤ ones
  pub in_twos : h.rows * w + w ≤ twos
  pub small : h.rows * w + w ≤ 16384 * 256

pub placed : {h : Held} {ones twos w : ℕ} → Room h ones twos → w ≡ row_words h → Placed h ones twos w
placed {h} {ones} {twos} {w} r e =
    let s = ap (λ (x : ℕ). h.rows * x) e in
    record {
      words = e;
      start = s;
      in_ones = omega (arith, r.within, r.ones_are);
      in_twos = omega (arith, r.within, r.twos_are);
      small = omega (arith, r.within, r.all.room);
    }
