-- The calls' refusals: which test decides, and what is left to decide once sizes and lengths are right. Assumes nothing.
use mathlib.Core.Path.{◌≡◌, refl, sym, ap}
use mathlib.Core.Bool.{Bool, true, false}
use mathlib.Core.List.{List}
use Prim.Native.Nat.{ℕ, ◌*◌, ◌≤◌, ◌<◌}
use borrow.Author.Tests.{eq-eqb, ne_eqb, lt-ltb, le-ltb, ltb-false}
use lib.Dec.{lit<}
use lib.ListN.{length}
use Rattle.trits.specs.Trit.{t0}
use Rattle.trits.specs.Planes.{words_for}
use Rattle.trits.specs.Refusal.{refuse, planes_refusal}
use Rattle.trits.proofs.Refusals.{passed_refuse, refuse_all, Leaves, leaves_none}
use Rattle.packed.specs.Packed.{bytes_for, packed_row, bad_byte, packed_past_end, packed_refusal}
use Rattle.packed.specs.Stream.{kept, too_short}
use Rattle.packed.specs.Calls.{pack_of, pack_refusal, pack_refusal_under, unpack_of, unpack_refusal, stream_of, stream_refusal}
use Rattle.packed.proofs.Past.{packed_ended}

module _ (m : ℕ) (ones twos bytes : List ℕ) where
  -- too many trits
  module _ (l : 16384 < m) where
    pub pack_size : 1 ≡ pack_refusal (pack_of m ones twos bytes)
    unfolding pack_refusal_under
    pack_size = rw (lt-ltb 16384 m l)

    pub unpack_size : 1 ≡ unpack_refusal (unpack_of m bytes ones twos)
    unfolding unpack_refusal
    unpack_size = rw (lt-ltb 16384 m l)

    pub stream_size : 1 ≡ stream_refusal (stream_of m bytes ones twos)
    unfolding stream_refusal
    stream_size = rw (lt-ltb 16384 m l)

  -- a wrong length, of the planes or of the bytes
  module _ (l : m ≤ 16384) where
    pub pack_ones : (length ones ≡ words_for m → ⊥) → 2 ≡ pack_refusal (pack_of m ones twos bytes)
    unfolding pack_refusal_under
    pack_ones f = rw (le-ltb 16384 m l, ne_eqb _ _ f)

    pub stream_ones_here : (length ones ≡ words_for m → ⊥) → 2 ≡ stream_refusal (stream_of m bytes ones twos)
    unfolding stream_refusal
    stream_ones_here f = rw (le-ltb 16384 m l, ne_eqb _ _ f)

    pub unpack_bytes : (length bytes ≡ bytes_for m → ⊥) → 2 ≡ unpack_refusal (unpack_of m bytes ones twos)
    unfolding unpack_refusal
    unpack_bytes f = rw (le-ltb 16384 m l, ne_eqb _ _ f)

    module _ (o : length ones ≡ words_for m) where
      pub pack_twos : (length twos ≡ words_for m → ⊥) → 2 ≡ pack_refusal (pack_of m ones twos bytes)
      unfolding pack_refusal_under
      pack_twos f = rw (le-ltb 16384 m l, eq-eqb _ _ o, ne_eqb _ _ f)

      pub stream_twos_here : (length twos ≡ words_for m → ⊥) → 2 ≡ stream_refusal (stream_of m bytes ones twos)
      unfolding stream_refusal
      stream_twos_here f = rw (le-ltb 16384 m l, eq-eqb _ _ o, ne_eqb _ _ f)

      module _ (t : length twos ≡ words_for m) where
        pub pack_bytes : (length bytes ≡ bytes_for m → ⊥) → 2 ≡ pack_refusal (pack_of m ones twos bytes)
        unfolding pack_refusal_under
        pack_bytes f = rw (le-ltb 16384 m l, eq-eqb _ _ o, eq-eqb _ _ t, ne_eqb _ _ f)

        -- the stream decides
        pub stream_passed : refuse (too_short m bytes) 6 0 ≡ stream_refusal (stream_of m bytes ones twos)
        unfolding stream_refusal
        stream_passed = rw (le-ltb 16384 m l, eq-eqb _ _ o, eq-eqb _ _ t)

    module _ (b : length bytes ≡ bytes_for m) where
      pub unpack_ones_here : (length ones ≡ words_for m → ⊥) → 2 ≡ unpack_refusal (unpack_of m bytes ones twos)
      unfolding unpack_refusal
      unpack_ones_here f = rw (le-ltb 16384 m l, eq-eqb _ _ b, ne_eqb _ _ f)

      module _ (o : length ones ≡ words_for m) where
        pub unpack_twos_here : (length twos ≡ words_for m → ⊥) → 2 ≡ unpack_refusal (unpack_of m bytes ones twos)
        unfolding unpack_refusal
        unpack_twos_here f = rw (le-ltb 16384 m l, eq-eqb _ _ b, eq-eqb _ _ o, ne_eqb _ _ f)

        module _ (t : length twos ≡ words_for m) where
          -- the bytes decide
          pub unpack_passed : packed_refusal m bytes ≡ unpack_refusal (unpack_of m bytes ones twos)
          unfolding unpack_refusal
          unpack_passed = rw (le-ltb 16384 m l, eq-eqb _ _ b, eq-eqb _ _ o, eq-eqb _ _ t)

          -- the row decides
          pub pack_passed : planes_refusal ones twos 1 m ≡ pack_refusal (pack_of m ones twos bytes)
          unfolding pack_refusal_under
          pack_passed = rw (le-ltb 16384 m l, eq-eqb _ _ o, eq-eqb _ _ t, eq-eqb _ _ b)

-- the tests of the contents, when they are known
module _ (m : ℕ) (bytes : List ℕ) where
  pub bytes_bad : bad_byte bytes ≡ true → 5 ≡ packed_refusal m bytes
  unfolding packed_refusal
  bytes_bad e = rw e

  pub bytes_past : bad_byte bytes ≡ false → packed_past_end m bytes ≡ true → 15 ≡ packed_refusal m bytes
  unfolding packed_refusal
  bytes_past g e = rw (g, e)

  pub bytes_good : bad_byte bytes ≡ false → packed_past_end m bytes ≡ false → 0 ≡ packed_refusal m bytes
  unfolding packed_refusal
  bytes_good g e = rw (g, e)

  -- what is true of 5, 15 and 0 is true of what they make
  pub packed_all : (P : ℕ → Type 0) → P 5 → P 15 → P 0 → P (packed_refusal m bytes)
  unfolding packed_refusal
  packed_all P bad past none = refuse_all P (bad_byte bytes) 5 _ bad (refuse_all P (packed_past_end m bytes) 15 0 past none)

  -- each of them leaves the working space
  pub leaves_packed : Leaves (packed_refusal m bytes)
  leaves_packed = packed_all Leaves (record { stays = λ f. refl }) (record { stays = λ f. refl }) leaves_none

  -- packed bytes that passed
  pub bytes_passed : packed_refusal m bytes ≡ 0 → (bad_byte bytes ≡ false) × (packed_past_end m bytes ≡ false)
  unfolding packed_refusal
  bytes_passed e =
      let a = passed_refuse (bad_byte bytes) 5 _ (lit< tt) e in
      let b = passed_refuse (packed_past_end m bytes) 15 0 (lit< tt) a.1 in
      (a.0, b.0)

  -- the row that they hold is 0 past its length
  pub packed_out : packed_refusal m bytes ≡ 0 → (q : ℕ) → m ≤ q → packed_row bytes q ≡ t0
  packed_out e = packed_ended m bytes (bytes_passed e).1

pub stream_decides : {t : Bool} (m : ℕ) (bytes : List ℕ) → too_short m bytes ≡ t → refuse t 6 0 ≡ refuse (too_short m bytes) 6 0
stream_decides m bytes e = ap (λ (x : Bool). refuse x 6 0) (sym e)

-- a stream that is not too short has as many trits
pub stream_long : (m : ℕ) (bytes : List ℕ) → too_short m bytes ≡ false → m ≤ 5 * length (kept bytes)
unfolding too_short
stream_long m bytes e = ltb-false (5 * length (kept bytes)) m e
