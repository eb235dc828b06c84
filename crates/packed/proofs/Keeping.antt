-- The bytes of a stream that give trits: how many there are in its first bytes, and which they are. Assumes nothing.
use mathlib.Core.Path.{◌≡◌, refl, sym, ap, ◌∙◌}
use mathlib.Core.Logic.{◌≢◌}
use mathlib.Core.Bool.{Bool, true, false, not, ◌||◌, cond}
use mathlib.Core.List.{List, [], ◌∷◌}
use Prim.Native.Nat.{ℕ, zero, suc, ◌+◌, ◌-◌, ◌*◌, ◌≤◌, ◌<◌, zero-le}
use native.Mathlib.Nat.{not-suc-le-zero, le_of_suc-le-suc}
use native.Mathlib.Numerals.{add-one}
use native.Mathlib.Decide.{dec_lt, ℕ_discrete}
use native.Mathlib.Omega.{arith}
use borrow.Author.Tests.{lt-ltb, le-ltb, ltb-false, eq-eqb, ne_eqb}
use lib.Dec.{ltb, eqb}
use lib.ListN.{length, get_or, take}
use lib.Seq.{take_all}
use Rattle.trits.specs.Trit.{any_to}
use Rattle.trits.proofs.Tests.{any_none}
use Rattle.packed.specs.Packed.{bad_byte}
use Rattle.packed.specs.Stream.{kept, too_short}
use Rattle.packed.specs.Steps.{missing}

-- how many of the first i bytes give trits
abbrev pub given : List ℕ → ℕ → ℕ
given bytes i = length (kept (take i bytes))

counted : (t : Bool) (b : ℕ) (l : List ℕ) → length (cond t (b ∷ l) l) ≡ length l + cond t 1 0
counted true b l = omega arith
counted false b l = omega arith

-- byte i is counted where it is below 243
given_suc : (bytes : List ℕ) (i : ℕ) → i < length bytes → given bytes (suc i) ≡ given bytes i + cond (ltb (get_or bytes i 0) 243) 1 0
unfolding kept
given_suc [] i h = absurd (not-suc-le-zero h)
given_suc (b ∷ bytes) zero h = counted (ltb b 243) b []
given_suc (b ∷ bytes) (suc i) h =
    omega (arith, counted (ltb b 243) b (kept (take (suc i) bytes)), counted (ltb b 243) b (kept (take i bytes)), given_suc bytes i (le_of_suc-le-suc h))

module _ (bytes : List ℕ) (i : ℕ) (h : i < length bytes) where
  next : given bytes (i + 1) ≡ given bytes i + cond (ltb (get_or bytes i 0) 243) 1 0
  next = ap (given bytes) (add-one i) ∙ given_suc bytes i h

  pub given_more : get_or bytes i 0 < 243 → given bytes (i + 1) ≡ given bytes i + 1
  given_more l = next ∙ ap (λ (t : Bool). given bytes i + cond t 1 0) (lt-ltb (get_or bytes i 0) 243 l)

  pub given_same : 243 ≤ get_or bytes i 0 → given bytes (i + 1) ≡ given bytes i
  given_same l = next ∙ ap (λ (t : Bool). given bytes i + cond t 1 0) (le-ltb (get_or bytes i 0) 243 l) ∙ omega arith

picked : (t : Bool) (b : ℕ) (l k : List ℕ) → get_or (cond t (b ∷ l) l) (length (cond t (b ∷ k) k)) 0 ≡ get_or l (length k) 0
picked true b l k = refl
picked false b l k = refl

-- and it is the next of those that are kept
pub given_at : (bytes : List ℕ) (i : ℕ) → i < length bytes → get_or bytes i 0 < 243 → get_or (kept bytes) (given bytes i) 0 ≡ get_or bytes i 0
unfolding kept
given_at [] i h l = absurd (not-suc-le-zero h)
given_at (b ∷ bytes) zero h l = ap (λ (t : Bool). get_or (cond t (b ∷ kept bytes) (kept bytes)) 0 0) (lt-ltb b 243 l)
given_at (b ∷ bytes) (suc i) h l = picked (ltb b 243) b (kept bytes) (kept (take i bytes)) ∙ given_at bytes i (le_of_suc-le-suc h) l

-- the first bytes have no more of them than all
pub given_le : (bytes : List ℕ) (i : ℕ) → given bytes i ≤ length (kept bytes)
unfolding kept
given_le [] zero = zero-le
given_le [] (suc i) = zero-le
given_le (b ∷ bytes) zero = zero-le
given_le (b ∷ bytes) (suc i) = omega (arith, counted (ltb b 243) b (kept (take i bytes)), counted (ltb b 243) b (kept bytes), given_le bytes i)

pub given_all : (bytes : List ℕ) (i : ℕ) → length bytes ≤ i → given bytes i ≡ length (kept bytes)
given_all bytes i h = ap (λ (l : List ℕ). length (kept l)) (take_all i bytes h)

-- ---- bytes of which none is above 242

abbrev pub big : List ℕ → ℕ → Bool
big bytes i = ltb 242 (get_or bytes i 0)

pub bytes_small : (bytes : List ℕ) → bad_byte bytes ≡ false → (i : ℕ) → i < length bytes → get_or bytes i 0 < 243
unfolding bad_byte
bytes_small bytes e i l = omega (arith, ltb-false 242 (get_or bytes i 0) (any_none (length bytes) (big bytes) e i l))

-- a turn of the search for a byte above 242, and its end
module _ (bytes : List ℕ) (i : ℕ) where
  pub big_turn : {bad : Bool} → bad ≡ any_to (big bytes) i → (bad || ltb 242 (get_or bytes i 0)) ≡ any_to (big bytes) (i + 1)
  unfolding any_to
  big_turn e = ap (λ (t : Bool). t || big bytes i) e ∙ sym (ap (any_to (big bytes)) (add-one i))

  pub big_all : {bad : Bool} → i ≡ length bytes → bad ≡ any_to (big bytes) i → bad ≡ bad_byte bytes
  unfolding bad_byte
  big_all p e = e ∙ ap (any_to (big bytes)) p

-- ---- how many trits are missing

pub missing_skipped : (left b : ℕ) → 243 ≤ b → left ≡ missing left b
unfolding missing
missing_skipped left b h = sym (ap (λ (t : Bool). cond t (left - 5) left) (le-ltb b 243 h))

pub missing_five : (left b : ℕ) → b < 243 → left - 5 ≡ missing left b
unfolding missing
missing_five left b h = sym (ap (λ (t : Bool). cond t (left - 5) left) (lt-ltb b 243 h))

module _ (m : ℕ) (bytes : List ℕ) (i : ℕ) where
  pub missing_turn : {left new : ℕ} → i < length bytes → left ≡ m - 5 * given bytes i → new ≡ missing left (get_or bytes i 0)
      → new ≡ m - 5 * given bytes (i + 1)
  missing_turn {left} {new} h e f = by (dec_lt (get_or bytes i 0) 243)
    where
      by : Dec (get_or bytes i 0 < 243) → new ≡ m - 5 * given bytes (i + 1)
      by (yes l) = omega (arith, e, f, missing_five left (get_or bytes i 0) l, given_more bytes i h l)
      by (no g) = omega (arith, e, f, missing_skipped left (get_or bytes i 0) (omega arith), given_same bytes i h (omega arith))

  -- enough was found
  pub long_enough : {left : ℕ} → left ≡ m - 5 * given bytes i → left ≡ 0 → false ≡ too_short m bytes
  unfolding too_short
  long_enough e z = sym (le-ltb (5 * length (kept bytes)) m (omega (arith, e, z, given_le bytes i)))

  -- the stream is over
  pub counted_out : {left : ℕ} → left ≡ m - 5 * given bytes i → length bytes ≤ i → not (eqb left 0) ≡ too_short m bytes
  unfolding too_short
  counted_out {left} e h = by (ℕ_discrete left 0)
    where
      by : Dec (left ≡ 0) → not (eqb left 0) ≡ too_short m bytes
      by (yes z) = ap not (eq-eqb left 0 z) ∙ long_enough e z
      by (no f) =
          let n : left ≢ 0 = f in
          ap not (ne_eqb left 0 f) ∙ sym (lt-ltb (5 * length (kept bytes)) m (omega (arith, e, given_all bytes i h)))
