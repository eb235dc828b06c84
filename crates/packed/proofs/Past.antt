-- Trits past the length in packed bytes, 15: the last byte alone tells it, and a row that passes is 0 past its length. Assumes nothing.
use mathlib.Core.Path.{◌≡◌, refl, sym, ap, ◌∙◌}
use mathlib.Core.Bool.{Bool, true, false}
use mathlib.Core.List.{List}
use Prim.Native.Nat.{ℕ, zero, suc, ◌+◌, ◌-◌, ◌*◌, ◌/◌, ◌%◌, ◌^◌, ◌≤◌, ◌<◌}
use native.Mathlib.Nat.{zero-lt-suc, mod-lt, div-eq_of_lt, pow-suc, add-zero, add-suc}
use native.Mathlib.Decide.{dec_lt}
use native.Mathlib.Omega.{arith}
use borrow.Author.Tests.{le-leb, lt-leb}
use lib.Dec.{leb}
use lib.ListN.{length, get_or, get_or-eq_default}
use Rattle.trits.specs.Trit.{t0, number, trit_of, is_set, up_to}
use Rattle.trits.proofs.Arithmetic.{unset_zero}
use Rattle.trits.proofs.Tests.{any_none, none_any}
use Rattle.trits.proofs.Ends.{upto_ended}
use Rattle.trits.proofs.Refusals.{positive}
use Rattle.packed.specs.Packed.{bytes_for, digit_of, packed_row, bad_byte, packed_past_end}
use Rattle.packed.proofs.Digits.{digit_lt, digit_none, digit_number, byte_digits, packed_place}
use Rattle.packed.proofs.Keeping.{bytes_small}

-- ---- a row that passes is 0 past its length

-- past the bytes there is 0
pub bytes_end : (bytes : List ℕ) (q : ℕ) → 5 * length bytes ≤ q → packed_row bytes q ≡ t0
unfolding packed_row
bytes_end bytes q h = ap (λ (b : ℕ). trit_of (digit_of b (q % 5))) (get_or-eq_default bytes 0 (omega arith)) ∙ ap trit_of (digit_none (q % 5))

-- and so there is past the length
pub packed_ended : (m : ℕ) (bytes : List ℕ) → packed_past_end m bytes ≡ false → (q : ℕ) → m ≤ q → packed_row bytes q ≡ t0
unfolding packed_past_end
packed_ended m bytes e q h = by (dec_lt q (5 * length bytes))
  where
    by : Dec (q < 5 * length bytes) → packed_row bytes q ≡ t0
    by (yes l) =
        let s : m + (q - m) ≡ q = omega arith in
        sym (ap (packed_row bytes) s)
        ∙ unset_zero (packed_row bytes (m + (q - m))) (any_none (5 * length bytes - m) (λ k. is_set (packed_row bytes (m + k))) e (q - m) (omega arith))
    by (no f) = bytes_end bytes q (omega arith)

-- and a row that is 0 there passes
pub ended_passes : (m : ℕ) (bytes : List ℕ) → ((q : ℕ) → m ≤ q → q < 5 * length bytes → packed_row bytes q ≡ t0) → packed_past_end m bytes ≡ false
unfolding packed_past_end
ended_passes m bytes z =
    none_any (5 * length bytes - m) (λ k. is_set (packed_row bytes (m + k))) (λ k l. ap is_set (z (m + k) (omega arith) (omega arith)))

-- so to cut such a row at its length changes nothing
pub packed_upto : (m : ℕ) (bytes : List ℕ) → packed_past_end m bytes ≡ false → up_to m (packed_row bytes) ≡ packed_row bytes
packed_upto m bytes e = upto_ended (packed_row bytes) m (packed_ended m bytes e)

-- ---- the last byte tells it: with q = m % 5 trits in it, it is below 3 ^ q

power_le : (q d : ℕ) → 3 ^ q ≤ 3 ^ (q + d)
power_le q zero = omega (arith, ap (λ (x : ℕ). 3 ^ x) (add-zero q))
power_le q (suc d) = omega (arith, ap (λ (x : ℕ). 3 ^ x) (add-suc q d), pow-suc 3 (q + d), power_le q d)

-- the digits from q on of a byte below 3 ^ q are 0
digit_past : (b q r : ℕ) → b < 3 ^ q → q ≤ r → digit_of b r ≡ 0
unfolding digit_of
digit_past b q r h l =
    let s : q + (r - q) ≡ r = omega arith in
    ap (λ (x : ℕ). x % 3) (div-eq_of_lt (omega (arith, h, power_le q (r - q), ap (λ (x : ℕ). 3 ^ x) s)))

-- and a byte whose digits from q on are 0 is below 3 ^ q, since it is made of the others
digits_past : (b q : ℕ) → b < 243 → 0 < q → q < 5 → ((r : ℕ) → q ≤ r → r < 5 → digit_of b r ≡ 0) → b < 3 ^ q
digits_past b q h p l z = by q (byte_digits b h) p l z
  where
    by : (q : ℕ) → digit_of b 0 + 3 * digit_of b 1 + 9 * digit_of b 2 + 27 * digit_of b 3 + 81 * digit_of b 4 ≡ b → 0 < q → q < 5
        → ((r : ℕ) → q ≤ r → r < 5 → digit_of b r ≡ 0) → b < 3 ^ q
    by zero e p l z = absurd (omega arith)
    by (suc zero) e p l z =
        omega (arith, e, digit_lt b 0, z 1 (omega arith) l, z 2 (omega arith) (omega arith), z 3 (omega arith) (omega arith), z 4 (omega arith) (omega arith))
    by (suc (suc zero)) e p l z =
        omega (arith, e, digit_lt b 0, digit_lt b 1, z 2 (omega arith) l, z 3 (omega arith) (omega arith), z 4 (omega arith) (omega arith))
    by (suc (suc (suc zero))) e p l z =
        omega (arith, e, digit_lt b 0, digit_lt b 1, digit_lt b 2, z 3 (omega arith) l, z 4 (omega arith) (omega arith))
    by (suc (suc (suc (suc zero)))) e p l z =
        omega (arith, e, digit_lt b 0, digit_lt b 1, digit_lt b 2, digit_lt b 3, z 4 (omega arith) l)
    by (suc (suc (suc (suc (suc q))))) e p l z = absurd (omega arith)

module _ (m : ℕ) (bytes : List ℕ) (size : length bytes ≡ bytes_for m) where
  -- the length ends with a byte: nothing is past it
  pub last_full : m % 5 ≡ 0 → packed_past_end m bytes ≡ false
  last_full e = ended_passes m bytes (λ q h l. absurd (omega arith))

  -- the last byte is below 3 ^ q
  last_below : get_or bytes (m / 5) 0 < 3 ^ (m % 5) → packed_past_end m bytes ≡ false
  last_below h = ended_passes m bytes (λ q g l.
      let e : q ≡ 5 * (m / 5) + q % 5 = omega arith in
      ap (packed_row bytes) e ∙ packed_place bytes (m / 5) (q % 5) (mod-lt q (zero-lt-suc 4))
      ∙ ap trit_of (digit_past (get_or bytes (m / 5) 0) (m % 5) (q % 5) h (omega arith)))

  -- it is not
  last_above : bad_byte bytes ≡ false → 0 < m % 5 → 3 ^ (m % 5) ≤ get_or bytes (m / 5) 0 → packed_past_end m bytes ≡ true
  last_above g p h = by (packed_past_end m bytes) refl
    where
      by : (t : Bool) → packed_past_end m bytes ≡ t → packed_past_end m bytes ≡ true
      by true e = e
      by false e =
          let b = get_or bytes (m / 5) 0 in
          let small = bytes_small bytes g (m / 5) (omega (arith, size)) in
          let none : (r : ℕ) → m % 5 ≤ r → r < 5 → digit_of b r ≡ 0 = λ r k l.
          sym (digit_number b r) ∙ ap number (sym (packed_place bytes (m / 5) r l) ∙ packed_ended m bytes e (5 * (m / 5) + r) (omega arith)) in
          absurd (omega (arith, h, digits_past b (m % 5) small p (mod-lt m (zero-lt-suc 4)) none))

  -- so it is held against 3 ^ q
  pub last_tells : bad_byte bytes ≡ false → (m % 5 ≡ 0 → ⊥) → leb (3 ^ (m % 5)) (get_or bytes (m / 5) 0) ≡ packed_past_end m bytes
  last_tells g f = by (dec_lt (get_or bytes (m / 5) 0) (3 ^ (m % 5)))
    where
      by : Dec (get_or bytes (m / 5) 0 < 3 ^ (m % 5)) → leb (3 ^ (m % 5)) (get_or bytes (m / 5) 0) ≡ packed_past_end m bytes
      by (yes l) = lt-leb (3 ^ (m % 5)) (get_or bytes (m / 5) 0) l ∙ sym (last_below l)
      by (no h) =
          let l : 3 ^ (m % 5) ≤ get_or bytes (m / 5) 0 = omega arith in
          le-leb (3 ^ (m % 5)) (get_or bytes (m / 5) 0) l ∙ sym (last_above g (positive f) l)
