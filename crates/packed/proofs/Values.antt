-- Five bits of each plane make a byte: the table of what five bits count, and the bytes of a row from its bits. Assumes nothing.
use mathlib.Core.Path.{◌≡◌, sym, ap, ap₂, ◌∙◌}
use mathlib.Core.List.{List}
use Prim.Native.Nat.{ℕ, ◌+◌, ◌-◌, ◌*◌, ◌/◌, ◌%◌, ◌^◌, ◌≤◌, ◌<◌}
use native.Mathlib.Nat.{mod-lt, zero-lt-suc, zero-div}
use native.Mathlib.Omega.{arith}
use borrow.Rule.Slice.PartMut.{mid_of, put_mid}
use lib.ListN.{length, get_or}
use lib.Bits.{bit_and, and_shr}
use Rattle.trits.specs.Trit.{number}
use Rattle.trits.specs.Planes.{bit, from_bits, bit_at, trit_at, tabulate, Row}
use Rattle.trits.proofs.Arithmetic.{number_lt}
use Rattle.trits.proofs.Bits.{bit_lt, shr_bit}
use Rattle.trits.proofs.Lists.{length_tabulate, get_d_tabulate}
use Rattle.trits.proofs.Parts.{length_mid, put_patched}
use Rattle.trits.proofs.Patches.{Patched, patch_join}
use Rattle.trits.proofs.Reading.{word_bit, words_apart, number_bits, number_at}
use Rattle.trits.proofs.WordOps.{code}
use Rattle.packed.specs.Packed.{byte_of}
use Rattle.packed.specs.Steps.{five_digits, digit_values, five_trits, byte_from}

-- ---- the table

-- the lowest five bits alone are looked at
each_low : (n : ℕ) → (bit 0 (n % 32) ≡ bit 0 n) × (bit 1 (n % 32) ≡ bit 1 n) × (bit 2 (n % 32) ≡ bit 2 n) × (bit 3 (n % 32) ≡ bit 3 n)
    × (bit 4 (n % 32) ≡ bit 4 n)
unfolding bit
each_low n = (omega arith, omega arith, omega arith, omega arith, omega arith)

five_low : (n : ℕ) → five_digits (n % 32) ≡ five_digits n
unfolding five_digits
five_low n =
    let e = each_low n in
    omega (arith, e.0, e.1, e.2, e.3, e.4)

pub values_rule : (n : ℕ) → get_or digit_values (n % 32) 0 ≡ five_digits n
unfolding digit_values
values_rule n = get_d_tabulate 32 five_digits (n % 32) 0 (mod-lt n (zero-lt-suc 31)) ∙ five_low n

pub five_lt : (n : ℕ) → five_digits n < 122
unfolding five_digits
five_lt n = omega (arith, bit_lt 0 n, bit_lt 1 n, bit_lt 2 n, bit_lt 3 n, bit_lt 4 n)

-- ---- five trits, from words with no bit in both

module _ (x y : ℕ) (apart : bit_and x y ≡ 0) where
  trit_lt : (k : ℕ) → bit k x + 2 * bit k y < 3
  trit_lt k =
      let u = code x y apart k in
      omega (arith, u.1, u.2, number_bits u.0, number_lt u.0)

  pub trits_lt : five_digits x + 2 * five_digits y < 243
  unfolding five_digits
  trits_lt = omega (arith, trit_lt 0, trit_lt 1, trit_lt 2, trit_lt 3, trit_lt 4)

  -- further bits of them have none in both either
  pub further_apart : (u : ℕ) → bit_and (x / 2 ^ u) (y / 2 ^ u) ≡ 0
  further_apart u = sym (and_shr x y u) ∙ ap (λ (n : ℕ). n / 2 ^ u) apart ∙ zero-div (2 ^ u)

-- ---- the bytes of a row, twelve of which stand in 64 bits of each plane

module _ {ones twos : List ℕ} (r : Row ones twos) (j : ℕ) {x y : ℕ} (ex : x ≡ from_bits (λ b. bit_at ones (5 * j + b)) 64)
    (ey : y ≡ from_bits (λ b. bit_at twos (5 * j + b)) 64) where
  pub bits_apart : bit_and x y ≡ 0
  bits_apart = ap₂ bit_and ex ey ∙ words_apart (5 * j) r.apart

  -- trit i of byte k, from its two bits
  trit_from : (k i q : ℕ) → k < 12 → i < 5 → 5 * (j + k) + i ≡ q → bit i (x / 2 ^ (5 * k)) + 2 * bit i (y / 2 ^ (5 * k)) ≡ number (trit_at ones twos q)
  trit_from k i q h l e =
      let d : 5 * j + (5 * k + i) ≡ q = omega arith in
      ap₂ (λ (a b : ℕ). a + 2 * b)
      (shr_bit (5 * k) i x ∙ ap (bit (5 * k + i)) ex ∙ word_bit ones (5 * j) (5 * k + i) (omega arith) ∙ ap (bit_at ones) d)
      (shr_bit (5 * k) i y ∙ ap (bit (5 * k + i)) ey ∙ word_bit twos (5 * j) (5 * k + i) (omega arith) ∙ ap (bit_at twos) d)
      ∙ number_at q r

  byte_from_here : (k : ℕ) → k < 12 → byte_from x y k ≡ byte_of (trit_at ones twos) (j + k)
  unfolding byte_from five_trits five_digits byte_of
  byte_from_here k h =
      omega (
        arith,
        trit_from k 0 (5 * (j + k)) h (omega arith) (omega arith),
        trit_from k 1 (5 * (j + k) + 1) h (omega arith) (omega arith),
        trit_from k 2 (5 * (j + k) + 2) h (omega arith) (omega arith),
        trit_from k 3 (5 * (j + k) + 3) h (omega arith) (omega arith),
        trit_from k 4 (5 * (j + k) + 4) h (omega arith) (omega arith),
      )

  -- a turn that writes the bytes from byte j up to byte e
  pub bytes_turn : {b₀ b ys : List ℕ} (e : ℕ) → j ≤ e → e ≤ length b → e ≤ j + 12 → Patched (byte_of (trit_at ones twos)) 0 j b₀ b
      → ys ≡ tabulate (byte_from x y) (length (mid_of j (e - j) b)) → Patched (byte_of (trit_at ones twos)) 0 e b₀ (put_mid j (e - j) b ys)
  bytes_turn {b₀} {b} {ys} e h l f p w =
      let n = e - j in
      let s : j + n ≡ e = omega arith in
      let made : ys ≡ tabulate (byte_from x y) n = w ∙ ap (tabulate (byte_from x y)) (length_mid j n b (omega arith)) in
      let q = put_patched j n b (omega arith) ys (ap length made ∙ length_tabulate n (byte_from x y)) in
      rw s at (patch_join p q (omega arith) (λ k g.
      ap (λ (z : List ℕ). get_or z k 0) made ∙ get_d_tabulate n (byte_from x y) k 0 g ∙ byte_from_here k (omega arith)))
