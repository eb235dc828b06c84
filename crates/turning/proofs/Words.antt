-- The bits of two words that exchange the columns of a mask. Assumes nothing.
use mathlib.Core.Path.{◌≡◌, refl, ap, ◌∙◌}
use Prim.Native.Nat.{ℕ, zero, suc, ◌+◌, ◌-◌, ◌*◌, ◌/◌, ◌%◌, ◌^◌, ◌≤◌, ◌<◌}
use native.Mathlib.Omega.{arith}
use lib.Bits.{bit_and, bit_xor, and_zero_r, xor_zero_r}
use Rattle.trits.specs.Planes.{bit}
use Rattle.trits.proofs.Bits.{bit_and_law, bit_xor_law, bit_lt, shr_bit, bit_low, bit_high}

-- ---- two bits

take_second : (u v : ℕ) → u < 2 → v < 2 → bit_xor u (bit_and (bit_xor u v) 1) ≡ v
take_second zero zero p q = refl
take_second zero (suc zero) p q = refl
take_second zero (suc (suc v)) p q = absurd (omega arith)
take_second (suc zero) zero p q = refl
take_second (suc zero) (suc zero) p q = refl
take_second (suc zero) (suc (suc v)) p q = absurd (omega arith)
take_second (suc (suc u)) v p q = absurd (omega arith)

take_first : (u v : ℕ) → u < 2 → v < 2 → bit_xor v (bit_and (bit_xor u v) 1) ≡ u
take_first zero zero p q = refl
take_first zero (suc zero) p q = refl
take_first zero (suc (suc v)) p q = absurd (omega arith)
take_first (suc zero) zero p q = refl
take_first (suc zero) (suc zero) p q = refl
take_first (suc zero) (suc (suc v)) p q = absurd (omega arith)
take_first (suc (suc u)) v p q = absurd (omega arith)

take_none : (u v : ℕ) → bit_xor u (bit_and v 0) ≡ u
take_none u v = ap (bit_xor u) (and_zero_r v) ∙ xor_zero_r u

-- ---- two words

-- what the columns of the mask differ in
abbrev pub differing : ℕ → ℕ → ℕ → ℕ → ℕ
differing j mask a b = bit_and (bit_xor (a / 2 ^ j) b) mask

module _ (j mask a b q : ℕ) (h : q < 64) where
  differs : bit q (differing j mask a b) ≡ bit_and (bit_xor (bit (j + q) a) (bit q b)) (bit q mask)
  differs =
      bit_and_law q (bit_xor (a / 2 ^ j) b) mask
      ∙ ap (λ (x : ℕ). bit_and x (bit q mask)) (bit_xor_law q (a / 2 ^ j) b ∙ ap (λ (x : ℕ). bit_xor x (bit q b)) (shr_bit j q a))

  -- the second word
  second : bit q (bit_xor b (differing j mask a b)) ≡ bit_xor (bit q b) (bit_and (bit_xor (bit (j + q) a) (bit q b)) (bit q mask))
  second = bit_xor_law q b (differing j mask a b) ∙ ap (bit_xor (bit q b)) differs

  pub second_taken : bit q mask ≡ 1 → bit q (bit_xor b (differing j mask a b)) ≡ bit (j + q) a
  second_taken e =
      second ∙ ap (λ (x : ℕ). bit_xor (bit q b) (bit_and (bit_xor (bit (j + q) a) (bit q b)) x)) e
      ∙ take_first (bit (j + q) a) (bit q b) (bit_lt (j + q) a) (bit_lt q b)

  pub second_kept : bit q mask ≡ 0 → bit q (bit_xor b (differing j mask a b)) ≡ bit q b
  second_kept e =
      second ∙ ap (λ (x : ℕ). bit_xor (bit q b) (bit_and (bit_xor (bit (j + q) a) (bit q b)) x)) e
      ∙ take_none (bit q b) (bit_xor (bit (j + q) a) (bit q b))

module _ (j mask a b q : ℕ) (h : q < 64) where
  abbrev new : ℕ
  new = bit_xor a (differing j mask a b * 2 ^ j % 2 ^ 64)

  -- the first word
  first : j ≤ q → bit q new ≡ bit_xor (bit q a) (bit_and (bit_xor (bit q a) (bit (q - j) b)) (bit (q - j) mask))
  first l =
      let e : j + (q - j) ≡ q = omega arith in
      bit_xor_law q a (differing j mask a b * 2 ^ j % 2 ^ 64)
      ∙ ap (bit_xor (bit q a)) (bit_high (differing j mask a b) j q h l ∙ differs j mask a b (q - j) (omega arith)
      ∙ ap (λ (x : ℕ). bit_and (bit_xor (bit x a) (bit (q - j) b)) (bit (q - j) mask)) e)

  pub first_low : q < j → bit q new ≡ bit q a
  first_low l =
      bit_xor_law q a (differing j mask a b * 2 ^ j % 2 ^ 64) ∙ ap (bit_xor (bit q a)) (bit_low (differing j mask a b) j q h l) ∙ xor_zero_r (bit q a)

  pub first_taken : j ≤ q → bit (q - j) mask ≡ 1 → bit q new ≡ bit (q - j) b
  first_taken l e =
      first l ∙ ap (λ (x : ℕ). bit_xor (bit q a) (bit_and (bit_xor (bit q a) (bit (q - j) b)) x)) e
      ∙ take_second (bit q a) (bit (q - j) b) (bit_lt q a) (bit_lt (q - j) b)

  pub first_kept : j ≤ q → bit (q - j) mask ≡ 0 → bit q new ≡ bit q a
  first_kept l e =
      first l ∙ ap (λ (x : ℕ). bit_xor (bit q a) (bit_and (bit_xor (bit q a) (bit (q - j) b)) x)) e ∙ take_none (bit q a) (bit_xor (bit q a) (bit (q - j) b))
