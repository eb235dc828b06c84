-- Bytes and their five digits to the base 3: each determines the other. Assumes nothing.
use mathlib.Core.Path.{◌≡◌, refl, ap, ap₂, ◌∙◌}
use mathlib.Core.List.{List}
use Prim.Native.Nat.{ℕ, zero, suc, ◌+◌, ◌*◌, ◌/◌, ◌%◌, ◌^◌, ◌<◌}
use native.Mathlib.Nat.{mod-lt, zero-div, zero-lt-suc}
use native.Mathlib.Omega.{arith}
use lib.Arith.{digits_div, digits_mod}
use lib.ListN.{get_or}
use Rattle.trits.specs.Trit.{Trit, number, trit_of}
use Rattle.trits.proofs.Arithmetic.{number_lt, number_trit_of}
use Rattle.trits.proofs.Lists.{get_d_tabulate}
use Rattle.packed.specs.Packed.{byte_of, digit_of, byte_table, packed_row}

pub digit_lt : (b k : ℕ) → digit_of b k < 3
unfolding digit_of
digit_lt b k = mod-lt (b / 3 ^ k) (zero-lt-suc 2)

-- the digits of 0 are 0
pub digit_none : (k : ℕ) → digit_of 0 k ≡ 0
unfolding digit_of
digit_none k = ap (λ (x : ℕ). x % 3) (zero-div (3 ^ k))

-- the number of the trit of a digit is the digit
pub digit_number : (b k : ℕ) → number (trit_of (digit_of b k)) ≡ digit_of b k
digit_number b k = number_trit_of (digit_of b k) ∙ omega (arith, digit_lt b k)

-- ---- the digits of a byte that was made of five trits

pub byte_lt : (v : ℕ → Trit) (j : ℕ) → byte_of v j < 243
unfolding byte_of
byte_lt v j =
    omega (arith, number_lt (v (5 * j)), number_lt (v (5 * j + 1)), number_lt (v (5 * j + 2)), number_lt (v (5 * j + 3)), number_lt (v (5 * j + 4)))

pub digit_byte : (v : ℕ → Trit) (j k : ℕ) → k < 5 → digit_of (byte_of v j) k ≡ number (v (5 * j + k))
unfolding byte_of digit_of
digit_byte v j k h =
    by (number (v (5 * j))) (number (v (5 * j + 1))) (number (v (5 * j + 2))) (number (v (5 * j + 3))) (number (v (5 * j + 4))) k h
    (number_lt (v (5 * j))) (number_lt (v (5 * j + 1))) (number_lt (v (5 * j + 2))) (number_lt (v (5 * j + 3))) (number_lt (v (5 * j + 4)))
    (ap (λ (p : ℕ). number (v p)) (omega arith)) refl refl refl refl
  where
    by : (a b c d e k : ℕ) → k < 5 → a < 3 → b < 3 → c < 3 → d < 3 → e < 3
        → a ≡ number (v (5 * j + 0)) → b ≡ number (v (5 * j + 1)) → c ≡ number (v (5 * j + 2))
        → d ≡ number (v (5 * j + 3)) → e ≡ number (v (5 * j + 4))
        → (a + 3 * b + 9 * c + 27 * d + 81 * e) / 3 ^ k % 3 ≡ number (v (5 * j + k))
    by a b c d e zero h la lb lc ld le pa pb pc pd pe = omega arith
    by a b c d e (suc zero) h la lb lc ld le pa pb pc pd pe = omega arith
    by a b c d e (suc (suc zero)) h la lb lc ld le pa pb pc pd pe = omega arith
    by a b c d e (suc (suc (suc zero))) h la lb lc ld le pa pb pc pd pe = omega arith
    by a b c d e (suc (suc (suc (suc zero)))) h la lb lc ld le pa pb pc pd pe = omega arith
    by a b c d e (suc (suc (suc (suc (suc k))))) h la lb lc ld le pa pb pc pd pe = absurd (omega arith)

-- ---- a byte below 243 is made of its digits

split : (x : ℕ) → x ≡ x % 3 + 3 * (x / 3)
split x = omega arith

join : (b q r s t d e f g h : ℕ) → b ≡ d + 3 * q → q ≡ e + 3 * r → r ≡ f + 3 * s → s ≡ g + 3 * t → t ≡ h
    → d + 3 * e + 9 * f + 27 * g + 81 * h ≡ b
join b q r s t d e f g h p₁ p₂ p₃ p₄ p₅ = omega arith

pub byte_digits : (b : ℕ) → b < 243 → digit_of b 0 + 3 * digit_of b 1 + 9 * digit_of b 2 + 27 * digit_of b 3 + 81 * digit_of b 4 ≡ b
unfolding digit_of
byte_digits b h =
    let d₀ : b % 3 ≡ b / 1 % 3 = omega arith in
    let q₂ : b / 3 / 3 ≡ b / 9 = omega arith in
    let q₃ : b / 9 / 3 ≡ b / 27 = omega arith in
    let q₄ : b / 27 / 3 ≡ b / 81 = omega arith in
    let d₄ : b / 81 ≡ b / 81 % 3 = omega arith in
    join b (b / 3) (b / 9) (b / 27) (b / 81) _ _ _ _ _
    (split b ∙ ap (λ (x : ℕ). x + 3 * (b / 3)) d₀)
    (split (b / 3) ∙ ap (λ (x : ℕ). b / 3 % 3 + 3 * x) q₂)
    (split (b / 9) ∙ ap (λ (x : ℕ). b / 9 % 3 + 3 * x) q₃)
    (split (b / 27) ∙ ap (λ (x : ℕ). b / 27 % 3 + 3 * x) q₄)
    d₄

-- ---- the trits of bytes, by byte and digit

pub packed_place : (bytes : List ℕ) (j k : ℕ) → k < 5 → packed_row bytes (5 * j + k) ≡ trit_of (digit_of (get_or bytes j 0) k)
unfolding packed_row
packed_place bytes j k h = ap₂ (λ (q r : ℕ). trit_of (digit_of (get_or bytes q 0) r)) (omega arith) (omega arith)

-- ---- the byte table, at each of its entries

pub table_rule : (b k : ℕ) → b < 243 → k < 5 → get_or byte_table (b * 5 + k) 0 ≡ digit_of b k
unfolding byte_table
table_rule b k hb hk = rw (digits_div b hk, digits_mod b hk) at (get_d_tabulate 1215 (λ i. digit_of (i / 5) (i % 5)) (b * 5 + k) 0 (omega arith))

-- a trit of packed bytes, from its digit
pub packed_trit : (bytes : List ℕ) (i d : ℕ) → d ≡ digit_of (get_or bytes (i / 5) 0) (i % 5) → trit_of d ≡ packed_row bytes i
unfolding packed_row
packed_trit bytes i d e = ap trit_of e
