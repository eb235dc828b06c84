-- The bits of a number: the operators work at each bit apart, a number is its bits, and the number that `from_bits` makes of given bits has them;
-- shifts move them. Assumes nothing.
use mathlib.Core.Path.{◌≡◌, refl, sym, ap, ap₂, ◌∙◌}
use Prim.Native.Nat.{ℕ, zero, suc, ◌+◌, ◌-◌, ◌*◌, ◌/◌, ◌%◌, ◌^◌, ◌≤◌, ◌<◌, zero-le, suc-le-suc}
use native.Mathlib.Nat.{zero-lt-suc, not-suc-le-zero, le_of_suc-le-suc, mod-lt, div-one, zero-div, pow-suc, div-eq_of_lt, mod-eq_of_lt, one-mul, mul_assoc}
use native.Mathlib.Numerals.{one-add}
use native.Mathlib.Decide.{dec_lt}
use native.Mathlib.Omega.{arith}
use lib.Bits.{bit_and, bit_or, bit_xor, and_shr, or_shr, xor_shr, and_mod, or_mod, xor_mod, or_lt, or_zero_r, shifted_even}
use lib.Pow.{shr-shr, shl-shr, field, mod-mod-pow, pow-add, pow_mono, pow_pos, pow-lt}
use lib.Arith.{lt-one}
use Rattle.trits.specs.Planes.{bit, from_bits}

-- ---- each operator at each bit

pub bit_and_law : (i a b : ℕ) → bit i (bit_and a b) ≡ bit_and (bit i a) (bit i b)
unfolding bit
bit_and_law i a b = ap (λ (x : ℕ). x % 2) (and_shr a b i) ∙ and_mod (a / 2 ^ i) (b / 2 ^ i) 1

pub bit_or_law : (i a b : ℕ) → bit i (bit_or a b) ≡ bit_or (bit i a) (bit i b)
unfolding bit
bit_or_law i a b = ap (λ (x : ℕ). x % 2) (or_shr a b i) ∙ or_mod (a / 2 ^ i) (b / 2 ^ i) 1

pub bit_xor_law : (i a b : ℕ) → bit i (bit_xor a b) ≡ bit_xor (bit i a) (bit i b)
unfolding bit
bit_xor_law i a b = ap (λ (x : ℕ). x % 2) (xor_shr a b i) ∙ xor_mod (a / 2 ^ i) (b / 2 ^ i) 1

-- ---- a bit is 0 or 1, and the bits by halves

pub bit_lt : (i n : ℕ) → bit i n < 2
unfolding bit
bit_lt i n = mod-lt (n / 2 ^ i) (zero-lt-suc 1)

pub bit_first : (n : ℕ) → bit 0 n ≡ n % 2
unfolding bit
bit_first n = ap (λ (x : ℕ). x % 2) (div-one n)

pub bit_next : (i n : ℕ) → bit (suc i) n ≡ bit i (n / 2)
unfolding bit
bit_next i n = ap (λ (k : ℕ). n / 2 ^ k % 2) (sym (one-add i)) ∙ ap (λ (x : ℕ). x % 2) (sym (shr-shr n 1 i))

pub bit_none : (i : ℕ) → bit i 0 ≡ 0
unfolding bit
bit_none i = ap (λ (x : ℕ). x % 2) (zero-div (2 ^ i))

-- what a number of k bits has from k on
pub bit_past : (k i n : ℕ) → n < 2 ^ k → k ≤ i → bit i n ≡ 0
unfolding bit
bit_past k i n h l = ap (λ (x : ℕ). x % 2) (div-eq_of_lt (omega (arith, pow_mono l)))

pub half_lt : (k n : ℕ) → n < 2 ^ suc k → n / 2 < 2 ^ k
half_lt k n h = omega (arith, pow-suc 2 k)

-- ---- two numbers of k bits are equal when their bits are

pub bits_eq : (k x y : ℕ) → x < 2 ^ k → y < 2 ^ k → ((i : ℕ) → i < k → bit i x ≡ bit i y) → x ≡ y
bits_eq zero x y hx hy h = lt-one hx ∙ sym (lt-one hy)
bits_eq (suc k) x y hx hy h =
    let low : x % 2 ≡ y % 2 = sym (bit_first x) ∙ h 0 (zero-lt-suc k) ∙ bit_first y in
    let high : x / 2 ≡ y / 2 = bits_eq k (x / 2) (y / 2) (half_lt k x hx) (half_lt k y hy)
    (λ i l. sym (bit_next i x) ∙ h (suc i) (suc-le-suc l) ∙ bit_next i y) in
    omega arith

-- ---- `from_bits`

pub from_lt : (k : ℕ) (f : ℕ → ℕ) → ((i : ℕ) → f i < 2) → from_bits f k < 2 ^ k
unfolding from_bits
from_lt zero f d = zero-lt-suc 0
from_lt (suc k) f d = omega (arith, pow-suc 2 k, from_lt k (λ i. f (suc i)) (λ i. d (suc i)), d 0)

pub bit_from : (k : ℕ) (f : ℕ → ℕ) → ((i : ℕ) → f i < 2) → (i : ℕ) → i < k → bit i (from_bits f k) ≡ f i
unfolding from_bits
bit_from zero f d i l = absurd (not-suc-le-zero l)
bit_from (suc k) f d zero l = bit_first (from_bits f (suc k)) ∙ omega (arith, d 0)
bit_from (suc k) f d (suc i) l =
    let half : (f 0 + 2 * from_bits (λ j. f (suc j)) k) / 2 ≡ from_bits (λ j. f (suc j)) k = omega (arith, d 0) in
    bit_next i (from_bits f (suc k)) ∙ ap (bit i) half ∙ bit_from k (λ j. f (suc j)) (λ j. d (suc j)) i (le_of_suc-le-suc l)

-- it is read at the first k places alone
pub from_same : (k : ℕ) (f g : ℕ → ℕ) → ((i : ℕ) → i < k → f i ≡ g i) → from_bits f k ≡ from_bits g k
unfolding from_bits
from_same zero f g e = refl
from_same (suc k) f g e =
    ap₂ (λ (a b : ℕ). a + 2 * b) (e 0 (zero-lt-suc k)) (from_same k (λ i. f (suc i)) (λ i. g (suc i)) (λ i l. e (suc i) (suc-le-suc l)))

-- and what is 0 past them needs no more
pub from_ended : (k n : ℕ) (f : ℕ → ℕ) → k ≤ n → ((i : ℕ) → k ≤ i → f i ≡ 0) → from_bits f n ≡ from_bits f k
unfolding from_bits
from_ended zero zero f h z = refl
from_ended zero (suc n) f h z =
    omega (arith, z 0 (zero-le), from_ended zero n (λ i. f (suc i)) zero-le (λ i l. z (suc i) zero-le))
from_ended (suc k) zero f h z = absurd (not-suc-le-zero h)
from_ended (suc k) (suc n) f h z =
    ap (λ (x : ℕ). f 0 + 2 * x) (from_ended k n (λ i. f (suc i)) (le_of_suc-le-suc h) (λ i l. z (suc i) (suc-le-suc l)))

-- a number is the one that has its bits
pub from_bits_law : (k n : ℕ) (f : ℕ → ℕ) → n < 2 ^ k → ((i : ℕ) → f i < 2) → ((i : ℕ) → i < k → bit i n ≡ f i) → n ≡ from_bits f k
from_bits_law k n f h d e = bits_eq k n (from_bits f k) h (from_lt k f d) (λ i l. e i l ∙ sym (bit_from k f d i l))

-- ---- a word shifted right, and left

pub shr_bit : (u i n : ℕ) → bit i (n / 2 ^ u) ≡ bit (u + i) n
unfolding bit
shr_bit u i n = ap (λ (x : ℕ). x % 2) (shr-shr n u i)

-- one bit
pub one_shifted : (b : ℕ) → b < 64 → 1 * 2 ^ b % 2 ^ 64 ≡ 2 ^ b
one_shifted b h = ap (λ (x : ℕ). x % 2 ^ 64) (one-mul (2 ^ b)) ∙ mod-eq_of_lt (pow-lt h)

-- the lowest w bits
pub bit_cut : (w n q : ℕ) → q < w → bit q (n % 2 ^ w) ≡ bit q n
unfolding bit
bit_cut w n q h =
    let e : suc (w - suc q) + q ≡ w = omega arith in
    let d : (w - suc q) + 1 ≡ suc (w - suc q) = omega arith in
    ap (λ (k : ℕ). n % 2 ^ k / 2 ^ q % 2) (sym e) ∙ ap (λ (x : ℕ). x % 2) (field n (suc (w - suc q)) q)
    ∙ ap (λ (k : ℕ). n / 2 ^ q % 2 ^ k % 2) (sym d) ∙ mod-mod-pow (n / 2 ^ q) (w - suc q) 1

pub from_cut : (k n : ℕ) (f : ℕ → ℕ) → k ≤ n → ((i : ℕ) → f i < 2) → from_bits f n % 2 ^ k ≡ from_bits f k
from_cut k n f h d =
    from_bits_law k (from_bits f n % 2 ^ k) f (mod-lt (from_bits f n) (pow_pos k)) d (λ i l. bit_cut k (from_bits f n) i l ∙ bit_from n f d i (omega arith))

-- below the shift there is 0
pub bit_low : (x j q : ℕ) → q < 64 → q < j → bit q (x * 2 ^ j % 2 ^ 64) ≡ 0
unfolding bit
bit_low x j q h l =
    let e : j ≡ suc (j - suc q) + q = omega arith in
    bit_cut 64 (x * 2 ^ j) q h ∙ ap (λ (k : ℕ). x * 2 ^ k / 2 ^ q % 2) e
    ∙ ap (λ (y : ℕ). y / 2 ^ q % 2) (ap (λ (y : ℕ). x * y) (pow-add 2 (suc (j - suc q)) q) ∙ sym (mul_assoc x (2 ^ suc (j - suc q)) (2 ^ q)))
    ∙ ap (λ (y : ℕ). y % 2) (shl-shr (x * 2 ^ suc (j - suc q)) q) ∙ shifted_even x (j - suc q)

pub bit_high : (x j q : ℕ) → q < 64 → j ≤ q → bit q (x * 2 ^ j % 2 ^ 64) ≡ bit (q - j) x
unfolding bit
bit_high x j q h l =
    let e : q ≡ j + (q - j) = omega arith in
    bit_cut 64 (x * 2 ^ j) q h ∙ ap (λ (k : ℕ). x * 2 ^ j / 2 ^ k % 2) e ∙ ap (λ (y : ℕ). y % 2) (sym (shr-shr (x * 2 ^ j) j (q - j)))
    ∙ ap (λ (y : ℕ). y / 2 ^ (q - j) % 2) (shl-shr x j)

-- a word shifted left by k places, with a number of k bits below it
pub joined_bits : (k x y : ℕ) (f : ℕ → ℕ) → k ≤ 64 → x < 2 ^ k → ((i : ℕ) → f i < 2) → ((i : ℕ) → i < k → bit i x ≡ f i)
    → ((i : ℕ) → k ≤ i → i < 64 → bit (i - k) y ≡ f i) → bit_or (y * 2 ^ k % 2 ^ 64) x ≡ from_bits f 64
joined_bits k x y f h l d low high =
    from_bits_law 64 (bit_or (y * 2 ^ k % 2 ^ 64) x) f (or_lt 64 (y * 2 ^ k % 2 ^ 64) x (mod-lt (y * 2 ^ k) (pow_pos 64)) (omega (arith, l, pow_mono h))) d
    (λ i g. bit_or_law i (y * 2 ^ k % 2 ^ 64) x ∙ at i g (dec_lt i k))
  where
    at : (i : ℕ) → i < 64 → Dec (i < k) → bit_or (bit i (y * 2 ^ k % 2 ^ 64)) (bit i x) ≡ f i
    at i g (yes m) = ap (λ (b : ℕ). bit_or b (bit i x)) (bit_low y k i g m) ∙ low i m
    at i g (no m) =
        let e : k ≤ i = omega arith in
        ap (bit_or (bit i (y * 2 ^ k % 2 ^ 64))) (bit_past k i x l e) ∙ or_zero_r (bit i (y * 2 ^ k % 2 ^ 64)) ∙ bit_high y k i g e ∙ high i e g
