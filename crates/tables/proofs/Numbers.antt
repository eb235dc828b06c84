-- The number of a trit from its two bits, and of four trits from theirs. Assumes nothing.
use mathlib.Core.Path.{◌≡◌, refl, sym, ap, ap₂, ◌∙◌}
use mathlib.Core.List.{List}
use Prim.Native.Nat.{ℕ, ◌+◌, ◌-◌, ◌*◌, ◌/◌, ◌%◌, ◌^◌, ◌≤◌, ◌<◌}
use native.Mathlib.Omega.{arith}
use lib.ListN.{get_or}
use lib.Bits.{bit_and, bit_or}
use Rattle.trits.specs.Trit.{number}
use Rattle.trits.specs.Planes.{bit, bit_at, trit_at, Row}
use Rattle.trits.specs.Rows.{matrix_at}
use Rattle.trits.proofs.Bits.{shr_bit}
use Rattle.trits.proofs.Reading.{bits_within, bits_across, number_at}
use Rattle.trits.proofs.Put.{low_bit}
use Rattle.matrix.specs.Linear.{Vector}
use Rattle.matrix.specs.Blocks.{base3, pow3}
use Rattle.matrix.proofs.Entries.{base3_lt}
use Rattle.grid.proofs.Cells.{cell}
use Rattle.tables.specs.Steps.{Twelve, two_digits, digit_pairs}

pub number_read : {os ts : List ℕ} (p : ℕ) → Row os ts
    → bit_and (get_or os (p / 64) 0 / 2 ^ (p % 64)) 1 + 2 * bit_and (get_or ts (p / 64) 0 / 2 ^ (p % 64)) 1 ≡ number (trit_at os ts p)
unfolding bit_at
number_read {os} {ts} p r =
    ap₂ (λ (a b : ℕ). a + 2 * b) (low_bit (p % 64) (get_or os (p / 64) 0)) (low_bit (p % 64) (get_or ts (p / 64) 0)) ∙ number_at p r

-- ---- twelve bits of a plane

-- they stand in one word
pub twelve_within : (plane : List ℕ) (p : ℕ) → p % 64 ≤ 52 → Twelve plane p (get_or plane (p / 64) 0 / 2 ^ (p % 64))
twelve_within plane p h = record { bits = λ k l. bits_within plane p k (omega arith) }

-- or in two: the first has those up to its end, and the second, moved there, the others
pub twelve_across : (plane : List ℕ) (p : ℕ) → 52 < p % 64 → get_or plane (p / 64) 0 < 2 ^ 64
    → Twelve plane p (bit_or (get_or plane (p / 64) 0 / 2 ^ (p % 64)) (get_or plane (p / 64 + 1) 0 * 2 ^ (64 - p % 64) % 2 ^ 64))
twelve_across plane p h fits = record { bits = λ k l. bits_across plane p fits (omega arith) k (omega arith) }

-- ---- four trits of a row

module _ (w : ℕ) (o t : List ℕ) (i c : ℕ) (h : c + 4 ≤ 64 * w) where
  at_column : (k n q : ℕ) → k < 4 → q ≡ 64 * (i * w) + (c + k) → n ≡ number (trit_at o t q) → n ≡ number (matrix_at w o t i (c + k))
  at_column k n q l e f = f ∙ ap (λ (z : ℕ). number (trit_at o t z)) e ∙ ap number (sym (cell w o t i (c + k) (omega arith)))

  pub four_read : (x y z u : ℕ) → x ≡ number (trit_at o t (64 * (i * w) + c)) → y ≡ number (trit_at o t (64 * (i * w) + c + 1))
      → z ≡ number (trit_at o t (64 * (i * w) + c + 2)) → u ≡ number (trit_at o t (64 * (i * w) + c + 3))
      → x + 3 * y + 9 * z + 27 * u ≡ base3 (λ j. matrix_at w o t i (c + j)) 4
  unfolding base3
  four_read x y z u a b d e =
      omega (
        arith,
        at_column 0 x _ (omega arith) (omega arith) a,
        at_column 1 y _ (omega arith) (omega arith) b,
        at_column 2 z _ (omega arith) (omega arith) d,
        at_column 3 u _ (omega arith) (omega arith) e,
      )

-- ---- four of twelve trits

pub digits_lt : (n : ℕ) → two_digits n < 5
unfolding two_digits
digits_lt n = omega arith

pub pairs_lt : (n : ℕ) → digit_pairs n < 4096
unfolding digit_pairs
pairs_lt n = omega (arith, digits_lt n, digits_lt (n / 16), digits_lt (n / 256))

-- two bits make a number, and the second of them counts once more
two_bits : (m : ℕ) → two_digits m ≡ m % 4 + m / 2 % 2
unfolding two_digits
two_bits m = omega arith

pub pairs_made : (n : ℕ)
    → n % 4 + 16 * (n / 16 % 4) + 256 * (n / 256 % 4) + (n / 2 % 2 + 16 * (n / 32 % 2) + 256 * (n / 512 % 2)) ≡ digit_pairs n
unfolding digit_pairs
pairs_made n =
    by (n % 4) (n / 16 % 4) (n / 256 % 4) (n / 2 % 2) (n / 32 % 2) (n / 512 % 2) (two_bits n)
    (two_bits (n / 16) ∙ ap (λ (k : ℕ). n / 16 % 4 + k) (omega arith)) (two_bits (n / 256) ∙ ap (λ (k : ℕ). n / 256 % 4 + k) (omega arith))
  where
    by : (a b c d e f : ℕ) → two_digits n ≡ a + d → two_digits (n / 16) ≡ b + e → two_digits (n / 256) ≡ c + f
        → a + 16 * b + 256 * c + (d + 16 * e + 256 * f) ≡ two_digits n + 16 * two_digits (n / 16) + 256 * two_digits (n / 256)
    by a b c d e f g h k = omega arith

-- the numbers of both planes together, each in its four bits
module _ (x y : ℕ) where
  abbrev both : ℕ
  both = digit_pairs x + 2 * digit_pairs y

  lane : (a b c a' b' c' n : ℕ) → a < 5 → b < 5 → c < 5 → a' < 5 → b' < 5 → c' < 5 → n ≡ (a + 16 * b + 256 * c) + 2 * (a' + 16 * b' + 256 * c')
      → (n % 16 ≡ a + 2 * a') × (n / 16 % 16 ≡ b + 2 * b') × (n / 256 % 16 ≡ c + 2 * c')
  lane a b c a' b' c' n d e f d' e' f' m = (omega arith, omega arith, omega arith)

  lanes : (both % 16 ≡ two_digits x + 2 * two_digits y) × (both / 16 % 16 ≡ two_digits (x / 16) + 2 * two_digits (y / 16))
      × (both / 256 % 16 ≡ two_digits (x / 256) + 2 * two_digits (y / 256))
  unfolding digit_pairs
  lanes =
      lane (two_digits x) (two_digits (x / 16)) (two_digits (x / 256)) (two_digits y) (two_digits (y / 16)) (two_digits (y / 256)) both (digits_lt x)
      (digits_lt (x / 16)) (digits_lt (x / 256)) (digits_lt y) (digits_lt (y / 16)) (digits_lt (y / 256)) refl

-- two bits from place u on
digits_at : (u n m : ℕ) → m ≡ n / 2 ^ u → two_digits m ≡ bit (u + 0) n + 3 * bit (u + 1) n
unfolding two_digits bit
digits_at u n m e = rw e (ap₂ (λ (a b : ℕ). a + 3 * b) (ap (λ (k : ℕ). k % 2) (omega arith) ∙ shr_bit u 0 n) (shr_bit u 1 n))

module _ (w : ℕ) {o t : List ℕ} (r : Row o t) (i c : ℕ) (h : c + 12 ≤ 64 * w) {x y : ℕ} (ox : Twelve o (64 * (i * w) + c) x)
    (ty : Twelve t (64 * (i * w) + c) y) where
  -- the trit k places on
  one_trit : (k q : ℕ) → k < 12 → 64 * (i * w) + c + k ≡ q → bit k x + 2 * bit k y ≡ number (trit_at o t q)
  one_trit k q m e = ap₂ (λ (a b : ℕ). a + 2 * b) (ox.bits k m ∙ ap (bit_at o) e) (ty.bits k m ∙ ap (bit_at t) e) ∙ number_at q r

  -- four trits, from place u of the twelve on
  entry_at : (u : ℕ) → u ≤ 8 → (a b : ℕ) → a ≡ (bit (u + 0) x + 3 * bit (u + 1) x) + 2 * (bit (u + 0) y + 3 * bit (u + 1) y)
      → b ≡ (bit (2 + u + 0) x + 3 * bit (2 + u + 1) x) + 2 * (bit (2 + u + 0) y + 3 * bit (2 + u + 1) y)
      → a + 9 * b ≡ base3 (λ j. matrix_at w o t i ((c + u) + j)) 4
  entry_at u l a b e f =
      together (bit (u + 0) x) (bit (u + 1) x) (bit (2 + u + 0) x) (bit (2 + u + 1) x)
      (bit (u + 0) y) (bit (u + 1) y) (bit (2 + u + 0) y) (bit (2 + u + 1) y) a b _ e f
      (four_read w o t i (c + u) (omega arith) _ _ _ _ (one_trit (u + 0) _ (omega arith) (omega arith)) (one_trit (u + 1) _ (omega arith) (omega arith))
      (one_trit (2 + u + 0) _ (omega arith) (omega arith)) (one_trit (2 + u + 1) _ (omega arith) (omega arith)))
    where
      together : (p q s v p' q' s' v' a b n : ℕ) → a ≡ (p + 3 * q) + 2 * (p' + 3 * q') → b ≡ (s + 3 * v) + 2 * (s' + 3 * v')
          → (p + 2 * p') + 3 * (q + 2 * q') + 9 * (s + 2 * s') + 27 * (v + 2 * v') ≡ n → a + 9 * b ≡ n
      together p q s v p' q' s' v' a b n e f g = omega arith

  -- the bits that a number is made of
  pair_at : (u a m n : ℕ) → a ≡ two_digits m + 2 * two_digits n → m ≡ x / 2 ^ u → n ≡ y / 2 ^ u
      → a ≡ (bit (u + 0) x + 3 * bit (u + 1) x) + 2 * (bit (u + 0) y + 3 * bit (u + 1) y)
  pair_at u a m n e f g = e ∙ ap₂ (λ (p q : ℕ). p + 2 * q) (digits_at u x m f) (digits_at u y n g)

  pub first_entry : both x y % 16 + 9 * (both (x / 2 ^ 2) (y / 2 ^ 2) % 16) ≡ base3 (λ j. matrix_at w o t i (c + j)) 4
  first_entry =
      entry_at 0 (omega arith) _ _ (pair_at 0 _ x y (lanes x y).0 (omega arith) (omega arith))
      (pair_at 2 _ (x / 2 ^ 2) (y / 2 ^ 2) (lanes (x / 2 ^ 2) (y / 2 ^ 2)).0 refl refl)
      ∙ ap (λ (k : ℕ). base3 (λ j. matrix_at w o t i (k + j)) 4) (omega arith)

  pub second_entry : both x y / 2 ^ 4 % 16 + 9 * (both (x / 2 ^ 2) (y / 2 ^ 2) / 2 ^ 4 % 16) ≡ base3 (λ j. matrix_at w o t i ((c + 4) + j)) 4
  second_entry =
      entry_at 4 (omega arith) _ _ (pair_at 4 _ (x / 16) (y / 16) (lanes x y).1 (omega arith) (omega arith))
      (pair_at 6 _ (x / 2 ^ 2 / 16) (y / 2 ^ 2 / 16) (lanes (x / 2 ^ 2) (y / 2 ^ 2)).1 (omega arith) (omega arith))

  pub third_entry : both x y / 2 ^ 8 % 16 + 9 * (both (x / 2 ^ 2) (y / 2 ^ 2) / 2 ^ 8 % 16) ≡ base3 (λ j. matrix_at w o t i ((c + 8) + j)) 4
  third_entry =
      entry_at 8 (omega arith) _ _ (pair_at 8 _ (x / 256) (y / 256) (lanes x y).2 (omega arith) (omega arith))
      (pair_at 10 _ (x / 2 ^ 2 / 256) (y / 2 ^ 2 / 256) (lanes (x / 2 ^ 2) (y / 2 ^ 2)).2 (omega arith) (omega arith))

pub four_lt : (x : Vector) → base3 x 4 < 81
unfolding pow3
four_lt x = base3_lt 4 x
