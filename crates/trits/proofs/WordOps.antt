-- Operations on trits, sixty-four at a time: what masks make of two pairs of words is the
-- operation at each bit. A new operation is one `WordOp`. Assumes nothing.
use mathlib.Core.Path.{◌≡◌, refl, sym, ap, ap₂, ◌∙◌}
use Prim.Native.Nat.{ℕ, zero, suc, ◌^◌, ◌<◌}
use native.Mathlib.Nat.{zero-lt-suc, pow-suc}
use native.Mathlib.Omega.{arith}
use lib.Dec.{T, eqb, eqb→eq}
use lib.Pow.{pow_pos}
use lib.Bits.{bit_and, bit_or, bit_xor}
use Rattle.trits.specs.Trit.{Trit, add_t, neg_t, mul_t, one, two}
use Rattle.trits.specs.Planes.{bit, trit}
use Rattle.trits.proofs.Bits.{bit_and_law, bit_or_law, bit_xor_law, bit_lt, bit_none, bits_eq}
use Rattle.trits.proofs.Reading.{coded, trit_of_law, and_one_two}
use Rattle.trits.proofs.Arithmetic.{every, at}

-- F and G make the ones and the twos of `op` from a pair of words a, b and a pair c, d
pub record WordOp (F G : ℕ → ℕ → ℕ → ℕ → ℕ) (op : Trit → Trit → Trit) : Type 0 where
  pub ones_bit : (i a b c d : ℕ) → bit i (F a b c d) ≡ F (bit i a) (bit i b) (bit i c) (bit i d)
  pub twos_bit : (i a b c d : ℕ) → bit i (G a b c d) ≡ G (bit i a) (bit i b) (bit i c) (bit i d)
  pub ones_table : (x y : Trit) → F (one x) (two x) (one y) (two y) ≡ one (op x y)
  pub twos_table : (x y : Trit) → G (one x) (two x) (one y) (two y) ≡ two (op x y)

-- a table's equation at every two trits is one computed test
pub table : (f g : Trit → Trit → ℕ) → T (every (λ x. every (λ y. eqb (f x y) (g x y)))) → (x y : Trit) → f x y ≡ g x y
table f g h x y = eqb→eq (f x y) (g x y) (at (λ b. eqb (f x b) (g x b)) (at (λ a. every (λ b. eqb (f a b) (g a b))) h x) y)

-- ---- the sum, the product and the negative

abbrev pub carry : ℕ → ℕ → ℕ → ℕ → ℕ
carry a b c d = bit_xor (bit_or a d) (bit_or b c)

abbrev pub add_ones : ℕ → ℕ → ℕ → ℕ → ℕ
add_ones a b c d = bit_xor (bit_or b d) (carry a b c d)

abbrev pub add_twos : ℕ → ℕ → ℕ → ℕ → ℕ
add_twos a b c d = bit_xor (bit_or a c) (carry a b c d)

pub add_op : WordOp add_ones add_twos add_t
add_op = record {
  ones_bit = λ i a b c d. simp (bit_xor_law, bit_or_law);
  twos_bit = λ i a b c d. simp (bit_xor_law, bit_or_law);
  ones_table = table (λ x y. add_ones (one x) (two x) (one y) (two y)) (λ x y. one (add_t x y)) tt;
  twos_table = table (λ x y. add_twos (one x) (two x) (one y) (two y)) (λ x y. two (add_t x y)) tt;
}

abbrev pub mul_ones : ℕ → ℕ → ℕ → ℕ → ℕ
mul_ones a b c d = bit_or (bit_and a c) (bit_and b d)

abbrev pub mul_twos : ℕ → ℕ → ℕ → ℕ → ℕ
mul_twos a b c d = bit_or (bit_and a d) (bit_and b c)

pub mul_op : WordOp mul_ones mul_twos mul_t
mul_op = record {
  ones_bit = λ i a b c d. simp (bit_or_law, bit_and_law);
  twos_bit = λ i a b c d. simp (bit_or_law, bit_and_law);
  ones_table = table (λ x y. mul_ones (one x) (two x) (one y) (two y)) (λ x y. one (mul_t x y)) tt;
  twos_table = table (λ x y. mul_twos (one x) (two x) (one y) (two y)) (λ x y. two (mul_t x y)) tt;
}

-- the negative, whatever the second is
abbrev pub neg_ones : ℕ → ℕ → ℕ → ℕ → ℕ
neg_ones a b c d = b

abbrev pub neg_twos : ℕ → ℕ → ℕ → ℕ → ℕ
neg_twos a b c d = a

pub neg_op : WordOp neg_ones neg_twos (λ x y. neg_t x)
neg_op = record {
  ones_bit = λ i a b c d. refl;
  twos_bit = λ i a b c d. refl;
  ones_table = table (λ x y. two x) (λ x y. one (neg_t x)) tt;
  twos_table = table (λ x y. one x) (λ x y. two (neg_t x)) tt;
}

-- ---- a number with no bit

lt_pow : (n : ℕ) → n < 2 ^ n
lt_pow zero = zero-lt-suc 0
lt_pow (suc n) = omega (arith, lt_pow n, pow-suc 2 n, pow_pos n)

pub no_bits : (x : ℕ) → ((i : ℕ) → bit i x ≡ 0) → x ≡ 0
no_bits x h = bits_eq x x 0 (lt_pow x) (pow_pos x) (λ i l. h i ∙ sym (bit_none i))

-- ---- the words of an operation, at any numbers with no bit in common: no bound on them is asked

pub code : (a b : ℕ) → bit_and a b ≡ 0 → (i : ℕ) → (x : Trit) × (bit i a ≡ one x) × (bit i b ≡ two x)
code a b p i = coded (bit i a) (bit i b) (bit_lt i a) (bit_lt i b) (sym (bit_and_law i a b) ∙ ap (bit i) p ∙ bit_none i)

module _ {F G : ℕ → ℕ → ℕ → ℕ → ℕ} {op : Trit → Trit → Trit} (w : WordOp F G op) (a b c d : ℕ) (p : bit_and a b ≡ 0) (q : bit_and c d ≡ 0) where
  pub op_ones : (i : ℕ) → bit i (F a b c d) ≡ one (op (trit (bit i a) (bit i b)) (trit (bit i c) (bit i d)))
  op_ones i =
      let u = code a b p i in
      let v = code c d q i in
      let e = u.1 in
      let f = u.2 in
      let g = v.1 in
      let h = v.2 in
      w.ones_bit i a b c d ∙ rw (e, f, g, h) (rw (trit_of_law u.0, trit_of_law v.0) (w.ones_table u.0 v.0))

  pub op_twos : (i : ℕ) → bit i (G a b c d) ≡ two (op (trit (bit i a) (bit i b)) (trit (bit i c) (bit i d)))
  op_twos i =
      let u = code a b p i in
      let v = code c d q i in
      let e = u.1 in
      let f = u.2 in
      let g = v.1 in
      let h = v.2 in
      w.twos_bit i a b c d ∙ rw (e, f, g, h) (rw (trit_of_law u.0, trit_of_law v.0) (w.twos_table u.0 v.0))

  pub op_trit : (i : ℕ) → trit (bit i (F a b c d)) (bit i (G a b c d)) ≡ op (trit (bit i a) (bit i b)) (trit (bit i c) (bit i d))
  op_trit i = ap₂ trit (op_ones i) (op_twos i) ∙ trit_of_law (op (trit (bit i a) (bit i b)) (trit (bit i c) (bit i d)))

  pub op_apart : bit_and (F a b c d) (G a b c d) ≡ 0
  op_apart = no_bits _ (λ i.
      bit_and_law i (F a b c d) (G a b c d) ∙ ap₂ bit_and (op_ones i) (op_twos i) ∙ and_one_two (op (trit (bit i a) (bit i b)) (trit (bit i c) (bit i d))))

-- the second alone: what is put back in the place of a stretch
pub second_op : WordOp (λ a b c d. c) (λ a b c d. d) (λ x y. y)
second_op = record { ones_bit = λ i a b c d. refl; twos_bit = λ i a b c d. refl; ones_table = λ x y. refl; twos_table = λ x y. refl }
