-- Pieces of a row: several trits in one number, the masks of bytes, and a plane that pieces are appended to. Assumes nothing.
use mathlib.Core.Path.{◌≡◌, refl, sym, ap, ap₂, ◌∙◌}
use mathlib.Core.Bool.{Bool, true, false, cond}
use mathlib.Core.List.{List}
use Prim.Native.Nat.{ℕ, suc, ◌+◌, ◌-◌, ◌*◌, ◌/◌, ◌%◌, ◌^◌, ◌≤◌, ◌<◌}
use native.Mathlib.Nat.{not-suc-le-zero}
use native.Mathlib.Decide.{dec_lt, ℕ_discrete}
use native.Mathlib.Omega.{arith}
use borrow.Author.Tests.{lt-ltb, le-ltb}
use lib.Bits.{bit_or}
use lib.Dec.{ltb, lit<, lit≤}
use lib.ListN.{length, get_or, set, length-set}
use lib.Pow.{pow_mono, shr_lt}
use lib.Seq.{get_or-set_same, get_or-set_other}
use Rattle.trits.specs.Trit.{Trit, one, two, trit_of}
use Rattle.trits.specs.Planes.{bit, from_bits, tabulate}
use Rattle.trits.proofs.Bits.{bit_past, from_lt, bit_from, from_bits_law, from_same, from_ended, from_cut, shr_bit, joined_bits}
use Rattle.trits.proofs.Lists.{get_d_tabulate, tabulated}
use Rattle.trits.proofs.Reading.{one_lt, two_lt}
use Rattle.packed.specs.Packed.{digit_of, packed_row}
use Rattle.packed.specs.Steps.{piece_of, byte_masks, PlaneWritten}
use Rattle.packed.proofs.Digits.{table_rule, packed_place}

-- ---- a piece has the bits of its ones below 2 ^ 32, and those of its twos above

module _ (v : ℕ → Trit) (count : ℕ) (few : count ≤ 32) where
  abbrev ones : ℕ
  ones = from_bits (λ k. one (v k)) count

  abbrev twos : ℕ
  twos = from_bits (λ k. two (v k)) count

  ones_lt : ones < 2 ^ 32
  ones_lt = omega (arith, from_lt count (λ k. one (v k)) (λ k. one_lt (v k)), pow_mono few)

  pub piece_ones : piece_of v count % 2 ^ 32 ≡ from_bits (λ k. one (v k)) count
  unfolding piece_of
  piece_ones = omega (arith, ones_lt)

  pub piece_twos : piece_of v count / 2 ^ 32 ≡ from_bits (λ k. two (v k)) count
  unfolding piece_of
  piece_twos = omega (arith, ones_lt)

-- it is read at its own places alone
pub piece_same : (u v : ℕ → Trit) (count : ℕ) → ((k : ℕ) → k < count → u k ≡ v k) → piece_of u count ≡ piece_of v count
unfolding piece_of
piece_same u v count e =
    ap₂ (λ (a b : ℕ). a + 2 ^ 32 * b) (from_same count _ _ (λ k l. ap one (e k l))) (from_same count _ _ (λ k l. ap two (e k l)))

-- five trits more in front
from_five : (f : ℕ → ℕ) (c : ℕ) → from_bits f (suc (suc (suc (suc (suc c))))) ≡ from_bits f 5 + 32 * from_bits (λ k. f (suc (suc (suc (suc (suc k)))))) c
unfolding from_bits
from_five f c = omega arith

piece_five : (v : ℕ → Trit) (c : ℕ) → piece_of v (suc (suc (suc (suc (suc c))))) ≡ piece_of (λ k. v (suc (suc (suc (suc (suc k)))))) c * 32 + piece_of v 5
unfolding piece_of
piece_five v c = omega (arith, from_five (λ k. one (v k)) c, from_five (λ k. two (v k)) c)

-- and how large it is
pub piece_lt : (v : ℕ → Trit) (count : ℕ) → count ≤ 25 → piece_of v count < 2 ^ 58
unfolding piece_of
piece_lt v count h =
    omega (arith, from_lt count (λ k. one (v k)) (λ k. one_lt (v k)), from_lt count (λ k. two (v k)) (λ k. two_lt (v k)), pow_mono h)

-- ---- pieces of packed bytes

-- the five trits of a byte
pub mask_rule : (b : ℕ) → b < 243 → get_or byte_masks b 0 ≡ piece_of (λ k. trit_of (digit_of b k)) 5
unfolding byte_masks
mask_rule b h = get_d_tabulate 243 _ b 0 h ∙ piece_same _ _ 5 (λ k l. ap trit_of (table_rule b k h l))

pub mask_lt : (b : ℕ) → b < 243 → get_or byte_masks b 0 < 2 ^ 58
mask_lt b h = omega (arith, mask_rule b h, piece_lt (λ k. trit_of (digit_of b k)) 5 (lit≤ tt))

module _ (bytes : List ℕ) where
  -- those of the n bytes from byte i on
  abbrev bytes_piece : ℕ → ℕ → ℕ
  bytes_piece i n = piece_of (λ k. packed_row bytes (5 * i + k)) (5 * n)

  pub piece_none : (i to : ℕ) → i ≡ to → 0 ≡ bytes_piece i (to - i)
  unfolding piece_of from_bits
  piece_none i to e =
      let z : to - i ≡ 0 = omega arith in
      sym (ap (bytes_piece i) z)

  -- one byte more before them
  pub piece_more : (k i to : ℕ) {x y : ℕ} → k + 1 ≡ i → i ≤ to → get_or bytes k 0 < 243 → y ≡ get_or byte_masks (get_or bytes k 0) 0 → x
      ≡ bytes_piece i (to - i)
      → x * 32 + y ≡ bytes_piece k (to - k)
  piece_more k i to {x} {y} e h g f d =
      let c = 5 * (to - i) in
      let n : suc (suc (suc (suc (suc c)))) ≡ 5 * (to - k) = omega arith in
      ap₂ (λ (a b : ℕ). a * 32 + b)
      (d ∙ piece_same _ _ c (λ q l. ap (packed_row bytes) (omega arith)))
      (f ∙ mask_rule (get_or bytes k 0) g ∙ piece_same _ _ 5 (λ q l. sym (packed_place bytes k q l)))
      ∙ sym (piece_five (λ q. packed_row bytes (5 * k + q)) c) ∙ ap (piece_of (λ q. packed_row bytes (5 * k + q))) n

  -- six of them, where they are next
  pub six_next : (i at : ℕ) {x : ℕ} → at ≡ 5 * i → x ≡ bytes_piece i (i + 6 - i) → x ≡ piece_of (λ k. packed_row bytes (at + k)) 30
  six_next i at e f =
      let n : 5 * (i + 6 - i) ≡ 30 = omega arith in
      f ∙ ap (piece_of (λ k. packed_row bytes (5 * i + k))) n ∙ piece_same _ _ 30 (λ k l. ap (λ (p : ℕ). packed_row bytes (p + k)) (sym e))

-- ---- the next trits of a row, where they are those of the byte b

module _ {masks : List ℕ} (is : masks ≡ byte_masks) (v : ℕ → Trit) (b at : ℕ) (h : b < 243) {y : ℕ} (e : y ≡ get_or masks b 0) where
  abbrev trits : ℕ → Trit
  trits k = trit_of (digit_of b k)

  mask_is : y ≡ piece_of trits 5
  mask_is = e ∙ ap (λ (l : List ℕ). get_or l b 0) is ∙ mask_rule b h

  -- all five
  pub byte_next : ((k : ℕ) → k < 5 → v (at + k) ≡ trit_of (digit_of b k)) → y ≡ piece_of (λ k. v (at + k)) 5
  byte_next f = mask_is ∙ piece_same _ _ 5 (λ k l. sym (f k l))

  -- the first of them
  pub first_next : (count : ℕ) → count ≤ 5 → ((k : ℕ) → k < count → v (at + k) ≡ trit_of (digit_of b k)) → {x : ℕ}
      → x ≡ y % 2 ^ 32 % 2 ^ count + 2 ^ 32 * (y / 2 ^ 32 % 2 ^ count) → x ≡ piece_of (λ k. v (at + k)) count
  unfolding piece_of
  first_next count l f g =
      g
      ∙ ap₂ (λ (p q : ℕ). p + 2 ^ 32 * q)
      (ap (λ (p : ℕ). p % 2 ^ count) (ap (λ (p : ℕ). p % 2 ^ 32) mask_is ∙ piece_ones trits 5 (lit≤ tt))
      ∙ from_cut count 5 (λ k. one (trits k)) l (λ k. one_lt (trits k)))
      (ap (λ (p : ℕ). p % 2 ^ count) (ap (λ (p : ℕ). p / 2 ^ 32) mask_is ∙ piece_twos trits 5 (lit≤ tt))
      ∙ from_cut count 5 (λ k. two (trits k)) l (λ k. two_lt (trits k)))
      ∙ piece_same trits (λ k. v (at + k)) count (λ k q. sym (f k q))

-- ---- a plane that is written from its first place on

module _ (f : ℕ → ℕ) (small : (p : ℕ) → f p < 2) where
  -- nothing is written
  pub plane_none : (n : ℕ) (plane : List ℕ) → length plane ≡ n → PlaneWritten f n 0 plane 0
  unfolding from_bits
  plane_none n plane e = record { size = e; words = λ j l. absurd (not-suc-le-zero l); begun = refl }

  module _ {n at : ℕ} {plane : List ℕ} {rest : ℕ} (w : PlaneWritten f n at plane rest) (count x : ℕ)
      (e : x ≡ from_bits (λ k. f (at + k)) count) where
    -- the bits of the word that is begun, those of x behind them, and 0 after these
    upto : ℕ → ℕ
    upto b = cond (ltb b (at % 64 + count)) (f (64 * (at / 64) + b)) 0

    upto_lt : (b : ℕ) → upto b < 2
    unfolding upto
    upto_lt b = by (ltb b (at % 64 + count))
      where
        by : (t : Bool) → cond t (f (64 * (at / 64) + b)) 0 < 2
        by true = small (64 * (at / 64) + b)
        by false = lit< tt

    upto_in : (b : ℕ) → b < at % 64 + count → upto b ≡ f (64 * (at / 64) + b)
    unfolding upto
    upto_in b l = ap (λ (t : Bool). cond t (f (64 * (at / 64) + b)) 0) (lt-ltb b (at % 64 + count) l)

    upto_out : (b : ℕ) → at % 64 + count ≤ b → upto b ≡ 0
    unfolding upto
    upto_out b l = ap (λ (t : Bool). cond t (f (64 * (at / 64) + b)) 0) (le-ltb b (at % 64 + count) l)

    -- a bit of x
    bit_x : (i : ℕ) → i < count → bit i x ≡ f (at + i)
    bit_x i l = ap (bit i) e ∙ bit_from count (λ k. f (at + k)) (λ k. small (at + k)) i l

    x_lt : x < 2 ^ count
    x_lt = omega (arith, e, from_lt count (λ k. f (at + k)) (λ k. small (at + k)))

    -- the word with them
    word : bit_or (x * 2 ^ (at % 64) % 2 ^ 64) rest ≡ from_bits upto 64
    word = joined_bits (at % 64) rest x upto (omega arith) rest_lt upto_lt low high
      where
        first : ℕ → ℕ
        first b = f (64 * (at / 64) + b)

        rest_lt : rest < 2 ^ (at % 64)
        rest_lt = omega (arith, w.begun, from_lt (at % 64) first (λ b. small (64 * (at / 64) + b)))

        low : (i : ℕ) → i < at % 64 → bit i rest ≡ upto i
        low i l = ap (bit i) w.begun ∙ bit_from (at % 64) first (λ b. small (64 * (at / 64) + b)) i l ∙ sym (upto_in i (omega arith))

        high : (i : ℕ) → at % 64 ≤ i → i < 64 → bit (i - at % 64) x ≡ upto i
        high i l h = by (dec_lt i (at % 64 + count))
          where
            by : Dec (i < at % 64 + count) → bit (i - at % 64) x ≡ upto i
            by (yes g) =
                let p : at + (i - at % 64) ≡ 64 * (at / 64) + i = omega arith in
                bit_x (i - at % 64) (omega arith) ∙ ap f p ∙ sym (upto_in i g)
            by (no g) = bit_past count (i - at % 64) x x_lt (omega arith) ∙ sym (upto_out i (omega arith))

    -- the word is still begun
    pub plane_begun : at % 64 + count < 64 → PlaneWritten f n (at + count) plane (bit_or (x * 2 ^ (at % 64) % 2 ^ 64) rest)
    plane_begun h =
        let d : at / 64 ≡ (at + count) / 64 = omega arith in
        let r : at % 64 + count ≡ (at + count) % 64 = omega arith in
        record {
          size = w.size;
          words = λ j l. w.words j (omega arith);
          begun = word ∙ from_ended (at % 64 + count) 64 upto (omega arith) upto_out ∙ from_same (at % 64 + count) upto _ upto_in
              ∙ ap₂ (λ (q k : ℕ). from_bits (λ b. f (64 * q + b)) k) d r;
        }

    -- it is full, and the rest of x begins the next
    pub plane_full : 64 ≤ at % 64 + count → count < 64 → at < 64 * n
        → PlaneWritten f n (at + count) (set plane (at / 64) (bit_or (x * 2 ^ (at % 64) % 2 ^ 64) rest)) (x / 2 ^ (64 - at % 64))
    plane_full h few room = record {
      size = length-set plane (at / 64) _ ∙ w.size;
      words = λ j l. by j l (ℕ_discrete j (at / 64));
      begun = next;
    }
      where
        new : ℕ
        new = bit_or (x * 2 ^ (at % 64) % 2 ^ 64) rest

        by : (j : ℕ) → j < (at + count) / 64 → Dec (j ≡ at / 64) → get_or (set plane (at / 64) new) j 0 ≡ from_bits (λ b. f (64 * j + b)) 64
        by j l (yes q) =
            ap (λ (i : ℕ). get_or (set plane (at / 64) new) i 0) q ∙ get_or-set_same plane (at / 64) new 0 (omega (arith, w.size)) ∙ word
            ∙ from_same 64 upto _ (λ b g. upto_in b (omega arith)) ∙ ap (λ (i : ℕ). from_bits (λ b. f (64 * i + b)) 64) (sym q)
        by j l (no q) = get_or-set_other plane (at / 64) j new 0 q ∙ w.words j (omega arith)

        next : x / 2 ^ (64 - at % 64) ≡ from_bits (λ b. f (64 * ((at + count) / 64) + b)) ((at + count) % 64)
        next =
            let k = (at + count) % 64 in
            let s = 64 - at % 64 in
            let c : k + s ≡ count = omega arith in
            from_bits_law k (x / 2 ^ s) _ (shr_lt k s (omega (arith, x_lt, ap (λ (i : ℕ). 2 ^ i) c))) (λ b. small (64 * ((at + count) / 64) + b))
            (λ b l.
            let p : at + (s + b) ≡ 64 * ((at + count) / 64) + b = omega arith in
            shr_bit s b x ∙ bit_x (s + b) (omega arith) ∙ ap f p)

  -- all of it is written, where f is 0 from the place on
  module _ {n at : ℕ} {plane : List ℕ} {rest : ℕ} (w : PlaneWritten f n at plane rest) (z : (p : ℕ) → at ≤ p → f p ≡ 0) (h : 64 * n < at + 64) where
    pub plane_ended : n ≤ at / 64 → plane ≡ tabulate (λ j. from_bits (λ b. f (64 * j + b)) 64) n
    plane_ended l = tabulated n _ plane w.size (λ j g. w.words j (omega arith))

    pub plane_rest : at / 64 < n → set plane (at / 64) rest ≡ tabulate (λ j. from_bits (λ b. f (64 * j + b)) 64) n
    plane_rest l = tabulated n _ (set plane (at / 64) rest) (length-set plane (at / 64) rest ∙ w.size) (λ j g. by j g (ℕ_discrete j (at / 64)))
      where
        by : (j : ℕ) → j < n → Dec (j ≡ at / 64) → get_or (set plane (at / 64) rest) j 0 ≡ from_bits (λ b. f (64 * j + b)) 64
        by j g (yes q) =
            ap (λ (i : ℕ). get_or (set plane (at / 64) rest) i 0) q ∙ get_or-set_same plane (at / 64) rest 0 (omega (arith, w.size)) ∙ w.begun
            ∙ sym (from_ended (at % 64) 64 (λ b. f (64 * (at / 64) + b)) (omega arith) (λ b k. z (64 * (at / 64) + b) (omega arith)))
            ∙ ap (λ (i : ℕ). from_bits (λ b. f (64 * i + b)) 64) (sym q)
        by j g (no q) = get_or-set_other plane (at / 64) j rest 0 q ∙ w.words j (omega arith)
