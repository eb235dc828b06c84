-- The two planes of a vector: reading what was written gives it back; the written planes have
-- no bit in both; planes with no bit in both are those of what they read. With them, 64 places of a plane as one word.
-- Assumes nothing.
use mathlib.Core.Path.{◌≡◌, refl, sym, ap, ap₂, ◌∙◌, subst, subst₂, fun_ext}
use mathlib.Core.List.{List}
use Prim.Native.Nat.{ℕ, zero, suc, ◌+◌, ◌-◌, ◌*◌, ◌/◌, ◌%◌, ◌^◌, ◌≤◌, ◌<◌}
use native.Mathlib.Nat.{mod-lt}
use native.Mathlib.Omega.{arith}
use native.Mathlib.Decide.{dec_lt}
use lib.ListN.{length, get_or, get_or-eq_default}
use lib.Bits.{bit_and, bit_or, and_lt, or_lt, and_comm, or_zero_r}
use lib.Dec.{lit<}
use lib.Pow.{pow_pos, shr_le}
use Rattle.trits.specs.Trit.{Trit, t0, t1, t2, neg_t, neg_v, number, one, two}
use Rattle.trits.specs.Planes.{bit, from_bits, trit, bit_at, trit_at, ones_of, twos_of, Apart, Row, Holds, Reads}
use Rattle.trits.proofs.Bits.{bit_and_law, bit_or_law, bit_lt, bit_none, bit_past, bits_eq, from_lt, bit_from, from_bits_law, shr_bit, bit_low, bit_high}
use Rattle.trits.proofs.Lists.{length_tabulate, get_d_tabulate, tabulated}

-- ---- a trit and its bits

pub one_lt : (x : Trit) → one x < 2
one_lt t0 = lit< tt
one_lt t1 = lit< tt
one_lt t2 = lit< tt

pub two_lt : (x : Trit) → two x < 2
two_lt t0 = lit< tt
two_lt t1 = lit< tt
two_lt t2 = lit< tt

pub trit_of_law : (x : Trit) → trit (one x) (two x) ≡ x
trit_of_law t0 = refl
trit_of_law t1 = refl
trit_of_law t2 = refl

-- two bits that are not both set are those of a trit
pub coded : (a b : ℕ) → a < 2 → b < 2 → bit_and a b ≡ 0 → (x : Trit) × (a ≡ one x) × (b ≡ two x)
coded zero zero p q e = (t0, refl, refl)
coded zero (suc zero) p q e = (t2, refl, refl)
coded zero (suc (suc b)) p q e = absurd (omega arith)
coded (suc zero) zero p q e = (t1, refl, refl)
coded (suc zero) (suc zero) p q e = absurd (omega arith)
coded (suc zero) (suc (suc b)) p q e = absurd (omega arith)
coded (suc (suc a)) b p q e = absurd (omega arith)

-- ---- a place by its word and its bit

module _ (j b : ℕ) (h : b < 64) where
  place_word : (64 * j + b) / 64 ≡ j
  place_word = omega arith

  place_bit : (64 * j + b) % 64 ≡ b
  place_bit = omega arith

  pub bit_at_place : (ws : List ℕ) → bit_at ws (64 * j + b) ≡ bit b (get_or ws j 0)
  unfolding bit_at
  bit_at_place ws = rw (place_word, place_bit)

  pub trit_at_place : (ones twos : List ℕ) → trit_at ones twos (64 * j + b) ≡ trit (bit b (get_or ones j 0)) (bit b (get_or twos j 0))
  unfolding trit_at
  trit_at_place ones twos = rw (bit_at_place ones, bit_at_place twos)

-- a place by its word q and its bit i
pub trit_at_word : (ones twos : List ℕ) (p q i : ℕ) → p / 64 ≡ q → p % 64 ≡ i → trit_at ones twos p ≡ trit (bit i (get_or ones q 0)) (bit i (get_or twos q 0))
unfolding trit_at bit_at
trit_at_word ones twos p q i e f = ap₂ (λ (x y : ℕ). trit (bit y (get_or ones x 0)) (bit y (get_or twos x 0))) e f

-- ---- the 64 places from place p on, as one word: what the word of p has from there to its end, and behind that the next word

module _ (ws : List ℕ) (p : ℕ) where
  abbrev rest : ℕ
  rest = get_or ws (p / 64) 0 / 2 ^ (p % 64)

  abbrev behind : ℕ
  behind = get_or ws (p / 64 + 1) 0 * 2 ^ (64 - p % 64) % 2 ^ 64

  place_lt : (k : ℕ) → bit_at ws (p + k) < 2
  unfolding bit_at
  place_lt k = bit_lt ((p + k) % 64) (get_or ws ((p + k) / 64) 0)

  -- up to the word's end
  pub bits_within : (k : ℕ) → p % 64 + k < 64 → bit k rest ≡ bit_at ws (p + k)
  bits_within k h =
      shr_bit (p % 64) k (get_or ws (p / 64) 0) ∙ sym (bit_at_place (p / 64) (p % 64 + k) h ws) ∙ ap (bit_at ws) (omega arith)

  module _ (fits : get_or ws (p / 64) 0 < 2 ^ 64) where
    rest_lt : rest < 2 ^ 64
    rest_lt = omega (arith, shr_le (get_or ws (p / 64) 0) (p % 64))

    -- past it there is nothing
    rest_past : (k : ℕ) → 64 ≤ p % 64 + k → bit k rest ≡ 0
    rest_past k h = shr_bit (p % 64) k (get_or ws (p / 64) 0) ∙ bit_past 64 (p % 64 + k) (get_or ws (p / 64) 0) fits h

    -- over the word's end
    pub bits_across : 0 < p % 64 → (k : ℕ) → k < 64 → bit k (bit_or rest behind) ≡ bit_at ws (p + k)
    bits_across some k l = bit_or_law k rest behind ∙ at (dec_lt (p % 64 + k) 64)
      where
        next : ℕ
        next = get_or ws (p / 64 + 1) 0

        at : Dec (p % 64 + k < 64) → bit_or (bit k rest) (bit k behind) ≡ bit_at ws (p + k)
        at (yes d) = ap (bit_or (bit k rest)) (bit_low next (64 - p % 64) k l (omega arith)) ∙ or_zero_r (bit k rest) ∙ bits_within k d
        at (no d) =
            let e : 64 * (p / 64 + 1) + (k - (64 - p % 64)) ≡ p + k = omega arith in
            ap₂ bit_or (rest_past k (omega arith))
            (bit_high next (64 - p % 64) k l (omega arith) ∙ sym (bit_at_place (p / 64 + 1) (k - (64 - p % 64)) (omega arith) ws))
            ∙ ap (bit_at ws) e

    -- behind the last word there is 0
    bits_last : length ws ≤ p / 64 + 1 → (k : ℕ) → Dec (p % 64 + k < 64) → bit k rest ≡ bit_at ws (p + k)
    unfolding bit_at
    bits_last e k (yes d) = bits_within k d
    bits_last e k (no d) =
        rest_past k (omega arith) ∙ sym (ap (bit ((p + k) % 64)) (get_or-eq_default ws 0 (omega arith)) ∙ bit_none ((p + k) % 64))

    -- all 64 stand in one word, or in the last, or in two
    pub word_within : p % 64 ≡ 0 → rest ≡ from_bits (λ b. bit_at ws (p + b)) 64
    word_within z = from_bits_law 64 rest _ rest_lt place_lt (λ k l. bits_within k (omega arith))

    pub word_last : length ws ≤ p / 64 + 1 → rest ≡ from_bits (λ b. bit_at ws (p + b)) 64
    word_last e = from_bits_law 64 rest _ rest_lt place_lt (λ k l. bits_last e k (dec_lt (p % 64 + k) 64))

    pub word_across : 0 < p % 64 → bit_or rest behind ≡ from_bits (λ b. bit_at ws (p + b)) 64
    word_across some = from_bits_law 64 (bit_or rest behind) _ (or_lt 64 rest behind rest_lt (mod-lt _ (pow_pos 64))) place_lt (bits_across some)

-- the bits of such a word
pub word_bit : (ws : List ℕ) (p k : ℕ) → k < 64 → bit k (from_bits (λ b. bit_at ws (p + b)) 64) ≡ bit_at ws (p + k)
word_bit ws p k h = bit_from 64 _ (place_lt ws p) k h

-- of two planes that are apart, two such words have no bit in both
pub words_apart : {ones twos : List ℕ} (p : ℕ) → Apart ones twos
    → bit_and (from_bits (λ b. bit_at ones (p + b)) 64) (from_bits (λ b. bit_at twos (p + b)) 64) ≡ 0
unfolding bit_at
words_apart {ones} {twos} p a =
    bits_eq 64 _ 0 (and_lt 64 _ _ (from_lt 64 _ (place_lt ones p)) (from_lt 64 _ (place_lt twos p))) (pow_pos 64)
    (λ k h. bit_and_law k _ _ ∙ ap₂ bit_and (word_bit ones p k h) (word_bit twos p k h) ∙ at (p + k) ∙ sym (bit_none k))
  where
    at : (q : ℕ) → bit_and (bit_at ones q) (bit_at twos q) ≡ 0
    at q = sym (bit_and_law (q % 64) (get_or ones (q / 64) 0) (get_or twos (q / 64) 0)) ∙ ap (bit (q % 64)) (a.word (q / 64)) ∙ bit_none (q % 64)

-- ---- the written planes

pub length_ones : (v : ℕ → Trit) (n : ℕ) → length (ones_of v n) ≡ n
unfolding ones_of
length_ones v n = length_tabulate n _

pub length_twos : (v : ℕ → Trit) (n : ℕ) → length (twos_of v n) ≡ n
unfolding twos_of
length_twos v n = length_tabulate n _

pub ones_bit : (v : ℕ → Trit) (n i : ℕ) → i < 64 * n → bit_at (ones_of v n) i ≡ one (v i)
unfolding ones_of bit_at
ones_bit v n i h =
    ap (bit (i % 64)) (get_d_tabulate n _ (i / 64) 0 (omega arith))
    ∙ bit_from 64 _ (λ b. one_lt (v (64 * (i / 64) + b))) (i % 64) (omega arith)
    ∙ ap (λ (k : ℕ). one (v k)) (omega arith)

pub twos_bit : (v : ℕ → Trit) (n i : ℕ) → i < 64 * n → bit_at (twos_of v n) i ≡ two (v i)
unfolding twos_of bit_at
twos_bit v n i h =
    ap (bit (i % 64)) (get_d_tabulate n _ (i / 64) 0 (omega arith))
    ∙ bit_from 64 _ (λ b. two_lt (v (64 * (i / 64) + b))) (i % 64) (omega arith)
    ∙ ap (λ (k : ℕ). two (v k)) (omega arith)

-- reading what was written
pub read_written : (v : ℕ → Trit) (n i : ℕ) → i < 64 * n → trit_at (ones_of v n) (twos_of v n) i ≡ v i
unfolding trit_at
read_written v n i h = ap₂ trit (ones_bit v n i h) (twos_bit v n i h) ∙ trit_of_law (v i)

-- past the words there is nothing
pub read_past : (ones twos : List ℕ) (n i : ℕ) → length ones ≡ n → length twos ≡ n → 64 * n ≤ i → trit_at ones twos i ≡ t0
unfolding trit_at bit_at
read_past ones twos n i p q h =
    ap₂ (λ (x y : ℕ). trit (bit (i % 64) x) (bit (i % 64) y)) (get_or-eq_default ones 0 (omega arith)) (get_or-eq_default twos 0 (omega arith))
    ∙ ap (λ (x : ℕ). trit x x) (bit_none (i % 64))

pub and_one_two : (x : Trit) → bit_and (one x) (two x) ≡ 0
and_one_two t0 = refl
and_one_two t1 = refl
and_one_two t2 = refl

pub written_apart : (v : ℕ → Trit) (n : ℕ) → Apart (ones_of v n) (twos_of v n)
unfolding ones_of twos_of
written_apart v n = record { word = λ j. by j (dec_lt j n) }
  where
    o : ℕ → ℕ
    o j = from_bits (λ b. one (v (64 * j + b))) 64

    w : ℕ → ℕ
    w j = from_bits (λ b. two (v (64 * j + b))) 64

    by : (j : ℕ) → Dec (j < n) → bit_and (get_or (ones_of v n) j 0) (get_or (twos_of v n) j 0) ≡ 0
    by j (yes l) =
        rw (get_d_tabulate n _ j 0 l, get_d_tabulate n _ j 0 l)
        (bits_eq 64 (bit_and (o j) (w j)) 0 (and_lt 64 (o j) (w j) (from_lt 64 _ (λ b. one_lt (v (64 * j + b)))) (from_lt 64 _ (λ b. two_lt (v (64 * j + b)))))
        (lit< tt)
        (λ i h. bit_and_law i (o j) (w j)
        ∙ ap₂ bit_and (bit_from 64 _ (λ b. one_lt (v (64 * j + b))) i h) (bit_from 64 _ (λ b. two_lt (v (64 * j + b))) i h)
        ∙ and_one_two (v (64 * j + i)) ∙ sym (bit_none i)))
    by j (no f) = ap (λ (x : ℕ). bit_and x (get_or (twos_of v n) j 0))
        (get_or-eq_default (ones_of v n) 0 (omega (arith, length_tabulate n (λ j. from_bits (λ b. one (v (64 * j + b))) 64))))

-- ---- the word j of the planes of v, from its bits

pub ones_word_law : (v : ℕ → Trit) (j x : ℕ) → x < 2 ^ 64 → ((b : ℕ) → b < 64 → bit b x ≡ one (v (64 * j + b))) → x ≡ from_bits (λ b. one (v (64 * j + b))) 64
ones_word_law v j x h e = from_bits_law 64 x _ h (λ b. one_lt (v (64 * j + b))) e

pub twos_word_law : (v : ℕ → Trit) (j x : ℕ) → x < 2 ^ 64 → ((b : ℕ) → b < 64 → bit b x ≡ two (v (64 * j + b))) → x ≡ from_bits (λ b. two (v (64 * j + b))) 64
twos_word_law v j x h e = from_bits_law 64 x _ h (λ b. two_lt (v (64 * j + b))) e

-- the bits at a place of planes that are apart are those of a trit, the one that is read there
pub coded_at : (ones twos : List ℕ) → Apart ones twos → (j b : ℕ) → b < 64
    → (bit b (get_or ones j 0) ≡ one (trit_at ones twos (64 * j + b))) × (bit b (get_or twos j 0) ≡ two (trit_at ones twos (64 * j + b)))
coded_at ones twos a j b h =
    let o : ℕ = bit b (get_or ones j 0) in
    let w : ℕ = bit b (get_or twos j 0) in
    let e : bit_and o w ≡ 0 = sym (bit_and_law b (get_or ones j 0) (get_or twos j 0)) ∙ ap (bit b) (a.word j) ∙ bit_none b in
    let c = coded o w (bit_lt b (get_or ones j 0)) (bit_lt b (get_or twos j 0)) e in
    let t : trit_at ones twos (64 * j + b) ≡ c.0 = trit_at_place j b h ones twos ∙ ap₂ trit c.1 c.2 ∙ trit_of_law c.0 in
    (c.1 ∙ ap one (sym t), c.2 ∙ ap two (sym t))

-- the number of a trit, from its bits
pub number_bits : (x : Trit) → one x + 2 * two x ≡ number x
number_bits t0 = refl
number_bits t1 = refl
number_bits t2 = refl

-- and of the one that is read at a place
pub number_at : {ones twos : List ℕ} (p : ℕ) → Row ones twos → bit_at ones p + 2 * bit_at twos p ≡ number (trit_at ones twos p)
unfolding bit_at
number_at {ones} {twos} p r =
    let c = coded_at ones twos r.apart (p / 64) (p % 64) (omega arith) in
    ap₂ (λ (a b : ℕ). a + 2 * b) c.0 c.1 ∙ number_bits (trit_at ones twos (64 * (p / 64) + p % 64))
    ∙ ap (λ (q : ℕ). number (trit_at ones twos q)) (omega arith)

-- planes that are apart are those of the vector that they read: so they are determined by their trits
pub read_holds : (ones twos : List ℕ) (n : ℕ) → Row ones twos → length ones ≡ n → ((j : ℕ) → get_or ones j 0 < 2 ^ 64) → ((j : ℕ) → get_or twos j 0 < 2 ^ 64)
    → Holds ones twos n (trit_at ones twos)
unfolding ones_of twos_of
read_holds ones twos n r l ho hw = record {
  ones_are = tabulated n _ ones l (λ j _. ones_word_law (trit_at ones twos) j (get_or ones j 0) (ho j) (λ b h. (coded_at ones twos r.apart j b h).0));
  twos_are = tabulated n _ twos (r.same ∙ l) (λ j _.
      twos_word_law (trit_at ones twos) j (get_or twos j 0) (hw j) (λ b h. (coded_at ones twos r.apart j b h).1));
}

-- planes that read as v are those of v
pub reads_holds : (ones twos : List ℕ) (n : ℕ) (v : ℕ → Trit) → Reads ones twos n v → ((j : ℕ) → get_or ones j 0 < 2 ^ 64) →
    ((j : ℕ) → get_or twos j 0 < 2 ^ 64)
    → Holds ones twos n v
reads_holds ones twos n v r ho hw = subst (λ (f : ℕ → Trit). Holds ones twos n f) r.trits (read_holds ones twos n r.row r.size ho hw)

-- planes that read as u read as what equals it
pub reads_to : {ones twos : List ℕ} {n : ℕ} {u v : ℕ → Trit} → Reads ones twos n u → u ≡ v → Reads ones twos n v
reads_to r e = record { row = r.row; size = r.size; trits = r.trits ∙ e }

-- the words of planes that read as v, where there are n of them
pub reads_words : {ones twos : List ℕ} {k n : ℕ} {v : ℕ → Trit} → Reads ones twos k v → k ≡ n → ((j : ℕ) → get_or ones j 0 < 2 ^ 64)
    → ((j : ℕ) → get_or twos j 0 < 2 ^ 64) → Holds ones twos n v
reads_words {ones} {twos} {k} {n} {v} r e ho hw = reads_holds ones twos n v (record { row = r.row; size = r.size ∙ e; trits = r.trits }) ho hw

-- so two pairs of planes that read alike are the same words
pub same_words : {o t o' t' : List ℕ} {n : ℕ} {v : ℕ → Trit} → Holds o t n v → Holds o' t' n v → (o ≡ o') × (t ≡ t')
same_words h g = (h.ones_are ∙ sym g.ones_are, h.twos_are ∙ sym g.twos_are)

-- and planes that are those of v read as v, where v is 0 past the words
pub holds_reads : (ones twos : List ℕ) (n : ℕ) (v : ℕ → Trit) → ((i : ℕ) → 64 * n ≤ i → v i ≡ t0) → Holds ones twos n v → Reads ones twos n v
holds_reads ones twos n v z h =
    let lo : length ones ≡ n = ap length h.ones_are ∙ length_ones v n in
    let lt : length twos ≡ n = ap length h.twos_are ∙ length_twos v n in
    record {
      row = record { same = lt ∙ sym lo; apart = subst₂ Apart (sym h.ones_are) (sym h.twos_are) (written_apart v n) };
      size = lo;
      trits = fun_ext (λ i. by i lo lt (dec_lt i (64 * n)));
    }
  where
    by : (i : ℕ) → length ones ≡ n → length twos ≡ n → Dec (i < 64 * n) → trit_at ones twos i ≡ v i
    by i lo lt (yes l) = ap₂ (λ (a b : List ℕ). trit_at a b i) h.ones_are h.twos_are ∙ read_written v n i l
    by i lo lt (no f) = read_past ones twos n i lo lt (omega arith) ∙ sym (z i (omega arith))

-- ---- planes exchanged

pub row_exchanged : {o t : List ℕ} → Row o t → Row t o
row_exchanged {o} {t} r = record { same = sym r.same; apart = record { word = λ j. and_comm (get_or t j 0) (get_or o j 0) ∙ r.apart.word j } }

exchanged_trit : (x : Trit) → trit (two x) (one x) ≡ neg_t x
exchanged_trit t0 = refl
exchanged_trit t1 = refl
exchanged_trit t2 = refl

-- a row with its planes exchanged is its negative
pub read_exchanged : {o t : List ℕ} → Row o t → trit_at t o ≡ neg_v (trit_at o t)
unfolding trit_at bit_at
read_exchanged {o} {t} r = fun_ext (λ i.
    let a = get_or o (i / 64) 0 in
    let b = get_or t (i / 64) 0 in
    let k = i % 64 in
    let c = coded (bit k a) (bit k b) (bit_lt k a) (bit_lt k b) (sym (bit_and_law k a b) ∙ ap (bit k) (r.apart.word (i / 64)) ∙ bit_none k) in
    ap₂ (λ (x y : ℕ). trit y x) c.1 c.2 ∙ exchanged_trit c.0 ∙ ap neg_t (sym (ap₂ trit c.1 c.2 ∙ trit_of_law c.0)))
