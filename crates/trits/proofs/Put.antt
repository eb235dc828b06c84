-- One place: what is read there, a word with one bit changed, and the vector after a place was written. Assumes nothing.
use mathlib.Core.Path.{◌≡◌, refl, sym, ap, ap₂, ◌∙◌, fun_ext}
use mathlib.Core.Logic.{◌≢◌}
use mathlib.Core.Bool.{Bool, true, false, cond}
use mathlib.Core.List.{List}
use Prim.Native.Nat.{ℕ, zero, suc, ◌*◌, ◌/◌, ◌%◌, ◌^◌, ◌<◌}
use native.Mathlib.Nat.{pow-suc}
use native.Mathlib.Decide.{ℕ_discrete}
use native.Mathlib.Omega.{arith}
use borrow.Author.Tests.{eq-eqb, ne_eqb}
use lib.ListN.{length, get_or, set, length-set}
use lib.Seq.{get_or-set_same, get_or-set_other}
use lib.Dec.{eqb, lit<}
use lib.Bits.{bit_and, bit_or, bit_xor, and_mask, and_lt, or_lt, xor_lt, and_zero_r, or_zero_r, xor_zero_r}
use lib.Pow.{pow-lt}
use Rattle.trits.specs.Trit.{Trit, number, trit_of, put_v, one, two}
use Rattle.trits.specs.Planes.{bit, trit, bit_at, trit_at, with_bit, Row, Reads}
use Rattle.trits.proofs.Bits.{bit_and_law, bit_or_law, bit_xor_law, bit_lt, bit_none, bit_first}
use Rattle.trits.proofs.Bits.{bit_next, from_bits_law, from_lt, bit_from, bits_eq, one_shifted}
use Rattle.trits.proofs.Reading.{one_lt, two_lt, trit_of_law, and_one_two}

-- ---- what is read

-- `w >> b & 1`
pub low_bit : (b w : ℕ) → bit_and (w / 2 ^ b) 1 ≡ bit b w
unfolding bit
low_bit b w = and_mask (w / 2 ^ b) 1

is_one : (a b : ℕ) → (a ≡ 0 → ⊥) → 1 ≡ number (trit a b)
is_one zero b f = absurd (f refl)
is_one (suc a) b f = refl

is_two : (a b : ℕ) → a ≡ 0 → (b ≡ 0 → ⊥) → 2 ≡ number (trit a b)
is_two zero zero e f = absurd (f refl)
is_two zero (suc b) e f = refl
is_two (suc a) b e f = absurd (omega arith)

is_none : (a b : ℕ) → a ≡ 0 → b ≡ 0 → 0 ≡ number (trit a b)
is_none a b e f = sym (ap₂ (λ (x y : ℕ). number (trit x y)) e f)

module _ (os ts : List ℕ) (i : ℕ) where
  o : bit_and (get_or os (i / 64) 0 / 2 ^ (i % 64)) 1 ≡ bit (i % 64) (get_or os (i / 64) 0)
  o = low_bit (i % 64) (get_or os (i / 64) 0)

  t : bit_and (get_or ts (i / 64) 0 / 2 ^ (i % 64)) 1 ≡ bit (i % 64) (get_or ts (i / 64) 0)
  t = low_bit (i % 64) (get_or ts (i / 64) 0)

  pub reads_one : (bit_and (get_or os (i / 64) 0 / 2 ^ (i % 64)) 1 ≡ 0 → ⊥) → 1 ≡ number (trit_at os ts i)
  unfolding trit_at bit_at
  reads_one f = is_one (bit_at os i) (bit_at ts i) (λ e. f (o ∙ e))

  pub reads_two : bit_and (get_or os (i / 64) 0 / 2 ^ (i % 64)) 1 ≡ 0 → (bit_and (get_or ts (i / 64) 0 / 2 ^ (i % 64)) 1 ≡ 0 → ⊥) → 2 ≡ number (trit_at os ts i)
  unfolding trit_at bit_at
  reads_two z f = is_two (bit_at os i) (bit_at ts i) (sym o ∙ z) (λ e. f (t ∙ e))

  pub reads_none : bit_and (get_or os (i / 64) 0 / 2 ^ (i % 64)) 1 ≡ 0 → bit_and (get_or ts (i / 64) 0 / 2 ^ (i % 64)) 1 ≡ 0 → 0 ≡ number (trit_at os ts i)
  unfolding trit_at bit_at
  reads_none z y = is_none (bit_at os i) (bit_at ts i) (sym o ∙ z) (sym t ∙ y)

-- ---- a word with one bit changed

pub bit_pow_same : (b : ℕ) → bit b (2 ^ b) ≡ 1
unfolding bit
bit_pow_same zero = refl
bit_pow_same (suc b) = bit_next b (2 ^ suc b) ∙ ap (bit b) (omega (arith, pow-suc 2 b)) ∙ bit_pow_same b

pub bit_pow_other : (k b : ℕ) → k ≢ b → bit k (2 ^ b) ≡ 0
bit_pow_other zero zero f = absurd (f refl)
bit_pow_other zero (suc b) f = bit_first (2 ^ suc b) ∙ omega (arith, pow-suc 2 b)
bit_pow_other (suc k) zero f = bit_next k 1 ∙ bit_none k
bit_pow_other (suc k) (suc b) f = bit_next k (2 ^ suc b) ∙ ap (bit k) (omega (arith, pow-suc 2 b)) ∙ bit_pow_other k b (λ e. f (ap suc e))

or_one : (a : ℕ) → a < 2 → bit_or a 1 ≡ 1
or_one zero h = refl
or_one (suc zero) h = refl
or_one (suc (suc a)) h = absurd (omega arith)

clear_one : (a : ℕ) → a < 2 → bit_xor a (bit_and a 1) ≡ 0
clear_one zero h = refl
clear_one (suc zero) h = refl
clear_one (suc (suc a)) h = absurd (omega arith)

-- the digit that `with_bit` puts at k
chosen_lt : (k b c w : ℕ) → c < 2 → cond (eqb k b) c (bit k w) < 2
chosen_lt k b c w h = go (eqb k b)
  where
    go : (t : Bool) → cond t c (bit k w) < 2
    go true = h
    go false = bit_lt k w

chosen_same : (k b c w : ℕ) → k ≡ b → cond (eqb k b) c (bit k w) ≡ c
chosen_same k b c w e = ap (λ (t : Bool). cond t c (bit k w)) (eq-eqb k b e)

chosen_other : (k b c w : ℕ) → k ≢ b → cond (eqb k b) c (bit k w) ≡ bit k w
chosen_other k b c w f = ap (λ (t : Bool). cond t c (bit k w)) (ne_eqb k b f)

module _ (b w : ℕ) (hb : b < 64) (hw : w < 2 ^ 64) where
  pub with_on : bit_or w ((1 * 2 ^ b) % 2 ^ 64) ≡ with_bit b 1 w
  unfolding with_bit
  with_on = ap (bit_or w) (one_shifted b hb)
      ∙ from_bits_law 64 (bit_or w (2 ^ b)) _ (or_lt 64 w (2 ^ b) hw (pow-lt hb)) (λ k. chosen_lt k b 1 w (lit< tt))
      (λ k l. bit_or_law k w (2 ^ b) ∙ at k (ℕ_discrete k b))
    where
      at : (k : ℕ) → Dec (k ≡ b) → bit_or (bit k w) (bit k (2 ^ b)) ≡ cond (eqb k b) 1 (bit k w)
      at k (yes e) = ap (bit_or (bit k w)) (ap (λ (x : ℕ). bit x (2 ^ b)) e ∙ bit_pow_same b) ∙ or_one (bit k w) (bit_lt k w) ∙ sym (chosen_same k b 1 w e)
      at k (no f) = ap (bit_or (bit k w)) (bit_pow_other k b f) ∙ or_zero_r (bit k w) ∙ sym (chosen_other k b 1 w f)

  pub with_off : bit_xor w (bit_and w ((1 * 2 ^ b) % 2 ^ 64)) ≡ with_bit b 0 w
  unfolding with_bit
  with_off =
      ap (λ (x : ℕ). bit_xor w (bit_and w x)) (one_shifted b hb)
      ∙ from_bits_law 64 (bit_xor w (bit_and w (2 ^ b))) _ (xor_lt 64 w (bit_and w (2 ^ b)) hw (and_lt 64 w (2 ^ b) hw (pow-lt hb))) (λ k.
      chosen_lt k b 0 w (lit< tt))
      (λ k l. bit_xor_law k w (bit_and w (2 ^ b)) ∙ ap (bit_xor (bit k w)) (bit_and_law k w (2 ^ b)) ∙ at k (ℕ_discrete k b))
    where
      at : (k : ℕ) → Dec (k ≡ b) → bit_xor (bit k w) (bit_and (bit k w) (bit k (2 ^ b))) ≡ cond (eqb k b) 0 (bit k w)
      at k (yes e) =
          ap (λ (x : ℕ). bit_xor (bit k w) (bit_and (bit k w) x)) (ap (λ (x : ℕ). bit x (2 ^ b)) e ∙ bit_pow_same b)
          ∙ clear_one (bit k w) (bit_lt k w) ∙ sym (chosen_same k b 0 w e)
      at k (no f) =
          ap (λ (x : ℕ). bit_xor (bit k w) (bit_and (bit k w) x)) (bit_pow_other k b f) ∙ ap (bit_xor (bit k w)) (and_zero_r (bit k w)) ∙ xor_zero_r (bit k w)
          ∙ sym (chosen_other k b 0 w f)

pub one_of : (t : ℕ) → t < 3 → cond (eqb t 1) 1 0 ≡ one (trit_of t)
one_of zero h = refl
one_of (suc zero) h = refl
one_of (suc (suc zero)) h = refl
one_of (suc (suc (suc t))) h = absurd (omega arith)

pub two_of : (t : ℕ) → t < 3 → cond (eqb t 2) 1 0 ≡ two (trit_of t)
two_of zero h = refl
two_of (suc zero) h = refl
two_of (suc (suc zero)) h = refl
two_of (suc (suc (suc t))) h = absurd (omega arith)

-- the bits of the changed word
pub with_bit_law : (b c w k : ℕ) → c < 2 → k < 64 → bit k (with_bit b c w) ≡ cond (eqb k b) c (bit k w)
unfolding with_bit
with_bit_law b c w k h l = bit_from 64 _ (λ n. chosen_lt n b c w h) k l

pub with_lt : (b c w : ℕ) → c < 2 → with_bit b c w < 2 ^ 64
unfolding with_bit
with_lt b c w h = from_lt 64 _ (λ n. chosen_lt n b c w h)

-- ---- the vector after a place was written

pub bit_at_put : (ws : List ℕ) (i c j : ℕ) → i < 64 * length ws → c < 2
    → bit_at (set ws (i / 64) (with_bit (i % 64) c (get_or ws (i / 64) 0))) j ≡ cond (eqb j i) c (bit_at ws j)
unfolding bit_at with_bit
bit_at_put ws i c j l h = by (ℕ_discrete j i) (ℕ_discrete (j / 64) (i / 64))
  where
    w : ℕ
    w = get_or ws (i / 64) 0

    here : (k : ℕ) → k < 64 → bit k (get_or (set ws (i / 64) (with_bit (i % 64) c w)) (i / 64) 0) ≡ cond (eqb k (i % 64)) c (bit k w)
    here k m = ap (bit k) (get_or-set_same ws (i / 64) (with_bit (i % 64) c w) 0 (omega arith)) ∙ bit_from 64 _ (λ n. chosen_lt n (i % 64) c w h) k m

    by : Dec (j ≡ i) → Dec (j / 64 ≡ i / 64)
        → bit (j % 64) (get_or (set ws (i / 64) (with_bit (i % 64) c w)) (j / 64) 0) ≡ cond (eqb j i) c (bit (j % 64) (get_or ws (j / 64) 0))
    by (yes e) d =
        ap (λ (n : ℕ). bit (n % 64) (get_or (set ws (i / 64) (with_bit (i % 64) c w)) (n / 64) 0)) e ∙ here (i % 64) (omega arith)
        ∙ chosen_same (i % 64) (i % 64) c w refl
        ∙ sym (ap (λ (t : Bool). cond t c (bit (j % 64) (get_or ws (j / 64) 0))) (eq-eqb j i e))
    by (no f) (yes e) =
        ap (λ (n : ℕ). bit (j % 64) (get_or (set ws (i / 64) (with_bit (i % 64) c w)) n 0)) e ∙ here (j % 64) (omega arith)
        ∙ chosen_other (j % 64) (i % 64) c w (omega arith) ∙ ap (λ (n : ℕ). bit (j % 64) (get_or ws n 0)) (sym e)
        ∙ sym (ap (λ (t : Bool). cond t c (bit (j % 64) (get_or ws (j / 64) 0))) (ne_eqb j i f))
    by (no f) (no g) =
        ap (bit (j % 64)) (get_or-set_other ws (i / 64) (j / 64) (with_bit (i % 64) c w) 0 g)
        ∙ sym (ap (λ (t : Bool). cond t c (bit (j % 64) (get_or ws (j / 64) 0))) (ne_eqb j i f))

trit_cond : (t : Bool) (x : Trit) (a b : ℕ) → trit (cond t (one x) a) (cond t (two x) b) ≡ cond t x (trit a b)
trit_cond true x a b = trit_of_law x
trit_cond false x a b = refl

pub read_put : (os ts : List ℕ) (i : ℕ) (x : Trit) (j : ℕ) → i < 64 * length os → i < 64 * length ts
    → trit_at (set os (i / 64) (with_bit (i % 64) (one x) (get_or os (i / 64) 0))) (set ts (i / 64) (with_bit (i % 64) (two x) (get_or ts (i / 64) 0))) j
    ≡ put_v (trit_at os ts) i x j
unfolding trit_at
read_put os ts i x j lo lt =
    ap₂ trit (bit_at_put os i (one x) j lo (one_lt x)) (bit_at_put ts i (two x) j lt (two_lt x)) ∙ trit_cond (eqb j i) x (bit_at os j) (bit_at ts j)

-- the planes after a place was written can be read
pub put_reads : {os ts : List ℕ} (i : ℕ) (x : Trit) → Row os ts → i < 64 * length os
    → Reads (set os (i / 64) (with_bit (i % 64) (one x) (get_or os (i / 64) 0))) (set ts (i / 64) (with_bit (i % 64) (two x) (get_or ts (i / 64) 0)))
    (length os)
    (put_v (trit_at os ts) i x)
put_reads {os} {ts} i x r lo =
    let lt : i < 64 * length ts = omega (arith, r.same) in
    record {
      row = record {
        same = length-set ts (i / 64) _ ∙ r.same ∙ sym (length-set os (i / 64) _);
        apart = record { word = λ j. by j (ℕ_discrete j (i / 64)) };
      };
      size = length-set os (i / 64) _;
      trits = fun_ext (λ j. read_put os ts i x j lo lt);
    }
  where
    o : ℕ
    o = get_or os (i / 64) 0

    t : ℕ
    t = get_or ts (i / 64) 0

    digit : (k : ℕ) → bit_and (cond (eqb k (i % 64)) (one x) (bit k o)) (cond (eqb k (i % 64)) (two x) (bit k t)) ≡ 0
    digit k = go (eqb k (i % 64))
      where
        go : (b : Bool) → bit_and (cond b (one x) (bit k o)) (cond b (two x) (bit k t)) ≡ 0
        go true = and_one_two x
        go false = sym (bit_and_law k o t) ∙ ap (bit k) (r.apart.word (i / 64)) ∙ bit_none k

    by : (j : ℕ) → Dec (j ≡ i / 64)
        → bit_and (get_or (set os (i / 64) (with_bit (i % 64) (one x) o)) j 0) (get_or (set ts (i / 64) (with_bit (i % 64) (two x) t)) j 0) ≡ 0
    by j (yes e) =
        let a = with_bit (i % 64) (one x) o in
        let b = with_bit (i % 64) (two x) t in
        ap₂ bit_and (ap (λ (k : ℕ). get_or (set os (i / 64) a) k 0) e ∙ get_or-set_same os (i / 64) a 0 (omega arith))
        (ap (λ (k : ℕ). get_or (set ts (i / 64) b) k 0) e ∙ get_or-set_same ts (i / 64) b 0 (omega (arith, r.same)))
        ∙ bits_eq 64 (bit_and a b) 0 (and_lt 64 a b (with_lt (i % 64) (one x) o (one_lt x)) (with_lt (i % 64) (two x) t (two_lt x))) (lit< tt)
        (λ k h. bit_and_law k a b ∙ ap₂ bit_and (with_bit_law (i % 64) (one x) o k (one_lt x) h) (with_bit_law (i % 64) (two x) t k (two_lt x) h) ∙ digit k
        ∙ sym (bit_none k))
    by j (no f) = ap₂ bit_and (get_or-set_other os (i / 64) j _ 0 f) (get_or-set_other ts (i / 64) j _ 0 f) ∙ r.apart.word j

-- the planes when both words are stored
pub put_words_law : {os ts : List ℕ} {a b : ℕ} (i t : ℕ) → Row os ts → i < 64 * length os → t < 3
    → a ≡ with_bit (i % 64) (cond (eqb t 1) 1 0) (get_or os (i / 64) 0) → b ≡ with_bit (i % 64) (cond (eqb t 2) 1 0) (get_or ts (i / 64) 0)
    → Reads (set os (i / 64) a) (set ts (i / 64) b) (length os) (put_v (trit_at os ts) i (trit_of t))
put_words_law {os} {ts} {a} {b} i t r l h p q =
    let x = p ∙ ap (λ (n : ℕ). with_bit (i % 64) n (get_or os (i / 64) 0)) (one_of t h) in
    let y = q ∙ ap (λ (n : ℕ). with_bit (i % 64) n (get_or ts (i / 64) 0)) (two_of t h) in
    rw (x, y) (put_reads i (trit_of t) r l)
