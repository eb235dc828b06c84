-- Counts of set bits, word by word, as sums over places; ones and twos add up to the weight. Assumes nothing.
use mathlib.Core.Path.{◌≡◌, refl, sym, ap, ap₂, ◌∙◌}
use mathlib.Core.List.{List}
use Prim.Native.Nat.{ℕ, zero, suc, ◌+◌, ◌*◌, ◌/◌, ◌^◌, ◌≤◌, ◌<◌, zero-le}
use native.Mathlib.Nat.{add-zero, add-suc, le_refl}
use native.Mathlib.Omega.{arith}
use lib.ListN.{get_or}
use lib.Arith.{lt-one}
use lib.Bits.{bit_or, or_lt}
use lib.Count.{ones, ones_step, ones-le}
use mir.Syntax.{w64}
use mir.Val.{Fits}
use Rattle.trits.specs.Trit.{Trit, t0, t1, t2, non_zero, one, two, sum_to, weight_v, ones_v, twos_v, counts_v, sum_of}
use Rattle.trits.specs.Planes.{bit, trit, trit_at, Apart}
use Rattle.trits.proofs.Bits.{bit_or_law, bit_lt, bit_first, bit_next, half_lt}
use Rattle.trits.proofs.Reading.{trit_at_place, coded_at}
use Rattle.trits.proofs.Counted.{same_counts, one_or_two}

pub sum_cong : (k : ℕ) (f g : ℕ → ℕ) → ((i : ℕ) → i < k → f i ≡ g i) → sum_to f k ≡ sum_to g k
unfolding sum_to
sum_cong zero f g e = refl
sum_cong (suc k) f g e = ap₂ (λ (x y : ℕ). x + y) (sum_cong k f g (λ i l. e i (omega arith))) (e k (le_refl (suc k)))

-- vectors that agree below k
pub weight_same : (k : ℕ) (u v : ℕ → Trit) → ((i : ℕ) → i < k → u i ≡ v i) → weight_v u k ≡ weight_v v k
weight_same k u v h = sum_cong k (λ i. non_zero (u i)) (λ i. non_zero (v i)) (λ i l. ap non_zero (h i l))

pub counts_same : (k : ℕ) (u v : ℕ → Trit) → ((i : ℕ) → i < k → u i ≡ v i) → counts_v u k ≡ counts_v v k
counts_same k u v h = same_counts (sum_cong k _ _ (λ i l. ap one (h i l))) (sum_cong k _ _ (λ i l. ap two (h i l)))

pub sum_add : (a k : ℕ) (f : ℕ → ℕ) → sum_to f (a + k) ≡ sum_to f a + sum_to (λ i. f (a + i)) k
unfolding sum_to
sum_add a zero f = ap (sum_to f) (add-zero a) ∙ sym (add-zero (sum_to f a))
sum_add a (suc k) f = ap (sum_to f) (add-suc a k) ∙ omega (arith, sum_add a k f)

pub sum_first : (k : ℕ) (f : ℕ → ℕ) → sum_to f (suc k) ≡ f 0 + sum_to (λ i. f (suc i)) k
unfolding sum_to
sum_first zero f = omega arith
sum_first (suc k) f = omega (arith, sum_first k f)

pub sum_le : (k c : ℕ) (f : ℕ → ℕ) → ((i : ℕ) → f i ≤ c) → sum_to f k ≤ c * k
unfolding sum_to
sum_le zero c f h = zero-le
sum_le (suc k) c f h = omega (arith, sum_le k c f h, h k)

-- a number of k bits has as many set as its bits add up to
pub ones_sum : (k n : ℕ) → n < 2 ^ k → ones n ≡ sum_to (λ i. bit i n) k
unfolding sum_to ones
ones_sum zero n h = ap ones (lt-one h)
ones_sum (suc k) n h =
    ones_step n
    ∙ ap₂ (λ (x y : ℕ). x + y) (sym (bit_first n)) (ones_sum k (n / 2) (half_lt k n h) ∙ sum_cong k _ _ (λ i l. sym (bit_next i n)))
    ∙ sym (sum_first k (λ i. bit i n))

either : (a b : ℕ) → a < 2 → b < 2 → bit_or a b ≡ non_zero (trit a b)
either zero zero p q = refl
either zero (suc zero) p q = refl
either zero (suc (suc b)) p q = absurd (omega arith)
either (suc zero) zero p q = refl
either (suc zero) (suc zero) p q = refl
either (suc zero) (suc (suc b)) p q = absurd (omega arith)
either (suc (suc a)) b p q = absurd (omega arith)

-- one more word: the set bits of a word whose bits are f's at the word's places
pub count_word : (f : ℕ → ℕ) (j w s : ℕ) → w < 2 ^ 64 → ((b : ℕ) → b < 64 → bit b w ≡ f (64 * j + b)) → s ≡ sum_to f (64 * j)
    → s + ones w ≡ sum_to f (64 * (j + 1))
count_word f j w s h e p =
    ap₂ (λ (x y : ℕ). x + y) p (ones_sum 64 w h ∙ sum_cong 64 _ _ e) ∙ sym (sum_add (64 * j) 64 f) ∙ ap (sum_to f) (omega arith)

non_zero_le : (x : Trit) → non_zero x ≤ 1
non_zero_le t0 = zero-le
non_zero_le t1 = le_refl 1
non_zero_le t2 = le_refl 1

pub weight_le : (v : ℕ → Trit) (m : ℕ) → weight_v v m ≤ m
weight_le v m = omega (arith, sum_le m 1 (λ i. non_zero (v i)) (λ i. non_zero_le (v i)))

-- ones and twos add up to the weight
pub counts_weight : (v : ℕ → Trit) (m : ℕ) → sum_of (counts_v v m) ≡ weight_v v m
unfolding sum_to
counts_weight v zero = refl
counts_weight v (suc m) = omega (arith, counts_weight v m, one_or_two (v m))

-- so they are at most the places
pub counts_le : (v : ℕ → Trit) (m : ℕ) → ones_v v m + twos_v v m ≤ m
counts_le v m = omega (arith, counts_weight v m, weight_le v m)

-- the bits set in a word are at most 64, and so are those set in either of two
pub word_le : {x : ℕ} → Fits w64 x → ones x ≤ 64
word_le h = ones-le 64 _ h.fits

pub count_le : {x y : ℕ} → Fits w64 x → Fits w64 y → ones (bit_or x y) ≤ 64
count_le {x} {y} hx hy = ones-le 64 _ (or_lt 64 x y hx.fits hy.fits)

-- a turn of the loop that has counted the words before i
module _ (os ts : List ℕ) (i : ℕ) (ho : Fits w64 (get_or os i 0)) (ht : Fits w64 (get_or ts i 0)) where
  pub weight_turn : (s : ℕ) → s ≡ weight_v (trit_at os ts) (64 * i) → s + ones (bit_or (get_or os i 0) (get_or ts i 0))
      ≡ weight_v (trit_at os ts) (64 * (i + 1))
  weight_turn s =
      let o = get_or os i 0 in
      let t = get_or ts i 0 in
      count_word (λ k. non_zero (trit_at os ts k)) i (bit_or o t) s (or_lt 64 o t ho.fits ht.fits)
      (λ b h. bit_or_law b o t ∙ either (bit b o) (bit b t) (bit_lt b o) (bit_lt b t) ∙ ap non_zero (sym (trit_at_place i b h os ts)))

-- and one that has counted each plane by itself
module _ (os ts : List ℕ) (a : Apart os ts) (i : ℕ) (ho : Fits w64 (get_or os i 0)) (ht : Fits w64 (get_or ts i 0)) where
  pub ones_turn : (s : ℕ) → s ≡ ones_v (trit_at os ts) (64 * i) → s + ones (get_or os i 0) ≡ ones_v (trit_at os ts) (64 * (i + 1))
  ones_turn s = count_word (λ k. one (trit_at os ts k)) i (get_or os i 0) s ho.fits (λ b h. (coded_at os ts a i b h).0)

  pub twos_turn : (s : ℕ) → s ≡ twos_v (trit_at os ts) (64 * i) → s + ones (get_or ts i 0) ≡ twos_v (trit_at os ts) (64 * (i + 1))
  twos_turn s = count_word (λ k. two (trit_at os ts k)) i (get_or ts i 0) s ht.fits (λ b h. (coded_at os ts a i b h).1)
