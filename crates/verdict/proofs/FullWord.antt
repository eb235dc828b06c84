-- The full word of y and s is the one word that has the syndrome y and extends s, under any key; so its ones and twos are the answer. Assumes nothing.
use mathlib.Core.Path.{◌≡◌, refl, sym, ap, ap₂, ◌∙◌, subst}
use mathlib.Core.Bool.{Bool, true, false, cond}
use mathlib.Core.Logic.{◌↔◌}
use Prim.Native.Nat.{ℕ, zero, suc, ◌+◌, ◌-◌, ◌<◌}
use native.Mathlib.Omega.{arith}
use borrow.Author.Tests.{lt-ltb, le-ltb, ltb-true, ltb-false, eqb-true, eq-eqb}
use lib.Dec.{ltb}
use Rattle.trits.specs.Trit.{Trit, add_t, sub_t, mul_t, dot_v, weight_v, counts_v, sum_of}
use Rattle.trits.proofs.Arithmetic.{law2}
use Rattle.trits.proofs.Counting.{counts_same, counts_weight}
use Rattle.verdict.specs.Verdict.{Key, times_key, full_word, full_counts, says_yes, syndrome, HasSyndrome, Extends, Extending, Found}

-- s·R-transposed reads k trits of s and k rows
pub times_key_cong : (k : ℕ) (R Q : Key) (s t : ℕ → Trit) (j : ℕ) → ((i : ℕ) → i < k → s i ≡ t i) → ((i : ℕ) → i < k → R i j ≡ Q i j)
    → times_key k R s j ≡ times_key k Q t j
unfolding times_key dot_v
times_key_cong zero R Q s t j h g = refl
times_key_cong (suc k) R Q s t j h g =
    ap₂ add_t (times_key_cong k R Q s t j (λ i l. h i (omega arith)) (λ i l. g i (omega arith))) (ap₂ mul_t (h k (omega arith)) (g k (omega arith)))

-- a syndrome reads a word below n, and a key's rows below their sizes
pub syndrome_cong : (m k : ℕ) (R Q : Key) (e f : ℕ → Trit) → ((q : ℕ) → q < m + k → e q ≡ f q) → ((i j : ℕ) → i < k → j < m → R i j ≡ Q i j)
    → (j : ℕ) → j < m → syndrome m k R e j ≡ syndrome m k Q f j
unfolding syndrome
syndrome_cong m k R Q e f h g j l =
    ap₂ add_t (h j (omega arith)) (times_key_cong k R Q (λ i. e (m + i)) (λ i. f (m + i)) j (λ i b. h (m + i) (omega arith)) (λ i b. g i j b l))

module _ (m k : ℕ) (R : Key) (y s : ℕ → Trit) where
  pub full_low : (q : ℕ) → q < m → full_word m k R y s q ≡ sub_t (y q) (times_key k R s q)
  unfolding full_word
  full_low q h = rw (lt-ltb q m h)

  pub full_high : (i : ℕ) → full_word m k R y s (m + i) ≡ s i
  unfolding full_word
  full_high i =
      let e : (m + i) - m ≡ i = omega arith in
      rw (le-ltb (m + i) m (omega arith), e)

  -- the counts read k rows of the key
  pub counts_cong : (Q : Key) → ((i q : ℕ) → i < k → R i q ≡ Q i q) → full_counts m k R y s ≡ full_counts m k Q y s
  unfolding full_counts full_word
  counts_cong Q g =
      counts_same (m + k) (full_word m k R y s) (full_word m k Q y s)
      (λ q h. ap (λ (x : Trit). cond (ltb q m) (sub_t (y q) x) (s (q - m))) (times_key_cong k R Q s s q (λ i l. refl) (λ i l. g i q l)))

  pub full_extends : Extends m k (full_word m k R y s) s
  full_extends i l = full_high i

  pub full_syndrome : HasSyndrome m k R (full_word m k R y s) y
  unfolding syndrome
  full_syndrome j h =
      ap₂ add_t (full_low j h) (times_key_cong k R R (λ i. full_word m k R y s (m + i)) s j (λ i l. full_high i) (λ i l. refl))
      ∙ law2 (λ y t. add_t (sub_t y t) t) (λ y t. y) tt (y j) (times_key k R s j)

  -- and no other word has that syndrome and extends s
  pub full_unique : (e : ℕ → Trit) → HasSyndrome m k R e y → Extends m k e s → (q : ℕ) → q < m + k → e q ≡ full_word m k R y s q
  unfolding syndrome
  full_unique e a b q h = go (ltb q m) refl
    where
      go : (t : Bool) → ltb q m ≡ t → e q ≡ full_word m k R y s q
      go true t =
          let l = ltb-true q m t in
          sym (law2 (λ x t. sub_t (add_t x t) t) (λ x t. x) tt (e q) (times_key k R s q))
          ∙ ap (λ (x : Trit). sub_t x (times_key k R s q)) (ap (add_t (e q)) (times_key_cong k R R s (λ i. e (m + i)) q (λ i o. sym (b i o)) (λ i o. refl))
          ∙ a q l)
          ∙ sym (full_low q l)
      go false t =
          let back : m + (q - m) ≡ q = omega (arith, ltb-false q m t) in
          subst (λ (x : ℕ). e x ≡ full_word m k R y s x) back (b (q - m) (omega (arith, ltb-false q m t)) ∙ sym (full_high (q - m)))

  -- the answer is the ones and twos of that word, and yes where its weight is w
  pub counts_of : (e : ℕ → Trit) → HasSyndrome m k R e y → Extends m k e s → full_counts m k R y s ≡ counts_v e (m + k)
  unfolding full_counts
  counts_of e a b = counts_same (m + k) (full_word m k R y s) e (λ q h. sym (full_unique e a b q h))

  pub full_weight : sum_of (full_counts m k R y s) ≡ weight_v (full_word m k R y s) (m + k)
  unfolding full_counts
  full_weight = counts_weight (full_word m k R y s) (m + k)

  pub yes_sum : (w : ℕ) → (says_yes m k w R y s ≡ true) ↔ (sum_of (full_counts m k R y s) ≡ w)
  unfolding says_yes
  yes_sum w = (eqb-true (sum_of (full_counts m k R y s)) w, eq-eqb (sum_of (full_counts m k R y s)) w)

  -- yes exactly when some word of weight w that has the syndrome extends s
  pub verifier : (w : ℕ) → (says_yes m k w R y s ≡ true) ↔ Found m k w R y s
  verifier w = (
    (λ h. record {
      word = full_word m k R y s;
      weighs = sym full_weight ∙ (yes_sum w).0 h;
      extending = record { has_syndrome = full_syndrome; extends = full_extends };
    }),
    λ f. (yes_sum w).1
        (ap sum_of (counts_of f.word f.extending.has_syndrome f.extending.extends) ∙ counts_weight f.word (m + k) ∙ f.weighs),
  )

  -- no two words of one syndrome extend the same signature
  pub extends_once : (e f : ℕ → Trit) → Extending m k R y s e → Extending m k R y s f → (q : ℕ) → q < m + k → e q ≡ f q
  extends_once e f a b q h = full_unique e a.has_syndrome a.extends q h ∙ sym (full_unique f b.has_syndrome b.extends q h)
