-- A key held as M answers as the R that it converts to: the two forms have the same full word, and converting there and back returns the rows. Assumes nothing.
use mathlib.Core.Path.{◌≡◌, refl, sym, ap, ap₂, ◌∙◌}
use mathlib.Core.Bool.{Bool, true, false, cond}
use mathlib.Core.Logic.{◌↔◌}
use Prim.Native.Nat.{ℕ, zero, suc, ◌+◌, ◌-◌, ◌%◌, ◌≤◌, ◌<◌}
use native.Mathlib.Numerals.{add-one}
use native.Mathlib.Decide.{ℕ_discrete}
use native.Mathlib.Omega.{arith}
use borrow.Author.Tests.{lt-ltb, le-ltb, eq-eqb, ne_eqb, ltb-true, ltb-false}
use lib.Dec.{T, eqb, ltb}
use Rattle.trits.specs.Trit.{Trit, add_t, sub_t, neg_t, mul_t, dot_v, sum_of}
use Rattle.trits.specs.declared.Counts.{Counts}
use Rattle.trits.proofs.Arithmetic.{eq_t, every, at, law1, law2, law3}
use Rattle.trits.proofs.Counting.{counts_same}
use Rattle.verdict.specs.Verdict.{Key, times_key, full_word, full_counts, says_yes, Found}
use Rattle.verdict.specs.Wavelet.{PairRule, in_pairs, changing, changed_trits, to_m, rows_of_m}
use Rattle.verdict.specs.Wavelet.{to_r, rows_of_r, full_word_m, is_r, full_word_in, full_counts_in}
use Rattle.verdict.specs.Wavelet.{says_yes_in, other_form, other_rows, as_r}
use Rattle.verdict.proofs.FullWord.{times_key_cong, counts_cong, verifier}

-- ---- the places of a pair, and the last one

module _ (rule : PairRule) (k : ℕ) (v : ℕ → Trit) (i : ℕ) where
  pub at_first : i % 2 ≡ 0 → i + 1 < k → in_pairs rule k v i ≡ rule.first (v i) (v (i + 1))
  unfolding in_pairs
  at_first e l = rw (ne_eqb (i % 2) 1 (λ f. omega arith), lt-ltb (i + 1) k l)

  pub at_second : i % 2 ≡ 1 → in_pairs rule k v i ≡ rule.second (v (i - 1)) (v i)
  unfolding in_pairs
  at_second e = rw (eq-eqb (i % 2) 1 e)

  pub at_last : i % 2 ≡ 0 → k ≤ i + 1 → in_pairs rule k v i ≡ rule.last (v i)
  unfolding in_pairs
  at_last e l = rw (ne_eqb (i % 2) 1 (λ f. omega arith), le-ltb (i + 1) k l)

-- a rule reads the first k places
pub pairs_cong : (rule : PairRule) (k : ℕ) (u v : ℕ → Trit) → ((i : ℕ) → i < k → u i ≡ v i) → (i : ℕ) → i < k → in_pairs rule k u i ≡ in_pairs rule k v i
pairs_cong rule k u v h i l = go (ℕ_discrete (i % 2) 1) (ltb (i + 1) k) refl
  where
    go : Dec (i % 2 ≡ 1) → (b : Bool) → ltb (i + 1) k ≡ b → in_pairs rule k u i ≡ in_pairs rule k v i
    go (yes e) b f = at_second rule k u i e ∙ ap₂ rule.second (h (i - 1) (omega arith)) (h i l) ∙ sym (at_second rule k v i e)
    go (no e) true f =
        let next = ltb-true (i + 1) k f in
        at_first rule k u i (omega arith) next ∙ ap₂ rule.first (h i l) (h (i + 1) next) ∙ sym (at_first rule k v i (omega arith) next)
    go (no e) false f =
        let end = ltb-false (i + 1) k f in
        at_last rule k u i (omega arith) end ∙ ap rule.last (h i l) ∙ sym (at_last rule k v i (omega arith) end)

-- ---- there and back

-- one rule after another, where the second takes back what the first makes of a pair and of the last trit
module _ (there back : PairRule) (first_back : (a b : Trit) → back.first (there.first a b) (there.second a b) ≡ a)
    (second_back : (a b : Trit) → back.second (there.first a b) (there.second a b) ≡ b)
    (last_back : (a : Trit) → back.last (there.last a) ≡ a) where
  pairs_back : (k : ℕ) (v : ℕ → Trit) (i : ℕ) → i < k → in_pairs back k (in_pairs there k v) i ≡ v i
  pairs_back k v i l = go (ℕ_discrete (i % 2) 1) (ltb (i + 1) k) refl
    where
      go : Dec (i % 2 ≡ 1) → (b : Bool) → ltb (i + 1) k ≡ b → in_pairs back k (in_pairs there k v) i ≡ v i
      go (yes e) b f =
          let here : i - 1 + 1 ≡ i = omega arith in
          at_second back k (in_pairs there k v) i e
          ∙ ap₂ back.second (at_first there k v (i - 1) (omega arith) (omega arith) ∙ ap (λ (q : ℕ). there.first (v (i - 1)) (v q)) here)
          (at_second there k v i e)
          ∙ second_back (v (i - 1)) (v i)
      go (no e) true f =
          let next = ltb-true (i + 1) k f in
          let here : i + 1 - 1 ≡ i = omega arith in
          at_first back k (in_pairs there k v) i (omega arith) next
          ∙ ap₂ back.first (at_first there k v i (omega arith) next)
          (at_second there k v (i + 1) (omega arith) ∙ ap (λ (q : ℕ). there.second (v q) (v (i + 1))) here)
          ∙ first_back (v i) (v (i + 1))
      go (no e) false f =
          let end = ltb-false (i + 1) k f in
          at_last back k (in_pairs there k v) i (omega arith) end ∙ ap back.last (at_last there k v i (omega arith) end) ∙ last_back (v i)

module _ (k : ℕ) (X : Key) (i j : ℕ) (l : i < k) where
  -- from R to M and back
  pub m_and_back : rows_of_r k (rows_of_m k X) i j ≡ X i j
  unfolding rows_of_r rows_of_m
  m_and_back =
      pairs_back to_m to_r (law2 (λ a b. neg_t (add_t (add_t a b) (sub_t a b))) (λ a b. a) tt) (law2 (λ a b. sub_t (sub_t a b) (add_t a b)) (λ a b. b) tt)
      (law1 (λ a. neg_t (neg_t a)) (λ a. a) tt) k (λ q. X q j) i l

  -- from M to R and back
  pub r_and_back : rows_of_m k (rows_of_r k X) i j ≡ X i j
  unfolding rows_of_r rows_of_m
  r_and_back =
      pairs_back to_r to_m (law2 (λ a b. add_t (neg_t (add_t a b)) (sub_t b a)) (λ a b. a) tt)
      (law2 (λ a b. sub_t (neg_t (add_t a b)) (sub_t b a)) (λ a b. b) tt)
      (law1 (λ a. neg_t (neg_t a)) (λ a. a) tt) k (λ q. X q j) i l

-- ---- s·R-transposed is the negative of the changed trits times M

-- an equation in four trits
law4 : (f g : Trit → Trit → Trit → Trit → Trit)
    → T (every (λ x. every (λ y. every (λ z. every (λ u. eq_t (f x y z u) (g x y z u)))))) → (x y z u : Trit) → f x y z u ≡ g x y z u
law4 f g h x = law3 (f x) (g x) (at (λ a. every (λ y. every (λ z. every (λ u. eq_t (f a y z u) (g a y z u))))) h x)

-- of one pair: a and b of s, c and d of a column
pair_product : (a b c d : Trit) → add_t (mul_t (add_t a b) (add_t c d)) (mul_t (sub_t a b) (sub_t c d)) ≡ neg_t (add_t (mul_t a c) (mul_t b d))
pair_product = law4 (λ a b c d. add_t (mul_t (add_t a b) (add_t c d)) (mul_t (sub_t a b) (sub_t c d))) (λ a b c d. neg_t (add_t (mul_t a c) (mul_t b d))) tt

module _ (k : ℕ) (s r : ℕ → Trit) where
  abbrev t : ℕ → Trit
  t = in_pairs changing k s

  abbrev m : ℕ → Trit
  m = in_pairs to_m k r

  -- the products at the two places of a pair
  two_products : (i : ℕ) → i % 2 ≡ 0 → i + 1 < k
      → add_t (mul_t (t i) (m i)) (mul_t (t (suc i)) (m (suc i))) ≡ neg_t (add_t (mul_t (s i) (r i)) (mul_t (s (suc i)) (r (suc i))))
  two_products i e l =
      let next : i + 1 ≡ suc i = add-one i in
      let odd : suc i % 2 ≡ 1 = omega arith in
      let here : suc i - 1 ≡ i = omega arith in
      let a = ap₂ mul_t (at_first changing k s i e l) (at_first to_m k r i e l) in
      let b = ap₂ mul_t (at_second changing k s (suc i) odd) (at_second to_m k r (suc i) odd) in
      ap₂ add_t (a ∙ ap (λ (q : ℕ). mul_t (add_t (s i) (s q)) (add_t (r i) (r q))) next)
      (b ∙ ap (λ (q : ℕ). mul_t (sub_t (s q) (s (suc i))) (sub_t (r q) (r (suc i)))) here)
      ∙ pair_product (s i) (s (suc i)) (r i) (r (suc i))

  -- of whole pairs
  even_product : (i : ℕ) → i % 2 ≡ 0 → i ≤ k → dot_v t m i ≡ neg_t (dot_v s r i)
  unfolding dot_v
  even_product zero e l = refl
  even_product (suc zero) e l = absurd (omega arith)
  even_product (suc (suc i)) e l =
      law3 (λ x y z. add_t (add_t x y) z) (λ x y z. add_t x (add_t y z)) tt (dot_v t m i) (mul_t (t i) (m i)) (mul_t (t (suc i)) (m (suc i)))
      ∙ ap₂ add_t (even_product i (omega arith) (omega arith)) (two_products i (omega arith) (omega arith))
      ∙ law3 (λ x y z. add_t (neg_t x) (neg_t (add_t y z))) (λ x y z.
      neg_t (add_t (add_t x y) z)) tt (dot_v s r i) (mul_t (s i) (r i)) (mul_t (s (suc i)) (r (suc i)))

changed_dot : (k : ℕ) (s r : ℕ → Trit) → dot_v (in_pairs changing k s) (in_pairs to_m k r) k ≡ neg_t (dot_v s r k)
unfolding dot_v
changed_dot k s r = go k refl (ℕ_discrete (k % 2) 1)
  where
    go : (i : ℕ) → i ≡ k → Dec (i % 2 ≡ 1) → dot_v (in_pairs changing k s) (in_pairs to_m k r) i ≡ neg_t (dot_v s r i)
    go i e (no f) = even_product k s r i (omega arith) (omega arith)
    go zero e (yes f) = absurd (omega arith)
    go (suc i) e (yes f) =
        ap₂ add_t (even_product k s r i (omega arith) (omega arith))
        (ap₂ mul_t (at_last changing k s i (omega arith) (omega arith)) (at_last to_m k r i (omega arith) (omega arith)))
        ∙ law3 (λ x y z. add_t (neg_t x) (mul_t y (neg_t z))) (λ x y z. neg_t (add_t x (mul_t y z))) tt (dot_v s r i) (s i) (r i)

pub changed_key : (k : ℕ) (R : Key) (s : ℕ → Trit) (j : ℕ) → times_key k (rows_of_m k R) (changed_trits k s) j ≡ neg_t (times_key k R s j)
unfolding times_key changed_trits rows_of_m
changed_key k R s j = changed_dot k s (λ i. R i j)

-- the changed trits times M, for any key M
pub changed_times : (k : ℕ) (M : Key) (s : ℕ → Trit) (j : ℕ) → times_key k M (changed_trits k s) j ≡ neg_t (times_key k (rows_of_r k M) s j)
changed_times k M s j =
    times_key_cong k M (rows_of_m k (rows_of_r k M)) (changed_trits k s) (changed_trits k s) j (λ i l. refl) (λ i l. sym (r_and_back k M i j l))
    ∙ changed_key k (rows_of_r k M) s j

-- ---- a key of either form answers as the R that it converts to

-- a key held as R has the ones and twos that it had before request C-11
pub r_as_before : (m k : ℕ) (R : Key) (y s : ℕ → Trit) → full_counts_in 0 m k R y s ≡ full_counts m k R y s
unfolding full_counts_in full_word_in full_counts
r_as_before m k R y s = refl

module _ (form m k : ℕ) (X : Key) (y s : ℕ → Trit) where
  -- its full word
  pub word_as_r : (q : ℕ) → full_word_in form m k X y s q ≡ full_word m k (as_r form k X) y s q
  unfolding full_word_in full_word_m full_word as_r
  word_as_r q = go (is_r form)
    where
      go : (b : Bool) → cond b (full_word m k X y s q) (full_word_m m k X y s q) ≡ full_word m k (cond b X (rows_of_r k X)) y s q
      go true = refl
      go false = ap (λ (x : Trit). cond (ltb q m) (add_t (y q) x) (s (q - m))) (changed_times k X s q)

  -- its ones and twos
  pub counts_as_r : full_counts_in form m k X y s ≡ full_counts m k (as_r form k X) y s
  unfolding full_counts_in full_counts
  counts_as_r = counts_same (m + k) (full_word_in form m k X y s) (full_word m k (as_r form k X) y s) (λ q h. word_as_r q)

  -- and its yes: exactly when some word of weight w that has the syndrome under that R extends s
  pub verifier_in : (w : ℕ) → (says_yes_in form m k w X y s ≡ true) ↔ Found m k w (as_r form k X) y s
  unfolding says_yes_in says_yes
  verifier_in w =
      let (there, back) = verifier m k (as_r form k X) y s w in
      let same = ap (λ (c : Counts). eqb (sum_of c) w) counts_as_r in
      ((λ e. there (sym same ∙ e)), λ f. same ∙ back f)

-- ---- conversion

-- a form that is not 0
not_r : (form : ℕ) → is_r (suc form) ≡ false
not_r form = ne_eqb (suc form) 0 (λ e. omega arith)

-- the converted key converts to the same R
pub other_as_r : (form k : ℕ) (X : Key) (i j : ℕ) → i < k → as_r (other_form form) k (other_rows form k X) i j ≡ as_r form k X i j
unfolding as_r other_form other_rows
other_as_r zero k X i j l = m_and_back k X i j l
other_as_r (suc form) k X i j l =
    let z : 1 - suc form ≡ 0 = omega arith in
    rw (z, not_r form) refl

-- converting there and back returns the rows
pub other_twice : (form k : ℕ) (X : Key) (i j : ℕ) → i < k → other_rows (other_form form) k (other_rows form k X) i j ≡ X i j
unfolding other_form other_rows
other_twice zero k X i j l = m_and_back k X i j l
other_twice (suc form) k X i j l =
    let z : 1 - suc form ≡ 0 = omega arith in
    rw (z, not_r form) (r_and_back k X i j l)

-- the rows in the other form, and the R, read k rows of the key
pub other_cong : (form k : ℕ) (X Y : Key) → ((i q : ℕ) → i < k → X i q ≡ Y i q) → (i j : ℕ) → i < k → other_rows form k X i j ≡ other_rows form k Y i j
unfolding other_rows rows_of_m rows_of_r
other_cong zero k X Y h i j l = pairs_cong to_m k (λ q. X q j) (λ q. Y q j) (λ q b. h q j b) i l
other_cong (suc form) k X Y h i j l = rw (not_r form) (pairs_cong to_r k (λ q. X q j) (λ q. Y q j) (λ q b. h q j b) i l)

pub as_r_cong : (form k : ℕ) (X Y : Key) → ((i q : ℕ) → i < k → X i q ≡ Y i q) → (i j : ℕ) → i < k → as_r form k X i j ≡ as_r form k Y i j
unfolding as_r rows_of_r
as_r_cong zero k X Y h i j l = h i j l
as_r_cong (suc form) k X Y h i j l = rw (not_r form) (pairs_cong to_r k (λ q. X q j) (λ q. Y q j) (λ q b. h q j b) i l)

-- and the form
pub form_twice : (form : ℕ) → form ≤ 1 → other_form (other_form form) ≡ form
unfolding other_form
form_twice form l = omega arith

-- so a key and the same converted have the same ones and twos, whatever y and s are
pub other_counts : (form m k : ℕ) (X : Key) (y s : ℕ → Trit)
    → full_counts_in (other_form form) m k (other_rows form k X) y s ≡ full_counts_in form m k X y s
other_counts form m k X y s =
    counts_as_r (other_form form) m k (other_rows form k X) y s
    ∙ counts_cong m k (as_r (other_form form) k (other_rows form k X)) y s (as_r form k X) (λ i q l. other_as_r form k X i q l)
    ∙ sym (counts_as_r form m k X y s)

-- the ones and twos read k rows of the key
pub counts_in_cong : (form m k : ℕ) (X Y : Key) (y s : ℕ → Trit) → ((i q : ℕ) → i < k → X i q ≡ Y i q)
    → full_counts_in form m k X y s ≡ full_counts_in form m k Y y s
counts_in_cong form m k X Y y s h =
    counts_as_r form m k X y s ∙ counts_cong m k (as_r form k X) y s (as_r form k Y) (λ i q l. as_r_cong form k X Y h i q l) ∙ sym (counts_as_r form m k Y y s)
