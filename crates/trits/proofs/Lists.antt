-- Lists of words: tables, words of 0, and a copy from the front on. Assumes nothing.
use mathlib.Core.Path.{◌≡◌, refl, sym, ap, ◌∙◌}
use mathlib.Core.List.{List, [], ◌∷◌, ◌++◌, append-nil}
use Prim.Native.Nat.{ℕ, zero, suc, ◌+◌, ◌≤◌, ◌<◌, suc-le-suc}
use native.Mathlib.Nat.{zero-lt-suc, not-suc-le-zero, le_of_suc-le-suc, suc_inj, le_refl}
use native.Mathlib.Numerals.{add-one}
use native.Mathlib.Decide.{dec_lt}
use native.Mathlib.Omega.{arith}
use lib.ListN.{length, get_or, set, take, drop, drop_of_length-le, get_or-eq_default}
use lib.Seq.{take_all}
use Rattle.trits.specs.Planes.{tabulate, zero_words}

pub length_tabulate : (n : ℕ) (f : ℕ → ℕ) → length (tabulate f n) ≡ n
unfolding tabulate
length_tabulate zero f = refl
length_tabulate (suc n) f = ap suc (length_tabulate n (λ i. f (suc i)))

pub get_d_tabulate : (n : ℕ) (f : ℕ → ℕ) (j d : ℕ) → j < n → get_or (tabulate f n) j d ≡ f j
unfolding tabulate
get_d_tabulate zero f j d l = absurd (not-suc-le-zero l)
get_d_tabulate (suc n) f zero d l = refl
get_d_tabulate (suc n) f (suc j) d l = get_d_tabulate n (λ i. f (suc i)) j d (le_of_suc-le-suc l)

-- a list whose words are f's is f's table
pub tabulated : (n : ℕ) (f : ℕ → ℕ) (l : List ℕ) → length l ≡ n → ((j : ℕ) → j < n → get_or l j 0 ≡ f j) → l ≡ tabulate f n
unfolding tabulate
tabulated zero f [] e h = refl
tabulated zero f (x ∷ l) e h = absurd (omega arith)
tabulated (suc n) f [] e h = absurd (omega arith)
tabulated (suc n) f (x ∷ l) e h = λ i. h zero (zero-lt-suc n) i ∷ tabulated n (λ j. f (suc j)) l (suc_inj e) (λ j b. h (suc j) (suc-le-suc b)) i

-- ---- words of 0

pub length_zeros : (n : ℕ) → length (zero_words n) ≡ n
unfolding zero_words
length_zeros n = length_tabulate n (λ j. 0)

pub zero_at : (n j : ℕ) → get_or (zero_words n) j 0 ≡ 0
unfolding zero_words
zero_at n j = by (dec_lt j n)
  where
    by : Dec (j < n) → get_or (tabulate (λ j. 0) n) j 0 ≡ 0
    by (yes l) = get_d_tabulate n (λ j. 0) j 0 l
    by (no f) = get_or-eq_default (tabulate (λ j. 0) n) 0 (omega (arith, length_tabulate n (λ j. 0)))

-- ---- a copy from the front on

-- a store takes the copy of i words to the copy of one more
store : (src dst : List ℕ) (i : ℕ) → i < length src → i < length dst → set (take i src ++ drop i dst) i (get_or src i 0) ≡ take (suc i) src ++ drop (suc i) dst
store [] dst i h k = absurd (not-suc-le-zero h)
store (x ∷ xs) [] i h k = absurd (not-suc-le-zero k)
store (x ∷ xs) (y ∷ ys) zero h k = refl
store (x ∷ xs) (y ∷ ys) (suc i) h k = ap (λ (l : List ℕ). x ∷ l) (store xs ys i (le_of_suc-le-suc h) (le_of_suc-le-suc k))

pub copy_turn : (src dst : List ℕ) {l : List ℕ} (i : ℕ) → i < length src → i < length dst → l ≡ take i src ++ drop i dst
    → set l i (get_or src i 0) ≡ take (i + 1) src ++ drop (i + 1) dst
copy_turn src dst i h k e =
    ap (λ (x : List ℕ). set x i (get_or src i 0)) e ∙ store src dst i h k ∙ ap (λ (n : ℕ). take n src ++ drop n dst) (sym (add-one i))

pub copy_all : (src dst : List ℕ) {l : List ℕ} (i : ℕ) → i ≡ length src → l ≡ take i src ++ drop i dst → l ≡ src ++ drop (length src) dst
copy_all src dst i p e = e ∙ ap (λ (n : ℕ). take n src ++ drop n dst) p
    ∙ ap (λ (x : List ℕ). x ++ drop (length src) dst) (take_all (length src) src (le_refl (length src)))

-- a row written over a list of its own length
pub copied : {l : List ℕ} (src dst : List ℕ) → l ≡ src ++ drop (length src) dst → length src ≡ length dst → l ≡ src
copied src dst e p = e ∙ ap (λ (x : List ℕ). src ++ x) (drop_of_length-le dst {i = length src} (omega arith)) ∙ append-nil src

-- the first words of a table
pub take_tabulate : (w n : ℕ) (f : ℕ → ℕ) → w ≤ n → take w (tabulate f n) ≡ tabulate f w
unfolding tabulate
take_tabulate zero n f h = refl
take_tabulate (suc w) zero f h = absurd (not-suc-le-zero h)
take_tabulate (suc w) (suc n) f h = ap (λ (l : List ℕ). f 0 ∷ l) (take_tabulate w n (λ i. f (suc i)) (le_of_suc-le-suc h))
