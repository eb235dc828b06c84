-- The first m places of a vector and 0 past them; planes of 0. Assumes nothing.
use mathlib.Core.Path.{◌≡◌, refl, sym, ap, ap₂, ◌∙◌, subst, subst₂, fun_ext}
use mathlib.Core.Bool.{Bool, false, cond}
use mathlib.Core.List.{List}
use Prim.Native.Nat.{ℕ, zero, suc, ◌+◌, ◌-◌, ◌/◌, ◌%◌, ◌^◌, ◌≤◌, ◌<◌, zero-le}
use native.Mathlib.Nat.{add-zero}
use native.Mathlib.Decide.{dec_lt, ℕ_discrete}
use native.Mathlib.Omega.{arith}
use borrow.Author.Tests.{eq-eqb, ne_eqb, lt-ltb, le-ltb}
use lib.ListN.{length, get_or}
use lib.Bits.{bit_and}
use Rattle.trits.specs.Trit.{Trit, t0, non_zero, one, two, sum_to, weight_v, counts_v, put_v, up_to}
use Rattle.trits.specs.Planes.{bit, trit, bit_at, trit_at, zero_words, past_end, Row, Reads, Holds}
use Rattle.trits.proofs.Bits.{bit_none}
use Rattle.trits.proofs.Lists.{zero_at}
use Rattle.trits.proofs.Counting.{sum_add}
use Rattle.trits.proofs.Counted.{same_counts}
use Rattle.trits.proofs.Reading.{read_holds, same_words}
use Rattle.trits.proofs.Tests.{past_zero}

module _ (v : ℕ → Trit) where
  pub upto_in : (m i : ℕ) → i < m → up_to m v i ≡ v i
  unfolding up_to
  upto_in m i l = ap (λ (t : Bool). cond t (v i) t0) (lt-ltb i m l)

  pub upto_out : (m i : ℕ) → m ≤ i → up_to m v i ≡ t0
  unfolding up_to
  upto_out m i l = ap (λ (t : Bool). cond t (v i) t0) (le-ltb i m l)

  pub upto_none : up_to 0 v ≡ (λ (i : ℕ). t0)
  upto_none = fun_ext (λ i. upto_out 0 i zero-le)

  -- a vector that is 0 from m on
  pub upto_ended : (m : ℕ) → ((i : ℕ) → m ≤ i → v i ≡ t0) → up_to m v ≡ v
  upto_ended m z = fun_ext (λ i. by i (dec_lt i m))
    where
      by : (i : ℕ) → Dec (i < m) → up_to m v i ≡ v i
      by i (yes l) = upto_in m i l
      by i (no f) = upto_out m i (omega arith) ∙ sym (z i (omega arith))

-- vectors that agree below m
pub upto_same : (m : ℕ) (u v : ℕ → Trit) → ((i : ℕ) → i < m → u i ≡ v i) → up_to m u ≡ up_to m v
upto_same m u v e = fun_ext (λ i. by i (dec_lt i m))
  where
    by : (i : ℕ) → Dec (i < m) → up_to m u i ≡ up_to m v i
    by i (yes l) = upto_in u m i l ∙ e i l ∙ sym (upto_in v m i l)
    by i (no f) = upto_out u m i (omega arith) ∙ sym (upto_out v m i (omega arith))

-- the next place of a vector is put
pub upto_put : (v : ℕ → Trit) (i : ℕ) → put_v (up_to i v) i (v i) ≡ up_to (i + 1) v
upto_put v i = fun_ext (λ j. by j (ℕ_discrete j i) (dec_lt j i))
  where
    by : (j : ℕ) → Dec (j ≡ i) → Dec (j < i) → put_v (up_to i v) i (v i) j ≡ up_to (i + 1) v j
    by j (yes e) d = ap (λ (t : Bool). cond t (v i) (up_to i v j)) (eq-eqb j i e) ∙ ap v (sym e) ∙ sym (upto_in v (i + 1) j (omega arith))
    by j (no f) (yes l) = ap (λ (t : Bool). cond t (v i) (up_to i v j)) (ne_eqb j i f) ∙ upto_in v i j l ∙ sym (upto_in v (i + 1) j (omega arith))
    by j (no f) (no l) = ap (λ (t : Bool). cond t (v i) (up_to i v j)) (ne_eqb j i f) ∙ upto_out v i j (omega arith)
        ∙ sym (upto_out v (i + 1) j (omega (arith, f)))

-- ---- planes of 0

pub zeros_row : (n : ℕ) → Row (zero_words n) (zero_words n)
zeros_row n = record { same = refl; apart = record { word = λ j. ap (λ (x : ℕ). bit_and x (get_or (zero_words n) j 0)) (zero_at n j) } }

zeros_read : (n : ℕ) → trit_at (zero_words n) (zero_words n) ≡ (λ (p : ℕ). t0)
unfolding trit_at bit_at
zeros_read n = fun_ext (λ p. ap (λ (x : ℕ). trit (bit (p % 64) x) (bit (p % 64) x)) (zero_at n (p / 64)) ∙ ap (λ (x : ℕ). trit x x) (bit_none (p % 64)))

-- two planes that were made 0 hold the first 0 places of any vector
pub zeros_hold : {o t : List ℕ} {n k : ℕ} (v : ℕ → Trit) → o ≡ zero_words n → t ≡ zero_words k → k ≡ n → Reads o t (length o) (up_to 0 v)
zeros_hold {o} {t} {n} {k} v p q e =
    let q' = q ∙ ap zero_words e in
    record {
      row = subst₂ Row (sym p) (sym q') (zeros_row n);
      size = refl;
      trits = ap₂ trit_at p q' ∙ zeros_read n ∙ sym (upto_none v);
    }

-- ---- what the words past the length do not change

none_past : (k : ℕ) (f : ℕ → ℕ) → ((i : ℕ) → f i ≡ 0) → sum_to f k ≡ 0
unfolding sum_to
none_past zero f h = refl
none_past (suc k) f h = omega (arith, none_past k f h, h k)

-- a sum over the words' places is the sum over the row's
pub sum_ended : (f : ℕ → ℕ) (m n : ℕ) → m ≤ n → ((i : ℕ) → m ≤ i → f i ≡ 0) → sum_to f n ≡ sum_to f m
sum_ended f m n l z =
    let k = n - m in
    let e : n ≡ m + k = omega arith in
    ap (sum_to f) e ∙ sum_add m k f ∙ ap (λ (x : ℕ). sum_to f m + x) (none_past k (λ i. f (m + i)) (λ i. z (m + i) (omega arith))) ∙ add-zero (sum_to f m)

-- so the weight of the words is the weight of the row
pub weight_ended : (v : ℕ → Trit) (m n : ℕ) → m ≤ n → ((i : ℕ) → m ≤ i → v i ≡ t0) → weight_v v n ≡ weight_v v m
weight_ended v m n l z = sum_ended (λ i. non_zero (v i)) m n l (λ i h. ap non_zero (z i h))

-- and the ones and twos of the words are those of the row
pub counts_ended : (v : ℕ → Trit) (m n : ℕ) → m ≤ n → ((i : ℕ) → m ≤ i → v i ≡ t0) → counts_v v n ≡ counts_v v m
counts_ended v m n l z =
    same_counts (sum_ended (λ i. one (v i)) m n l (λ i h. ap one (z i h))) (sum_ended (λ i. two (v i)) m n l (λ i h. ap two (z i h)))

-- planes with no bit in both and none past the length are determined by their trits
pub determined : {o t o' t' : List ℕ} (n m : ℕ) → Row o t → Row o' t' → length o ≡ n → length o' ≡ n
    → past_end o t m ≡ false → past_end o' t' m ≡ false
    → ((j : ℕ) → get_or o j 0 < 2 ^ 64) → ((j : ℕ) → get_or t j 0 < 2 ^ 64) → ((j : ℕ) → get_or o' j 0 < 2 ^ 64) → ((j : ℕ) → get_or t' j 0 < 2 ^ 64)
    → ((i : ℕ) → i < m → trit_at o t i ≡ trit_at o' t' i) → (o ≡ o') × (t ≡ t')
determined {o} {t} {o'} {t'} n m r r' l l' z z' ho ht ho' ht' e =
    let p = past_zero o t m r.same z in
    let p' = past_zero o' t' m r'.same z' in
    let s : trit_at o t ≡ trit_at o' t' = sym (upto_ended (trit_at o t) m p) ∙ upto_same m (trit_at o t) (trit_at o' t') e ∙ upto_ended (trit_at o' t') m p' in
    same_words (read_holds o t n r l ho ht) (subst (λ (v : ℕ → Trit). Holds o' t' n v) (sym s) (read_holds o' t' n r' l' ho' ht'))
