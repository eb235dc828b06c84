-- y - s·R-transposed, one row after the other, and the ones and twos of the full word. Assumes nothing.
use mathlib.Core.Path.{◌≡◌, refl, sym, ap, ap₂, ◌∙◌, fun_ext}
use mathlib.Core.List.{List}
use Prim.Native.Nat.{ℕ, ◌+◌, ◌≤◌, ◌<◌}
use native.Mathlib.Numerals.{add-one}
use native.Mathlib.Omega.{arith}
use Rattle.trits.specs.Trit.{Trit, t0, t2, add_t, sub_t, mul_t, zip_v, dot_v, one, two, sum_to, counts_v, trit_of}
use Rattle.trits.specs.Planes.{trit_at, Reads}
use Rattle.trits.proofs.Arithmetic.{law1, law2, law3, mul-zero}
use Rattle.trits.specs.declared.Counts.{Counts}
use Rattle.trits.proofs.Counting.{sum_cong, sum_add}
use Rattle.trits.proofs.Counted.{same_counts}
use Rattle.trits.proofs.Ends.{sum_ended}
use Rattle.trits.proofs.Products.{dot_zero}
use Rattle.verdict.specs.Verdict.{Key, times_key, full_word, full_counts}
use Rattle.verdict.proofs.FullWord.{full_low, full_high}
use Rattle.checker.specs.Steps.{more_counts, add_counts}

-- one row times a trit
module _ (u r : ℕ → Trit) (t : ℕ) where
  -- the trit of the row, known by its number
  pub take_known : {x : ℕ} → t ≡ x → zip_v sub_t u (zip_v mul_t (λ (q : ℕ). trit_of x) r) ≡ zip_v sub_t u (zip_v mul_t (λ (q : ℕ). trit_of t) r)
  take_known e = ap (λ (x : ℕ). zip_v sub_t u (zip_v mul_t (λ (q : ℕ). trit_of x) r)) (sym e)

  pub take_two : t ≡ 2 → zip_v add_t u r ≡ zip_v sub_t u (zip_v mul_t (λ (q : ℕ). trit_of t) r)
  take_two e =
      fun_ext (λ q. law2 (λ x y. add_t x y) (λ x y. sub_t x (mul_t t2 y)) tt (u q) (r q))
      ∙ ap (λ (x : ℕ). zip_v sub_t u (zip_v mul_t (λ (q : ℕ). trit_of x) r)) (sym e)

  pub take_none : t ≡ 0 → u ≡ zip_v sub_t u (zip_v mul_t (λ (q : ℕ). trit_of t) r)
  take_none e =
      fun_ext (λ q. law2 (λ x y. x) (λ x y. sub_t x (mul_t t0 y)) tt (u q) (r q))
      ∙ ap (λ (x : ℕ). zip_v sub_t u (zip_v mul_t (λ (q : ℕ). trit_of x) r)) (sym e)

-- before the first row nothing is taken
pub taken_none : (u : ℕ → Trit) (R : Key) (s : ℕ → Trit) → u ≡ zip_v sub_t u (times_key 0 R s)
unfolding times_key dot_v
taken_none u R s = fun_ext (λ q. law1 (λ x. x) (λ x. sub_t x t0) tt (u q))

-- one row more
taken_more : (u : ℕ → Trit) (R : Key) (s : ℕ → Trit) (i : ℕ) (x : Trit) → x ≡ s i
    → zip_v sub_t (zip_v sub_t u (times_key i R s)) (zip_v mul_t (λ (q : ℕ). x) (R i)) ≡ zip_v sub_t u (times_key (i + 1) R s)
unfolding times_key dot_v
taken_more u R s i x e =
    fun_ext (λ q. law3 (λ a b c. sub_t (sub_t a b) c) (λ a b c. sub_t a (add_t b c)) tt (u q) (dot_v s (λ i. R i q) i) (mul_t x (R i q))
    ∙ ap (λ (y : Trit). sub_t (u q) (add_t (dot_v s (λ i. R i q) i) (mul_t y (R i q)))) e)
    ∙ ap (λ (k : ℕ). zip_v sub_t u (times_key k R s)) (sym (add-one i))

pub turn_reads : {wo wt o t : List ℕ} {n a : ℕ} (u : ℕ → Trit) (R : Key) (s : ℕ → Trit) (i : ℕ) (x : Trit) → x ≡ s i → a ≡ n
    → Reads wo wt n (zip_v sub_t u (times_key i R s)) → Reads o t a (zip_v sub_t (trit_at wo wt) (zip_v mul_t (λ (q : ℕ). x) (R i)))
    → Reads o t n (zip_v sub_t u (times_key (i + 1) R s))
turn_reads u R s i x e l r g = record {
  row = g.row;
  size = g.size ∙ l;
  trits = g.trits ∙ ap (λ (v : ℕ → Trit). zip_v sub_t v (zip_v mul_t (λ (q : ℕ). x) (R i))) r.trits ∙ taken_more u R s i x e;
}

-- one trit of s more is counted
pub turn_counts : (s : ℕ → Trit) (i : ℕ) {a c : Counts} (x : Trit) → x ≡ s i → a ≡ counts_v s i → c ≡ more_counts a x → c ≡ counts_v s (i + 1)
unfolding sum_to
turn_counts s i x e p q = q ∙ ap₂ more_counts p e ∙ ap (counts_v s) (sym (add-one i))

module _ (m k : ℕ) (R : Key) (y s : ℕ → Trit) (places : ℕ) (l : m ≤ places) (yz : (q : ℕ) → m ≤ q → y q ≡ t0)
    (rz : (i q : ℕ) → i < k → m ≤ q → R i q ≡ t0) where
  -- y less the rows that s names, as the first part's planes hold it
  abbrev left : ℕ → Trit
  left = zip_v sub_t y (times_key k R s)

  left_ended : (q : ℕ) → m ≤ q → left q ≡ t0
  unfolding times_key
  left_ended q h = ap₂ sub_t (yz q h) (dot_zero k s (λ j. R j q) (λ j b. ap (mul_t (s j)) (rz j q b h) ∙ mul-zero (s j)))

  -- whatever is counted of a trit, if 0 counts for nothing: the first part's planes and s together have the full word's
  parts : (f : Trit → ℕ) → f t0 ≡ 0 → sum_to (λ i. f (left i)) places + sum_to (λ i. f (s i)) k ≡ sum_to (λ i. f (full_word m k R y s i)) (m + k)
  parts f z =
      let low : sum_to (λ i. f (left i)) places ≡ sum_to (λ i. f (left i)) m = sum_ended (λ i. f (left i)) m places l (λ i h. ap f (left_ended i h) ∙ z) in
      let head : sum_to (λ i. f (left i)) m ≡ sum_to (λ i. f (full_word m k R y s i)) m = sum_cong m _ _ (λ i h. ap f (sym (full_low m k R y s i h))) in
      let last : sum_to (λ i. f (s i)) k ≡ sum_to (λ i. f (full_word m k R y s (m + i))) k = sum_cong k _ _ (λ i h. ap f (sym (full_high m k R y s i))) in
      omega (arith, low, head, last, sum_add m k (λ i. f (full_word m k R y s i)))

  -- so have their ones and their twos
  pub full_counts_here : {a d : Counts} → a ≡ counts_v (zip_v sub_t y (times_key k R s)) places → d ≡ counts_v s k
      → add_counts a d ≡ full_counts m k R y s
  unfolding full_counts
  full_counts_here e f = rw (e, f) (same_counts (parts one refl) (parts two refl))
