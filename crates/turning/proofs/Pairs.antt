-- One pair of rows of a stage exchanged, and runs of pairs. Assumes nothing.
use mathlib.Core.Path.{◌≡◌, refl, sym, ap, ap₂, ◌∙◌}
use mathlib.Core.Logic.{◌⊎◌, inl, inr, ◌≢◌}
use mathlib.Core.List.{List}
use Prim.Native.Nat.{ℕ, ◌+◌, ◌-◌, ◌*◌, ◌/◌, ◌%◌, ◌^◌, ◌≤◌, ◌<◌}
use native.Mathlib.Nat.{mul-add-div, mul-add-mod_self_left, div-eq_of_lt, mod-eq_of_lt}
use native.Mathlib.Decide.{dec_lt, ℕ_discrete}
use native.Mathlib.Omega.{arith}
use lib.Bits.{bit_xor}
use lib.ListN.{length, get_or, set, length-set}
use lib.Seq.{get_or-set_same, get_or-set_other}
use Rattle.trits.specs.Planes.{bit}
use Rattle.turning.specs.Steps.{crossed, pair_number, ExchangedPairs, Exchanged}
use Rattle.turning.proofs.Words.{differing, first_low, first_taken, first_kept, second_taken, second_kept}
use Rattle.turning.proofs.Widths.{Laws, lower, side, crossed_by, set_high, moved}

-- ---- the new words of a pair

module _ {j mask : ℕ} (n : Laws j mask) (q : ℕ) (h : q < 64) where
  first_clear : (a b : ℕ) → q / j % 2 ≡ 0 → bit q (bit_xor a (differing j mask a b * 2 ^ j % 2 ^ 64)) ≡ bit q a
  first_clear a b e = by (dec_lt q j)
    where
      by : Dec (q < j) → bit q (bit_xor a (differing j mask a b * 2 ^ j % 2 ^ 64)) ≡ bit q a
      by (yes l) = first_low j mask a b q h l
      by (no l) = first_kept j mask a b q h (omega arith) (moved n q h (omega arith) ∙ e)

  first_set_here : (a b : ℕ) → q / j % 2 ≡ 1 → bit q (bit_xor a (differing j mask a b * 2 ^ j % 2 ^ 64)) ≡ bit (q - j) b
  first_set_here a b e = first_taken j mask a b q h (set_high n q h e) (moved n q h (set_high n q h e) ∙ e)

  second_clear : (a b : ℕ) → q / j % 2 ≡ 0 → bit q (bit_xor b (differing j mask a b)) ≡ bit (j + q) a
  second_clear a b e = second_taken j mask a b q h (n.mask_bit q h ∙ ap (λ (x : ℕ). 1 - x) e)

  second_set : (a b : ℕ) → q / j % 2 ≡ 1 → bit q (bit_xor b (differing j mask a b)) ≡ bit q b
  second_set a b e = second_kept j mask a b q h (n.mask_bit q h ∙ ap (λ (x : ℕ). 1 - x) e)

-- ---- one pair more

module _ {j mask s m : ℕ} {l₀ l : List ℕ} (n : Laws j mask) (x : ExchangedPairs j s m l₀ l) (e : length l₀ ≡ 64) (hs : s ≤ m) (hm : m < 32) where
  abbrev k : ℕ
  k = lower j m

  abbrev a : ℕ
  a = get_or l k 0

  abbrev b : ℕ
  b = get_or l (k + j) 0

  abbrev a' : ℕ
  a' = bit_xor a (differing j mask a b * 2 ^ j % 2 ^ 64)

  abbrev b' : ℕ
  b' = bit_xor b (differing j mask a b)

  abbrev l' : List ℕ
  l' = set (set l k a') (k + j) b'

  a_old : a ≡ get_or l₀ k 0
  a_old = x.rest k (omega (arith, n.upper_in m hm)) (inr (omega (arith, n.lower_pair m hm)))

  b_old : b ≡ get_or l₀ (k + j) 0
  b_old = x.rest (k + j) (n.upper_in m hm) (inr (omega (arith, n.upper_pair m hm)))

  new_lower : get_or l' k 0 ≡ a'
  new_lower =
      get_or-set_other (set l k a') (k + j) k b' 0 (λ z. omega (arith, n.some))
      ∙ get_or-set_same l k a' 0 (omega (arith, x.kept, n.upper_in m hm))

  new_upper : get_or l' (k + j) 0 ≡ b'
  new_upper = get_or-set_same (set l k a') (k + j) b' 0 (omega (arith, x.kept, n.upper_in m hm, length-set l k a'))

  still : (i : ℕ) → pair_number j i ≢ m → get_or l' i 0 ≡ get_or l i 0
  still i f =
      get_or-set_other (set l k a') (k + j) i b' 0 (λ z. f (ap (pair_number j) z ∙ n.upper_pair m hm))
      ∙ get_or-set_other l k i a' 0 (λ z. f (ap (pair_number j) z ∙ n.lower_pair m hm))

  -- row i of the pair, column q
  cell : (i q : ℕ) → i < 64 → q < 64 → pair_number j i ≡ m → (i / j % 2 ≡ 0) ⊎ (i / j % 2 ≡ 1) → (q / j % 2 ≡ 0) ⊎ (q / j % 2 ≡ 1)
      → bit q (get_or l' i 0) ≡ bit (crossed j q i) (get_or l₀ (crossed j i q) 0)
  cell i q h g p = by
    where
      row : {s : ℕ} → i / j % 2 ≡ s → i ≡ k + s * j
      row f = n.row_of i h ∙ ap₂ (λ (y z : ℕ). lower j y + z * j) p f

      to : {i' q' s t c : ℕ} → i / j % 2 ≡ s → q / j % 2 ≡ t → i - s * j + t * j ≡ i' → q - t * j + s * j ≡ q' → c ≡ bit q' (get_or l₀ i' 0)
          → c ≡ bit (crossed j q i) (get_or l₀ (crossed j i q) 0)
      to f d u v w = w ∙ ap₂ (λ (y z : ℕ). bit y (get_or l₀ z 0)) (sym (crossed_by j q i d f ∙ v)) (sym (crossed_by j i q f d ∙ u))

      by : (i / j % 2 ≡ 0) ⊎ (i / j % 2 ≡ 1) → (q / j % 2 ≡ 0) ⊎ (q / j % 2 ≡ 1) → bit q (get_or l' i 0) ≡ bit (crossed j q i) (get_or l₀ (crossed j i q) 0)
      by (inl f) (inl d) =
          to f d (omega (arith, row f)) (omega arith)
          (ap (λ (y : ℕ). bit q (get_or l' y 0)) (row f ∙ omega arith) ∙ ap (bit q) new_lower ∙ first_clear n q g a b d ∙ ap (bit q) a_old)
      by (inl f) (inr d) =
          to f d (omega (arith, row f)) (omega arith)
          (ap (λ (y : ℕ). bit q (get_or l' y 0)) (row f ∙ omega arith) ∙ ap (bit q) new_lower ∙ first_set_here n q g a b d ∙ ap (bit (q - j)) b_old)
      by (inr f) (inl d) =
          to f d (omega (arith, row f)) (omega arith)
          (ap (λ (y : ℕ). bit q (get_or l' y 0)) (row f ∙ omega arith) ∙ ap (bit q) new_upper ∙ second_clear n q g a b d ∙ ap (bit (j + q)) a_old)
      by (inr f) (inr d) =
          to f d (omega (arith, row f)) (omega (arith, set_high n q g d))
          (ap (λ (y : ℕ). bit q (get_or l' y 0)) (row f ∙ omega arith) ∙ ap (bit q) new_upper ∙ second_set n q g a b d ∙ ap (bit q) b_old)

  exchange_pair : ExchangedPairs j s (m + 1) l₀ l'
  exchange_pair = record {
    kept = length-set (set l k a') (k + j) b' ∙ length-set l k a' ∙ x.kept;
    bits = λ i q h g u v. by i q h g u v (ℕ_discrete (pair_number j i) m);
    rest = off;
  }
    where
      by : (i q : ℕ) → i < 64 → q < 64 → s ≤ pair_number j i → pair_number j i < m + 1 → Dec (pair_number j i ≡ m)
          → bit q (get_or l' i 0) ≡ bit (crossed j q i) (get_or l₀ (crossed j i q) 0)
      by i q h g u v (yes z) = cell i q h g z (side j i) (side j q)
      by i q h g u v (no f) = ap (bit q) (still i f) ∙ x.bits i q h g u (omega arith)

      off : (i : ℕ) → i < 64 → (pair_number j i < s) ⊎ (m + 1 ≤ pair_number j i) → get_or l' i 0 ≡ get_or l₀ i 0
      off i h (inl p) = still i (λ z. omega arith) ∙ x.rest i h (inl p)
      off i h (inr p) = still i (λ z. omega arith) ∙ x.rest i h (inr (omega arith))

-- ---- the loops

pub exchange_none : (j m : ℕ) (l : List ℕ) → ExchangedPairs j m m l l
exchange_none j m l = record { kept = refl; bits = λ i b h g p o. absurd (omega arith); rest = λ i h p. refl }

-- the lower row of pair x of run t
pub lower_of : (j t x : ℕ) → x < j → lower j (j * t + x) ≡ 2 * (j * t) + x
lower_of j t x h =
    ap₂ (λ (y z : ℕ). 2 * (j * y) + z) (mul-add-div (omega arith) t x ∙ ap (λ (y : ℕ). t + y) (div-eq_of_lt h) ∙ omega arith)
    (mul-add-mod_self_left j t x ∙ mod-eq_of_lt h)

-- a run's next pair
pub exchange_turn : {j mask : ℕ} (t x : ℕ) {l₀ l : List ℕ} → Laws j mask → ExchangedPairs j (j * t) (j * t + x) l₀ l → length l₀ ≡ 64 → x < j → j * t + j ≤ 32
    → (k : ℕ) → k ≡ 2 * (j * t) + x
    → ExchangedPairs j (j * t) (j * t
    + (x + 1)) l₀ (set (set l k (bit_xor (get_or l k 0) (differing j mask (get_or l k 0) (get_or l (k + j) 0) * 2 ^ j % 2 ^ 64)))
    (k + j) (bit_xor (get_or l (k + j) 0) (differing j mask (get_or l k 0) (get_or l (k + j) 0))))
exchange_turn {j} t x n p e h g k d =
    let u : k ≡ lower j (j * t + x) = d ∙ sym (lower_of j t x h) in
    let v : j * t + (x + 1) ≡ j * t + x + 1 = omega arith in
    rw (u, v) (exchange_pair n p e (omega arith) (omega arith))

-- a stage's next run
pub exchange_join : {j mask m n : ℕ} {l₀ l l' : List ℕ} → Laws j mask → ExchangedPairs j 0 m l₀ l → ExchangedPairs j m n l l' → m ≤ n
    → ExchangedPairs j 0 n l₀ l'
exchange_join {j} {mask} {m} {n} {l₀} {l} {l'} z x y o = record {
  kept = y.kept ∙ x.kept;
  bits = λ i q h g u v. by i q h g v (dec_lt (pair_number j i) m);
  rest = off;
}
  where
    by : (i q : ℕ) → i < 64 → q < 64 → pair_number j i < n → Dec (pair_number j i < m) → bit q (get_or l' i 0)
        ≡ bit (crossed j q i) (get_or l₀ (crossed j i q) 0)
    by i q h g v (yes d) = ap (bit q) (y.rest i h (inl d)) ∙ x.bits i q h g (omega arith) d
    by i q h g v (no d) =
        y.bits i q h g (omega arith) v
        ∙ ap (bit (crossed j q i)) (x.rest (crossed j i q) (z.crossed_in i q h g) (inr (omega (arith, z.crossed_pair i q h g))))

    off : (i : ℕ) → i < 64 → (pair_number j i < 0) ⊎ (n ≤ pair_number j i) → get_or l' i 0 ≡ get_or l₀ i 0
    off i h (inl p) = absurd (omega arith)
    off i h (inr p) = y.rest i h (inr p) ∙ x.rest i h (inr (omega arith))

pub exchange_done : {j mask m : ℕ} {l₀ l : List ℕ} → Laws j mask → ExchangedPairs j 0 m l₀ l → 32 ≤ m → Exchanged j l₀ l
exchange_done n x g = record { kept = x.kept; bits = λ i b h k. x.bits i b h k (omega arith) (omega (arith, n.pair_in i h)) }
