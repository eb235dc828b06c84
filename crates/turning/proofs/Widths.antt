-- The numbers of a stage, by computed tests: its pairs of rows, and the columns of its mask. Assumes nothing.
use mathlib.Core.Path.{◌≡◌, sym, ap, ap₂, ◌∙◌}
use mathlib.Core.Logic.{◌⊎◌, inl, inr}
use mathlib.Core.Bool.{Bool, cond}
use Prim.Native.Nat.{ℕ, ◌+◌, ◌-◌, ◌*◌, ◌/◌, ◌%◌, ◌≤◌, ◌<◌}
use native.Mathlib.Nat.{mod-lt, zero-lt-suc}
use native.Mathlib.Decide.{dec_lt, ℕ_discrete}
use native.Mathlib.Omega.{arith}
use borrow.Author.Tests.{lt-ltb, le-ltb}
use lib.Dec.{T, eqb, ltb, eqb→eq, lit<}
use Rattle.trits.specs.Planes.{bit}
use Rattle.turning.specs.Steps.{Width, by32, by16, by8, by4, by2, by1, crossed, pair_number}
use Rattle.turning.proofs.Tests.{below, equal_at, less_at_law, equal_at_two, less_at_two}

-- the lower row of pair m
abbrev pub lower : ℕ → ℕ → ℕ
lower j m = 2 * (j * (m / j)) + m % j

pub record Laws (j mask : ℕ) : Type 0 where
  pub some : 0 < j
  pub small : j < 64
  pub runs : j * (32 / j) ≡ 32
  pub row_of : (i : ℕ) → i < 64 → i ≡ lower j (pair_number j i) + i / j % 2 * j
  pub pair_in : (i : ℕ) → i < 64 → pair_number j i < 32
  pub upper_in : (m : ℕ) → m < 32 → lower j m + j < 64
  pub lower_pair : (m : ℕ) → m < 32 → pair_number j (lower j m) ≡ m
  pub upper_pair : (m : ℕ) → m < 32 → pair_number j (lower j m + j) ≡ m
  pub mask_bit : (q : ℕ) → q < 64 → bit q mask ≡ 1 - q / j % 2
  pub mask_moved : (q : ℕ) → q < 64 → cond (ltb q j) 0 (bit (q - j) mask) ≡ q / j % 2
  pub crossed_in : (i q : ℕ) → i < 64 → q < 64 → crossed j i q < 64
  pub crossed_pair : (i q : ℕ) → i < 64 → q < 64 → pair_number j (crossed j i q) ≡ pair_number j i

module _ (j mask : ℕ) where
  tested : T (ltb 0 j) → T (ltb j 64) → T (eqb (j * (32 / j)) 32) → T (below 64 (λ i. eqb i (lower j (pair_number j i) + i / j % 2 * j)))
      → T (below 64 (λ i. ltb (pair_number j i) 32)) → T (below 32 (λ m. ltb (lower j m + j) 64)) → T (below 32 (λ m. eqb (pair_number j (lower j m)) m))
      → T (below 32 (λ m. eqb (pair_number j (lower j m + j)) m)) → T (below 64 (λ q. eqb (bit q mask) (1 - q / j % 2)))
      → T (below 64 (λ q. eqb (cond (ltb q j) 0 (bit (q - j) mask)) (q / j % 2))) → T (below 64 (λ i. below 64 (λ q. ltb (crossed j i q) 64)))
      → T (below 64 (λ i. below 64 (λ q. eqb (pair_number j (crossed j i q)) (pair_number j i)))) → Laws j mask
  tested a b c d e f g h i k l m = record {
    some = lit< a;
    small = lit< b;
    runs = eqb→eq (j * (32 / j)) 32 c;
    row_of = equal_at 64 (λ x. x) (λ x. lower j (pair_number j x) + x / j % 2 * j) d;
    pair_in = less_at_law 64 (pair_number j) (λ x. 32) e;
    upper_in = less_at_law 32 (λ x. lower j x + j) (λ x. 64) f;
    lower_pair = equal_at 32 (λ x. pair_number j (lower j x)) (λ x. x) g;
    upper_pair = equal_at 32 (λ x. pair_number j (lower j x + j)) (λ x. x) h;
    mask_bit = equal_at 64 (λ q. bit q mask) (λ q. 1 - q / j % 2) i;
    mask_moved = equal_at 64 (λ q. cond (ltb q j) 0 (bit (q - j) mask)) (λ q. q / j % 2) k;
    crossed_in = less_at_two 64 (crossed j) (λ x y. 64) l;
    crossed_pair = equal_at_two 64 (λ x y. pair_number j (crossed j x y)) (λ x y. pair_number j x) m;
  }

pub laws : {j mask : ℕ} → Width j mask → Laws j mask
unfolding pair_number crossed bit
laws by32 = tested 32 4294967295 tt tt tt tt tt tt tt tt tt tt tt tt
laws by16 = tested 16 281470681808895 tt tt tt tt tt tt tt tt tt tt tt tt
laws by8 = tested 8 71777214294589695 tt tt tt tt tt tt tt tt tt tt tt tt
laws by4 = tested 4 1085102592571150095 tt tt tt tt tt tt tt tt tt tt tt tt
laws by2 = tested 2 3689348814741910323 tt tt tt tt tt tt tt tt tt tt tt tt
laws by1 = tested 1 6148914691236517205 tt tt tt tt tt tt tt tt tt tt tt tt

-- ---- a number's bit of width j

pub side : (j i : ℕ) → (i / j % 2 ≡ 0) ⊎ (i / j % 2 ≡ 1)
side j i = by (ℕ_discrete (i / j % 2) 0)
  where
    by : Dec (i / j % 2 ≡ 0) → (i / j % 2 ≡ 0) ⊎ (i / j % 2 ≡ 1)
    by (yes e) = inl e
    by (no f) = inr (omega (arith, mod-lt (i / j) (zero-lt-suc 1)))

pub crossed_by : (j i b : ℕ) {s t : ℕ} → i / j % 2 ≡ s → b / j % 2 ≡ t → crossed j i b ≡ i - s * j + t * j
unfolding crossed
crossed_by j i b e f = ap₂ (λ (x y : ℕ). i - x * j + y * j) e f

module _ {j mask : ℕ} (n : Laws j mask) (q : ℕ) (h : q < 64) where
  -- a column whose bit is set has the mask's columns before it
  pub set_high : q / j % 2 ≡ 1 → j ≤ q
  set_high e = by (dec_lt q j)
    where
      by : Dec (q < j) → j ≤ q
      by (yes l) = absurd (omega (arith, sym (ap (λ (t : Bool). cond t 0 (bit (q - j) mask)) (lt-ltb q j l)) ∙ n.mask_moved q h ∙ e))
      by (no l) = omega arith

  pub moved : j ≤ q → bit (q - j) mask ≡ q / j % 2
  moved l = sym (ap (λ (t : Bool). cond t 0 (bit (q - j) mask)) (le-ltb q j l)) ∙ n.mask_moved q h
