-- Rows less the entries that the tables have for their own trits: a row, a stretch of rows, and the whole. Assumes nothing.
use mathlib.Core.Path.{◌≡◌, refl, sym, ap, ap₂, ◌∙◌, fun_ext}
use mathlib.Core.Logic.{◌⊎◌, inl, inr}
use Prim.Native.Nat.{ℕ, ◌+◌, ◌*◌, ◌≤◌, ◌<◌}
use native.Mathlib.Decide.{dec_lt, ℕ_discrete}
use native.Mathlib.Omega.{arith}
use Rattle.trits.specs.Trit.{t0, sub_t, mul_t}
use Rattle.trits.proofs.Products.{dot_zero}
use Rattle.trits.proofs.Arithmetic.{add_zero_r, mul-zero}
use Rattle.matrix.specs.Linear.{Vector, Matrix}
use Rattle.matrix.specs.Blocks.{less_of, base3, entry_of, basis_row, basis, from, Cleared}
use Rattle.matrix.proofs.Dots.{dot_right}
use Rattle.matrix.proofs.Entries.{entry_same, less_entries}
use Rattle.grid.specs.Steps.{put_row, within, less_three}
use Rattle.grid.proofs.RowParts.{put_here, put_else}
use Rattle.grid.proofs.Words.{within_in, within_out}
use Rattle.tables.specs.Tables.{Tabled, Tables, Taken}

-- ---- one row

module _ {f v r : ℕ} {A : Matrix} (s : Tabled f v r A) {e g h : ℕ} (le : e < 81) (lg : g < 81) (lh : h < 81) where
  -- the row less three entries is the row cleared at the twelve columns; in the words that the tables leave out the block's rows are 0
  pub three_less : (c i : ℕ) → e ≡ base3 (λ j. A i (c + j)) 4 → g ≡ base3 (λ j. A i ((c + 4) + j)) 4 → h ≡ base3 (λ j. A i ((c + 8) + j)) 4
      → ((j t : ℕ) → j < 12 → (t < 64 * f) ⊎ (64 * v ≤ t) → basis r A j t ≡ t0)
      → within f v (less_three A i (r + e) (r + (81 + g)) (r + (162 + h))) (A i) ≡ less_of 12 (from c) (basis r A) (A i)
  three_less c i p q u outside = fun_ext (λ t. by t (dec_lt t (64 * f)) (dec_lt t (64 * v)))
    where
      three : Vector
      three = less_three A i (r + e) (r + (81 + g)) (r + (162 + h))

      -- the entry that the four trits from column k of the twelve on stand for
      at : (n k x y : ℕ) → n < 3 → x < 81 → 4 * n ≡ k → x ≡ base3 (λ j. A i ((c + k) + j)) 4 → r + (81 * n + x) ≡ y → (t : ℕ)
          → (64 * f ≤ t) × (t < 64 * v) → A y t ≡ entry_of 4 (λ j. basis r A (k + j)) (base3 (λ j. A i (c + (k + j))) 4) t
      at n k x y l m d b a t o =
          let old : Vector = λ j. A i ((c + k) + j) in
          let new : Vector = λ j. A i (c + (k + j)) in
          let same : old ≡ new = fun_ext (λ j. ap (A i) (omega arith)) in
          ap (λ (z : ℕ). A z t) (sym a) ∙ s.entries n x t l m o
          ∙ ap₂ (λ (z o : ℕ). entry_of 4 (λ j. basis r A (z + j)) o t) d (b ∙ ap (λ (z : Vector). base3 z 4) same)

      first : (t : ℕ) → (64 * f ≤ t) × (t < 64 * v) → A (r + e) t ≡ entry_of 4 (basis r A) (base3 (λ j. A i (c + j)) 4) t
      first t o =
          let a : r + e ≡ r + (81 * 0 + e) = omega arith in
          ap (λ (z : ℕ). A z t) a ∙ s.entries 0 e t (omega arith) le o
          ∙ entry_same 4 (λ j. basis r A (4 * 0 + j)) (basis r A) e t (λ j l. ap (λ (z : ℕ). basis r A z t) (omega arith))
          ∙ ap (λ (z : ℕ). entry_of 4 (basis r A) z t) p

      second : (t : ℕ) → (64 * f ≤ t) × (t < 64 * v) → A (r + (81 + g)) t ≡ entry_of 4 (λ j. basis r A (4 + j)) (base3 (λ j. A i (c + (4 + j))) 4) t
      second = at 1 4 g (r + (81 + g)) (omega arith) lg refl q refl

      third : (t : ℕ) → (64 * f ≤ t) × (t < 64 * v) → A (r + (162 + h)) t ≡ entry_of 4 (λ j. basis r A (8 + j)) (base3 (λ j. A i (c + (8 + j))) 4) t
      third = at 2 8 h (r + (162 + h)) (omega arith) lh refl u refl

      inside : (t : ℕ) → (64 * f ≤ t) × (t < 64 * v) → within f v three (A i) t ≡ less_of 12 (from c) (basis r A) (A i) t
      inside t o =
          within_in f v three (A i) t o ∙ ap₂ sub_t (ap₂ sub_t (ap (sub_t (A i t)) (first t o)) (second t o)) (third t o)
          ∙ less_entries (from c) (basis r A) (A i) t

      beside : (t : ℕ) → (t < 64 * f) ⊎ (64 * v ≤ t) → within f v three (A i) t ≡ less_of 12 (from c) (basis r A) (A i) t
      beside t o =
          within_out f v three (A i) t o
          ∙ sym (ap (sub_t (A i t)) (dot_zero 12 (λ j. A i (c + j)) (λ j. basis r A j t)
          (λ j l. ap (mul_t (A i (c + j))) (outside j t l o) ∙ mul-zero (A i (c + j)))) ∙ add_zero_r (A i t))

      by : (t : ℕ) → Dec (t < 64 * f) → Dec (t < 64 * v) → within f v three (A i) t ≡ less_of 12 (from c) (basis r A) (A i) t
      by t (yes a) b = beside t (inl a)
      by t (no a) (yes b) = inside t (omega arith, b)
      by t (no a) (no b) = beside t (inr (omega arith))

-- ---- a stretch of rows

pub taken_none : (r c a : ℕ) (A : Matrix) → Taken r c a a A A
taken_none r c a A = record { cleared = λ i h l. absurd (omega arith); kept = λ i h. refl }

module _ {r c a i : ℕ} {A B : Matrix} (l : i ≤ r) (s : Taken r c a i A B) where
  -- the block is not changed
  pub same_block : (j : ℕ) → basis r B j ≡ basis r A j
  unfolding basis_row
  same_block j = s.kept (basis_row r j) (inr (omega arith))

  pub taken_more : {C : Matrix} → a ≤ i → C ≡ put_row i (less_of 12 (from c) (basis r B) (B i)) B → Taken r c a (i + 1) A C
  taken_more {C} m e = record { cleared = λ k h g. at k h g (ℕ_discrete k i); kept = λ k h. by k h }
    where
      new : Vector
      new = less_of 12 (from c) (basis r B) (B i)

      else : (k : ℕ) → (k ≡ i → ⊥) → C k ≡ B k
      else k f = ap (λ (D : Matrix). D k) e ∙ put_else i new B k f

      at : (k : ℕ) → a ≤ k → k < i + 1 → Dec (k ≡ i) → C k ≡ less_of 12 (from c) (basis r A) (A k)
      at k h g (yes d) =
          ap (λ (D : Matrix). D k) e ∙ put_here i new B k d
          ∙ ap₂ (less_of 12 (from c)) (fun_ext same_block) (s.kept i (inr (omega arith)) ∙ ap A (sym d))
      at k h g (no f) = else k f ∙ s.cleared k h (omega arith)

      by : (k : ℕ) → (k < a) ⊎ (i + 1 ≤ k) → C k ≡ A k
      by k (inl h) = else k (λ z. omega arith) ∙ s.kept k (inl h)
      by k (inr h) = else k (λ z. omega arith) ∙ s.kept k (inr (omega arith))

-- the tables stay tables
pub taken_tabled : {f v r c a i : ℕ} {A B : Matrix} → i ≤ r → Taken r c a i A B → Tabled f v r A → Tabled f v r B
taken_tabled {f} {v} {r} {c} {a} {i} {A} {B} l s t = record {
  entries = λ h e q m n o.
      ap (λ (x : Vector). x q) (s.kept (r + (81 * h + e)) (inr (omega arith))) ∙ t.entries h e q m n o
      ∙ ap (λ (b : Matrix). entry_of 4 (λ j. b (4 * h + j)) e q) (sym (fun_ext (same_block l s)));
}

-- ---- the whole

pub cleared_none : (r c a b : ℕ) (A : Matrix) → b ≤ a → Cleared r 12 c a b A A
cleared_none r c a b A h = record { cleared = λ i l m. absurd (omega arith); kept = λ i l m. refl }

pub cleared_by : {f v r c a b : ℕ} {A B C : Matrix} → b ≤ r → Tables f v r A B → Taken r c a b B C → Cleared r 12 c a b A C
cleared_by {r = r} {c} {a} {b} {A} {B} {C} l s t = record {
  cleared = λ i h g.
      t.cleared i h g ∙ ap (less_of 12 (from c) (basis r B)) (s.kept i (inl (omega arith)))
      ∙ fun_ext (λ q. ap (sub_t (A i q))
      (dot_right 12 (λ j. A i (c + j)) (λ j. basis r B j q) (λ j. basis r A j q) (λ j m. ap (λ (v : Vector). v q) (s.block j m))));
  kept = λ i h g. t.kept i h ∙ s.kept i g;
}
