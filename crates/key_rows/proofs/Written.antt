-- The key's rows, written one after another, each word by word. Assumes nothing.
use mathlib.Core.Path.{◌≡◌, refl, sym, ap, ap₂, ◌∙◌}
use mathlib.Core.List.{List, ◌++◌}
use Prim.Native.Nat.{ℕ, zero, suc, ◌+◌, ◌-◌, ◌*◌, ◌/◌, ◌%◌, ◌^◌, ◌≤◌, ◌<◌}
use native.Mathlib.Nat.{suc-mul, mul-le-mul_right}
use native.Mathlib.Decide.{dec_lt}
use native.Mathlib.Omega.{arith}
use borrow.Rule.Slice.PartMut.{mid_of, put_mid}
use lib.ListN.{length, get_or, take}
use lib.Seq.{take_all, take-add}
use Rattle.trits.specs.Planes.{tabulate, ones_word, twos_word, ones_of, twos_of}
use Rattle.trits.specs.Rows.{rows_of, matrix_at}
use Rattle.trits.proofs.Lists.{length_tabulate, get_d_tabulate, tabulated}
use Rattle.trits.proofs.Matrix.{row_le}
use Rattle.trits.proofs.Patches.{Patched}
use Rattle.trits.proofs.Parts.{length_mid, get_d_mid, put_patched}
use Rattle.matrix.specs.Linear.{Matrix}
use Rattle.grid.specs.Steps.{Rows}
use Rattle.key_rows.specs.Steps.{read_down, key_ones, key_twos, TurnedGroup, each_block, Written, GroupEnd}
use Rattle.key_rows.proofs.Turned.{group_ones, group_twos}

pub written_none : (kw i : ℕ) (f : ℕ → ℕ → ℕ) (l : List ℕ) → Written kw i i f l l
written_none kw i f l = record { kept = refl; words = λ j g h o. absurd (omega arith); before = λ p h. refl }

-- one row more
module _ (src : List ℕ) (at : ℕ) {kw i j s : ℕ} {l₀ l ys : List ℕ} (n : ℕ) (d : n ≡ kw) (a : Written kw i j (λ m g. get_or src (at + (m - i) + 64 * g) 0) l₀ l)
    (h : i ≤ j) (room : j * kw + kw ≤ length l₀) (e : ys ≡ each_block (at + (j - i)) src s) (q : s ≡ n) where
  size : length ys ≡ n
  unfolding each_block
  size = ap length e ∙ length_tabulate s (λ g. get_or src (at + (j - i) + 64 * g) 0) ∙ q

  back : Patched (λ m. get_or ys m 0) (j * kw) n l (put_mid (j * kw) n l ys)
  back = put_patched (j * kw) n l (omega (arith, a.kept)) ys size

  row_word : (g : ℕ) → g < kw → get_or ys g 0 ≡ get_or src (at + (j - i) + 64 * g) 0
  unfolding each_block
  row_word g o = ap (λ (l : List ℕ). get_or l g 0) e ∙ get_d_tabulate s (λ g. get_or src (at + (j - i) + 64 * g) 0) g 0 (omega arith)

  by : (m g : ℕ) → i ≤ m → m < j + 1 → g < kw → Dec (m < j) → get_or (put_mid (j * kw) n l ys) (m * kw + g) 0 ≡ get_or src (at + (m - i) + 64 * g) 0
  by m g u v o (yes z) = back.below (m * kw + g) (omega (arith, row_le kw z)) ∙ a.words m g u z o
  by m g u v o (no z) =
      let p : m ≡ j = omega arith in
      ap (λ (k : ℕ). get_or (put_mid (j * kw) n l ys) (k * kw + g) 0) p ∙ back.new g (omega arith) ∙ row_word g o
      ∙ ap (λ (k : ℕ). get_or src (at + (k - i) + 64 * g) 0) (sym p)

  pub written_turn : Written kw i (j + 1) (λ m g. get_or src (at + (m - i) + 64 * g) 0) l₀ (put_mid (j * kw) n l ys)
  written_turn = record {
    kept = back.kept ∙ a.kept;
    words = λ m g u v o. by m g u v o (dec_lt m j);
    before = λ p u. back.below p (omega (arith, mul-le-mul_right kw h)) ∙ a.before p u;
  }

-- the rows of one group more
pub written_more : {kw i e : ℕ} {f h : ℕ → ℕ → ℕ} {l₀ l l' : List ℕ} → Written kw 0 i f l₀ l → Written kw i e h l l'
    → ((j g : ℕ) → i ≤ j → j < e → g < kw → h j g ≡ f j g) → Written kw 0 e f l₀ l'
written_more {kw} {i} {e} {f} {h} {l₀} {l} {l'} a b s = record {
  kept = b.kept ∙ a.kept;
  words = λ j g u v o. by j g v o (dec_lt j i);
  before = λ p u. absurd (omega arith);
}
  where
    by : (j g : ℕ) → j < e → g < kw → Dec (j < i) → get_or l' (j * kw + g) 0 ≡ f j g
    by j g v o (yes z) = b.before (j * kw + g) (omega (arith, row_le kw z)) ∙ a.words j g (omega arith) z o
    by j g v o (no z) = b.words j g (omega arith) v o ∙ s j g (omega arith) v o

-- ---- all rows

rows_taken : (f : ℕ → ℕ → ℕ) (kw : ℕ) (l : List ℕ) (k : ℕ) → k * kw ≤ length l → ((j g : ℕ) → j < k → g < kw → get_or l (j * kw + g) 0 ≡ f j g)
    → take (k * kw) l ≡ rows_of (λ i. tabulate (f i) kw) k
unfolding rows_of
rows_taken f kw l zero h s = let z : 0 * kw ≡ 0 = omega arith in ap (λ (n : ℕ). take n l) z
rows_taken f kw l (suc k) h s =
    let u : suc k * kw ≡ k * kw + kw = suc-mul k kw in
    let v : k * kw + kw ≤ length l = omega arith in
    ap (λ (n : ℕ). take n l) u ∙ take-add (k * kw) kw l
    ∙ ap₂ ◌++◌ (rows_taken f kw l k (omega arith) (λ j g o. s j g (omega arith)))
    (tabulated kw (f k) (mid_of (k * kw) kw l) (length_mid (k * kw) kw l v) (λ j o. get_d_mid (k * kw) kw l v j o ∙ s k j (omega arith) o))

written_all : {kw i : ℕ} {f : ℕ → ℕ → ℕ} {l₀ l : List ℕ} (k : ℕ) → Written kw 0 i f l₀ l → i ≡ k → length l₀ ≡ k * kw
    → l ≡ rows_of (λ i. tabulate (f i) kw) k
written_all {kw} {i} {f} {l₀} {l} k a e h =
    sym (take_all (k * kw) l (omega (arith, a.kept))) ∙ rows_taken f kw l k (omega (arith, a.kept)) (λ j g o. a.words j g (omega arith) (omega arith))

module _ (r : ℕ) (A : Matrix) (k : ℕ) {kw i : ℕ} {l₀ l : List ℕ} where
  pub key_ones_law : Written kw 0 i (λ j. ones_word (read_down r A j)) l₀ l → i ≡ k → length l₀ ≡ k * kw → l ≡ key_ones k kw (read_down r A)
  unfolding key_ones ones_of
  key_ones_law a e h = written_all k a e h

  pub key_twos_law : Written kw 0 i (λ j. twos_word (read_down r A j)) l₀ l → i ≡ k → length l₀ ≡ k * kw → l ≡ key_twos k kw (read_down r A)
  unfolding key_twos twos_of
  key_twos_law a e h = written_all k a e h

-- ---- group after group

-- the first i rows of the key are written, and the first r rows of the matrix are as they were
pub record Writing (w r kw i : ℕ) (o₀ t₀ ko₀ kt₀ o t ko kt : List ℕ) : Type 0 where
  pub ones_kept : length o ≡ length o₀
  pub twos_kept : length t ≡ length t₀
  pub ones_same : (p : ℕ) → p < r * w → get_or o p 0 ≡ get_or o₀ p 0
  pub twos_same : (p : ℕ) → p < r * w → get_or t p 0 ≡ get_or t₀ p 0
  pub ones_rows : Written kw 0 i (λ j. ones_word (read_down r (matrix_at w o₀ t₀) j)) ko₀ ko
  pub twos_rows : Written kw 0 i (λ j. twos_word (read_down r (matrix_at w o₀ t₀) j)) kt₀ kt

pub writing_none : (w r kw : ℕ) (o t ko kt : List ℕ) → Writing w r kw 0 o t ko kt o t ko kt
writing_none w r kw o t ko kt = record {
  ones_kept = refl;
  twos_kept = refl;
  ones_same = λ p h. refl;
  twos_same = λ p h. refl;
  ones_rows = written_none kw 0 (λ j. ones_word (read_down r (matrix_at w o t) j)) ko;
  twos_rows = written_none kw 0 (λ j. twos_word (read_down r (matrix_at w o t) j)) kt;
}

module _ {rows w r kw i e k : ℕ} {o₀ t₀ ko₀ kt₀ o t ko kt o' t' : List ℕ} (grid : Rows o₀ t₀ rows w) (room : r ≤ rows) (fit : r + k ≤ 64 * w)
    (a : Writing w r kw i o₀ t₀ ko₀ kt₀ o t ko kt) (end : GroupEnd i ((r + i) % 64) k e)
    (b : TurnedGroup w r ((r + i) / 64) kw o o') (d : TurnedGroup w r ((r + i) / 64) kw t t')
    (fo : (p : ℕ) → get_or o' p 0 < 2 ^ 64) (ft : (p : ℕ) → get_or t' p 0 < 2 ^ 64) where
  -- the column of row j, as a column of the word
  column_of : (j : ℕ) → i ≤ j → j < e → ((r + i) / 64 < w) × ((r + i) % 64 + (j - i) < 64) × (r + j ≡ 64 * ((r + i) / 64) + ((r + i) % 64 + (j - i)))
  column_of j h l =
      (omega (arith, end.some, end.within), omega (arith, end.near), omega arith)

  place : (j g : ℕ) → r * w + (r + i) % 64 + (j - i) + 64 * g ≡ r * w + ((r + i) % 64 + (j - i)) + 64 * g
  place j g = omega arith

  ones_word_law : (j g : ℕ) → i ≤ j → j < e → g < kw
      → get_or o' (r * w + (r + i) % 64 + (j - i) + 64 * g) 0 ≡ ones_word (read_down r (matrix_at w o₀ t₀) j) g
  ones_word_law j g h l m =
      let q = column_of j h l in
      ap (λ (z : ℕ). get_or o' z 0) (place j g)
      ∙ group_ones grid room ((r + i) / 64) ((r + i) % 64 + (j - i)) q.0 q.1 j g q.2 m a.ones_kept a.ones_same b (fo _)

  twos_word_law : (j g : ℕ) → i ≤ j → j < e → g < kw
      → get_or t' (r * w + (r + i) % 64 + (j - i) + 64 * g) 0 ≡ twos_word (read_down r (matrix_at w o₀ t₀) j) g
  twos_word_law j g h l m =
      let q = column_of j h l in
      ap (λ (z : ℕ). get_or t' z 0) (place j g)
      ∙ group_twos grid room ((r + i) / 64) ((r + i) % 64 + (j - i)) q.0 q.1 j g q.2 m a.twos_kept a.twos_same d (ft _)

  pub writing_turn : {ko' kt' : List ℕ} → Written kw i e (λ j g. get_or o' (r * w + (r + i) % 64 + (j - i) + 64 * g) 0) ko ko'
      → Written kw i e (λ j g. get_or t' (r * w + (r + i) % 64 + (j - i) + 64 * g) 0) kt kt' → Writing w r kw e o₀ t₀ ko₀ kt₀ o' t' ko' kt'
  writing_turn x y = record {
    ones_kept = b.kept ∙ a.ones_kept;
    twos_kept = d.kept ∙ a.twos_kept;
    ones_same = λ p h. b.before p h ∙ a.ones_same p h;
    twos_same = λ p h. d.before p h ∙ a.twos_same p h;
    ones_rows = written_more a.ones_rows x ones_word_law;
    twos_rows = written_more a.twos_rows y twos_word_law;
  }
