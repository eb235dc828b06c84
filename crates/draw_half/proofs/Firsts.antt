-- The first part, gathered, with a column for what the last part adds, and eliminated, stands for the half's matrix eliminated at the places. Assumes nothing.
use mathlib.Core.Path.{◌≡◌, refl, sym, ap, ◌∙◌}
use mathlib.Core.Bool.{Bool, cond}
use mathlib.Core.Logic.{◌⊎◌, inl, inr}
use mathlib.Core.List.{List}
use Prim.Native.Nat.{ℕ, ◌+◌, ◌*◌, ◌/◌, ◌≤◌, ◌<◌}
use native.Mathlib.Decide.{dec_lt}
use native.Mathlib.Omega.{arith}
use borrow.Author.Tests.{lt-ltb, le-ltb}
use lib.Dec.{ltb}
use lib.ListN.{length, get_or, take, drop}
use Rattle.trits.specs.Trit.{t0, put_v, dot_v}
use Rattle.matrix.specs.Linear.{Vector, Matrix, times, rank, pivots, range}
use Rattle.matrix.specs.Orders.{Order}
use Rattle.matrix.specs.Steps.{eliminated, first_set}
use Rattle.matrix.specs.Blocks.{Front, columns_by}
use Rattle.matrix.proofs.Dots.{put_same, put_other, dot_past}
use Rattle.matrix.proofs.Places.{elem_at}
use Rattle.matrix.proofs.Greedy.{pivots_kept}
use Rattle.matrix.proofs.FirstPart.{Image, range_below, image_eliminated, image_rank, image_pivots}
use Rattle.scheme_laws.proofs.Draws.{first_below}
use Rattle.draw_walk.specs.Walks.{with_products, pivot_place}
use Rattle.draw_walk.proofs.Walked.{over_row, over_rest, walk_pivot}
use Rattle.draw_half.specs.Steps.{Ends, WordsFor, LoweredFirst}

-- ---- the words that are used

pub words_all : (w m : ℕ) → m ≤ 64 * w → m / 64 + 1 ≤ w → WordsFor w m (m / 64 + 1)
words_all w m h l = record { within = l; columns = omega arith; one_more = inl (omega arith) }

pub words_most : (w m : ℕ) → m ≤ 64 * w → WordsFor w m w
words_most w m h = record { within = omega arith; columns = h; one_more = inr refl }

-- ---- the matrices, one after another

module _ (r m N : ℕ) (order : List ℕ) (o : Order (length order) order) (front : m ≤ length order) (fits : length order ≤ N) (H A : Matrix) (e : ℕ)
    (past : r + 243 ≤ e) (ends : Ends (length order) (A e)) {A₂ A₃ : Matrix} (g : Front r (columns_by (λ j. get_or order j 0) m H) A A₂)
    (k : A₃ ≡ with_products (cond (ltb m (length order)) r 0) m N H (A₂ e) A₂) where
  abbrev n : ℕ
  n = length order

  abbrev C : Matrix
  C i = put_v (A₂ i) m (times N H (A₂ e) i)

  -- a row of the matrix has its product
  row_known : m < n → (i : ℕ) → i < r → A₃ i ≡ C i
  row_known l i h =
      ap (λ (M : Matrix). M i) (k ∙ ap (λ (b : Bool). with_products (cond b r 0) m N H (A₂ e) A₂) (lt-ltb m n l)) ∙ over_row r C A₂ i h

  -- or is as it was gathered
  row_none : (m < n → ⊥) → (i : ℕ) → A₃ i ≡ A₂ i
  row_none f i =
      ap (λ (M : Matrix). M i) (k ∙ ap (λ (b : Bool). with_products (cond b r 0) m N H (A₂ e) A₂) (le-ltb m n (omega arith)))
      ∙ over_rest 0 C A₂ i (omega arith)

  -- the other rows stay
  row_rest : (i : ℕ) → r ≤ i → A₃ i ≡ A₂ i
  row_rest i h = by (dec_lt m n)
    where
      by : Dec (m < n) → A₃ i ≡ A₂ i
      by (yes l) =
          ap (λ (M : Matrix). M i) (k ∙ ap (λ (b : Bool). with_products (cond b r 0) m N H (A₂ e) A₂) (lt-ltb m n l)) ∙ over_rest r C A₂ i h
      by (no f) = row_none f i

  in_front : (i t : ℕ) → i < r → t < m → A₂ i t ≡ H i (get_or order t 0)
  in_front i t h l = ap (λ (v : Vector). v t) (g.front i h) ∙ ap (λ (b : Bool). cond b (H i (get_or order t 0)) t0) (lt-ltb t m l)

  -- 0 past the columns
  columns_past : (i t : ℕ) → i < r → m < t → A₃ i t ≡ t0
  columns_past i t h l = by (dec_lt m n)
    where
      none : A₂ i t ≡ t0
      none = ap (λ (v : Vector). v t) (g.front i h) ∙ ap (λ (b : Bool). cond b (H i (get_or order t 0)) t0) (le-ltb t m (omega arith))

      by : Dec (m < n) → A₃ i t ≡ t0
      by (yes a) = ap (λ (v : Vector). v t) (row_known a i h) ∙ put_other (A₂ i) m (times N H (A₂ e) i) t (λ z. omega arith) ∙ none
      by (no f) = ap (λ (v : Vector). v t) (row_none f i) ∙ none

  -- past the words that are used
  pub lower_past : {w v : ℕ} → WordsFor w m v → ((i t : ℕ) → 64 * w ≤ t → A₃ i t ≡ t0) → (i t : ℕ) → i < r → 64 * v ≤ t → A₃ i t ≡ t0
  lower_past {w} {v} a z i t h l = by a.one_more
    where
      by : (m < 64 * v) ⊎ (v ≡ w) → A₃ i t ≡ t0
      by (inl b) = columns_past i t h (omega arith)
      by (inr b) = z i t (omega arith)

  image : Image r n m (λ j. get_or order j 0) (A e) A₃ H
  image = record { columns = columns; known = known }
    where
      columns : (i t : ℕ) → i < r → t < m → A₃ i t ≡ H i (get_or order t 0)
      columns i t h l = by (dec_lt m n)
        where
          by : Dec (m < n) → A₃ i t ≡ H i (get_or order t 0)
          by (yes a) = ap (λ (v : Vector). v t) (row_known a i h) ∙ put_other (A₂ i) m (times N H (A₂ e) i) t (λ z. omega arith) ∙ in_front i t h l
          by (no f) = ap (λ (v : Vector). v t) (row_none f i) ∙ in_front i t h l

      known : m < n → (i : ℕ) → i < r → A₃ i m ≡ times n H (A e) i
      known l i h =
          ap (λ (v : Vector). v m) (row_known l i h) ∙ put_same (A₂ i) m (times N H (A₂ e) i)
          ∙ ap (λ (v : Vector). dot_v (H i) v N) (g.kept e past) ∙ dot_past n N (H i) (A e) fits ends.past

  pub first_rank : rank r m A₃ (range m) ≡ rank r n H (take m order)
  first_rank = image_rank r n m order (A e) A₃ H front (first_below n m order o) image

  pub first_lowered : {B : Matrix} → Front r (eliminated r A₃ (range m)) A₃ B → LoweredFirst r m order H (A e) A B
  unfolding rank
  first_lowered {B} d = record {
    columns = λ i j h l. ap (λ (v : Vector). v j) (d.front i h) ∙ low.columns i j h l;
    known = λ l i h. ap (λ (v : Vector). v m) (d.front i h) ∙ low.known l i h;
    pivot = pivot;
    kept = λ i h. d.kept i h ∙ row_rest i (omega arith) ∙ g.kept i h;
  }
    where
      low : Image r n m (λ j. get_or order j 0) (A e) (eliminated r A₃ (range m)) (eliminated r H (take m order))
      low = image_eliminated r n m order (A e) A₃ H front (first_below n m order o) image

      pivot : rank r n H (take m order) ≡ r → (c : ℕ) → c < r
          → (pivot_place B (range m) c < m) × (get_or (pivots r n H (take m order)) c 0 ≡ get_or order (pivot_place B (range m) c) 0)
      pivot full c h =
          let place : pivot_place B (range m) c ≡ get_or (pivots r m A₃ (range m)) c 0 =
          ap (λ (v : Vector). first_set v (drop c (range m))) (d.front c h) ∙ walk_pivot r m A₃ (range m) (range_below m) all c h in (
            omega (
              arith,
              place,
              (pivots_kept r m A₃ (range m) (range_below m)).below (get_or (pivots r m A₃ (range m)) c 0)
                  (elem_at (pivots r m A₃ (range m)) c (omega (arith, all))),
            ),
            image_pivots r n m order (A e) A₃ H front (first_below n m order o) image c (omega (arith, all)) ∙ ap (λ (j : ℕ). get_or order j 0) (sym place),
          )
        where
          all : length (pivots r m A₃ (range m)) ≡ r
          all = first_rank ∙ full
