-- Columns that stand for the columns of another matrix at the places of an order, and one column more for a product of its rows: elimination at the columns
-- is elimination at the places. Assumes nothing.
use mathlib.Core.Path.{◌≡◌, refl, sym, ap, ap₂, ◌∙◌, subst}
use mathlib.Core.Bool.{Bool, true, false, cond}
use mathlib.Core.List.{List, [], ◌∷◌, ◌++◌, map, map-append}
use Prim.Native.Nat.{ℕ, zero, suc, ◌+◌, ◌-◌, ◌≤◌, ◌<◌}
use native.Mathlib.Omega.{arith}
use lib.Dec.{eqb, ltb}
use lib.ListN.{length, get_or, take, length-map}
use lib.Seq.{take-suc, take_all}
use Rattle.trits.specs.Trit.{Trit, sub_t, mul_t, is_set, dot_v}
use Rattle.matrix.specs.Linear.{Vector, zeros, Matrix, times, elem, rank, pivots, range}
use Rattle.matrix.specs.Steps.{swap_rows, scale_row, pivoted, first_row, pivot_row, has_pivot, step_of, Stage, tried, eliminate, eliminated, begun}
use Rattle.matrix.proofs.Dots.{dot_comm, dot_mul, dot_less}
use Rattle.matrix.proofs.Places.{Below, elem_here, or_true_right}
use Rattle.matrix.proofs.Orders.{order_good}
use Rattle.matrix.proofs.Counts.{range_length, range_at, range_elem, range_order}
use Rattle.matrix.proofs.Rank.{rank_most, rank_mono}
use Rattle.matrix.proofs.Steps.{has_row, step_has, step_none}
use Rattle.matrix.proofs.Kept.{tried_cells, tried_kept, eliminate_pivots, eliminate_rank}

-- ---- linear readings of a row: a trit of it, its product with a vector

pub record Linear (L : Vector → Trit) : Type 0 where
  pub scale : (x : Trit) (u : Vector) → L (λ q. mul_t x (u q)) ≡ mul_t x (L u)
  pub less : (x : Trit) (u v : Vector) → L (λ q. sub_t (u q) (mul_t x (v q))) ≡ sub_t (L u) (mul_t x (L v))

pub read_linear : (p : ℕ) → Linear (λ v. v p)
read_linear p = record { scale = λ x u. refl; less = λ x u v. refl }

dot_linear : (n : ℕ) (z : Vector) → Linear (λ v. dot_v v z n)
dot_linear n z = record {
  scale = λ x u. dot_comm n (λ q. mul_t x (u q)) z ∙ dot_mul n x z u ∙ ap (mul_t x) (dot_comm n z u);
  less = λ x u v. dot_less n x u v z;
}

-- ---- a step at column j of M and at place q of H, which are the same in the first r rows

module _ (r j q : ℕ) (M H : Matrix) (col : (i : ℕ) → i < r → M i j ≡ H i q) where
  found_alike : (at k : ℕ) → ((i : ℕ) → at ≤ i → i < at + k → i < r) → first_row M j at k ≡ first_row H q at k
  unfolding first_row
  found_alike at zero l = refl
  found_alike at (suc k) l =
      ap₂ (λ (x : Trit) (n : ℕ). cond (is_set x) at n) (col at (l at (omega arith) (omega arith)))
      (found_alike (suc at) k (λ i a b. l i (omega arith) (omega arith)))

  row_alike : (at : ℕ) → pivot_row r M j at ≡ pivot_row r H q at
  row_alike at = found_alike at (r - at) (λ i a b. omega arith)

  pub has_alike : (at : ℕ) → has_pivot r at j M ≡ has_pivot r at q H
  unfolding has_pivot
  has_alike at = ap (λ (k : ℕ). ltb k r) (row_alike at)

  module _ (at a : ℕ) (hat : at < r) (ha : a < r) where
    moved_in : (i : ℕ) → i < r → cond (eqb i at) a (cond (eqb i a) at i) < r
    moved_in i h = by (eqb i at) (eqb i a)
      where
        by : (s t : Bool) → cond s a (cond t at i) < r
        by true t = ha
        by false true = hat
        by false false = h

    scaled_alike : (L : Vector → Trit) (lin : Linear L) (t : ℕ) → ((i : ℕ) → i < r → M i t ≡ L (H i)) → (i : ℕ) → i < r
        → scale_row at (M a j) (swap_rows at a M) i t ≡ L (scale_row at (H a q) (swap_rows at a H) i)
    scaled_alike L lin t read i h = by (eqb i at)
      where
        k : ℕ
        k = cond (eqb i at) a (cond (eqb i a) at i)

        by : (s : Bool) → cond s (mul_t (M a j) (M k t)) (M k t) ≡ L (λ p. cond s (mul_t (H a q) (H k p)) (H k p))
        by true = ap₂ mul_t (col a ha) (read k (moved_in i h)) ∙ sym (lin.scale (H a q) (H k))
        by false = read k (moved_in i h)

    pivoted_alike : (L : Vector → Trit) (lin : Linear L) (t : ℕ) → ((i : ℕ) → i < r → M i t ≡ L (H i)) → (i : ℕ) → i < r
        → pivoted at j a M i t ≡ L (pivoted at q a H i)
    pivoted_alike L lin t read i h = by (ltb at i)
      where
        S : Matrix
        S = scale_row at (M a j) (swap_rows at a M)

        S' : Matrix
        S' = scale_row at (H a q) (swap_rows at a H)

        by : (s : Bool) → cond s (sub_t (S i t) (mul_t (S i j) (S at t))) (S i t) ≡ L (λ p. cond s (sub_t (S' i p) (mul_t (S' i q) (S' at p))) (S' i p))
        by true =
            ap₂ (λ (x y : Trit). sub_t x (mul_t (S i j) y)) (scaled_alike L lin t read i h) (scaled_alike L lin t read at hat)
            ∙ ap (λ (x : Trit). sub_t (L (S' i)) (mul_t x (L (S' at)))) (scaled_alike (λ v. v q) (read_linear q) j col i h)
            ∙ sym (lin.less (S' i q) (S' i) (S' at))
        by false = scaled_alike L lin t read i h

  pub step_alike : (L : Vector → Trit) (lin : Linear L) (t : ℕ) → ((i : ℕ) → i < r → M i t ≡ L (H i)) → (at i : ℕ) → i < r
      → step_of r at j M i t ≡ L (step_of r at q H i)
  step_alike L lin t read at i h = by (has_pivot r at q H) refl
    where
      by : (s : Bool) → has_pivot r at q H ≡ s → step_of r at j M i t ≡ L (step_of r at q H i)
      by true e =
          let f = has_row r at q H e in
          ap (λ (B : Matrix). B i t) (step_has r at j M (has_alike at ∙ e))
          ∙ ap (λ (a : ℕ). pivoted at j a M i t) (row_alike at)
          ∙ pivoted_alike at (pivot_row r H q at) (omega (arith, f.0, f.1)) f.1 L lin t read i h
          ∙ ap (λ (B : Matrix). L (B i)) (sym (step_has r at q H e))
      by false e =
          ap (λ (B : Matrix). B i t) (step_none r at j M (has_alike at ∙ e)) ∙ read i h ∙ ap (λ (B : Matrix). L (B i)) (sym (step_none r at q H e))

-- ---- the columns below m of M are those of H at the places f; where there are further places, column m is H times z

pub record Image (r n m : ℕ) (f : ℕ → ℕ) (z : Vector) (M H : Matrix) : Type 0 where
  pub columns : (i t : ℕ) → i < r → t < m → M i t ≡ H i (f t)
  pub known : m < n → (i : ℕ) → i < r → M i m ≡ times n H z i

module _ (r n m : ℕ) (f : ℕ → ℕ) (z : Vector) where
  image_step : (M H : Matrix) (j at : ℕ) → j < m → Image r n m f z M H → Image r n m f z (step_of r at j M) (step_of r at (f j) H)
  image_step M H j at h g = record {
    columns = λ i t l k. step_alike r j (f j) M H col (λ v. v (f t)) (read_linear (f t)) t (λ i l. g.columns i t l k) at i l;
    known = λ k i l. step_alike r j (f j) M H col (λ v. dot_v v z n) (dot_linear n z) m (g.known k) at i l;
  }
    where
      col : (i : ℕ) → i < r → M i j ≡ H i (f j)
      col i l = g.columns i j l h

  -- two stages alike
  record Along (s s' : Stage) : Type 0 where
    cells : Image r n m f z s.cells s'.cells
    kept : s'.kept ≡ map f s.kept

  along_try : (j : ℕ) (s s' : Stage) → j < m → Along s s' → Along (tried r j s) (tried r (f j) s')
  along_try j s s' h g = record {
    cells = subst (λ (A : Matrix). Image r n m f z A (tried r (f j) s').cells) (sym (tried_cells r j s))
        (subst (λ (B : Matrix). Image r n m f z (step_of r (length s.kept) j s.cells) B)
        (ap (λ (k : ℕ). step_of r k (f j) s'.cells) (sym same) ∙ sym (tried_cells r (f j) s'))
        (image_step s.cells s'.cells j (length s.kept) h g.cells));
    kept = tried_kept r (f j) s'
        ∙ ap₂ (λ (t : Bool) (l : List ℕ). cond t (l ++ (f j ∷ [])) l) alike g.kept
        ∙ by (has_pivot r (length s.kept) j s.cells) ∙ ap (map f) (sym (tried_kept r j s));
  }
    where
      same : length s'.kept ≡ length s.kept
      same = ap (λ (l : List ℕ). length l) g.kept ∙ length-map s.kept f

      alike : has_pivot r (length s'.kept) (f j) s'.cells ≡ has_pivot r (length s.kept) j s.cells
      alike =
          ap (λ (k : ℕ). has_pivot r k (f j) s'.cells) same
          ∙ sym (has_alike r j (f j) s.cells s'.cells (λ i l. g.cells.columns i j l h) (length s.kept))

      by : (t : Bool) → cond t (map f s.kept ++ (f j ∷ [])) (map f s.kept) ≡ map f (cond t (s.kept ++ (j ∷ [])) s.kept)
      by true = sym (map-append f s.kept (j ∷ []))
      by false = refl

  along_all : (ps : List ℕ) (s s' : Stage) → Below m ps → Along s s' → Along (eliminate r ps s) (eliminate r (map f ps) s')
  unfolding eliminate
  along_all [] s s' b g = g
  along_all (q ∷ qs) s s' b g =
      along_all qs (tried r q s) (tried r (f q) s') (λ x k. b x (or_true_right (eqb x q) (elem x qs) k)) (along_try q s s' (b q (elem_here q qs)) g)

-- ---- the first m places of an order

pub map_range : (order : List ℕ) (m : ℕ) → m ≤ length order → map (λ j. get_or order j 0) (range m) ≡ take m order
unfolding range
map_range order zero h = refl
map_range order (suc m) h =
    map-append (λ (j : ℕ). get_or order j 0) (range m) (m ∷ [])
    ∙ ap (λ (l : List ℕ). l ++ (get_or order m 0 ∷ [])) (map_range order m (omega arith)) ∙ sym (take-suc order m 0 (omega arith))

pub range_below : (m : ℕ) → Below m (range m)
range_below m = (order_good m (range m) (range_order m)).1

mapped_at : (f : ℕ → ℕ) (ps : List ℕ) (c : ℕ) → c < length ps → get_or (map f ps) c 0 ≡ f (get_or ps c 0)
mapped_at f [] c h = absurd (omega arith)
mapped_at f (p ∷ ps) zero h = refl
mapped_at f (p ∷ ps) (suc c) h = mapped_at f ps c (omega arith)

module _ (r n m : ℕ) (order : List ℕ) (z : Vector) (M H : Matrix) (h : m ≤ length order) (b : Below n (take m order))
    (g : Image r n m (λ j. get_or order j 0) z M H) where
  along : Along r n m (λ j. get_or order j 0) z (eliminate r (range m) (begun M)) (eliminate r (take m order) (begun H))
  along =
      subst (λ (l : List ℕ). Along r n m (λ j. get_or order j 0) z (eliminate r (range m) (begun M)) (eliminate r l (begun H))) (map_range order m h)
      (along_all r n m (λ j. get_or order j 0) z (range m) (begun M) (begun H) (range_below m) (record { cells = g; kept = refl }))

  pub image_eliminated : Image r n m (λ j. get_or order j 0) z (eliminated r M (range m)) (eliminated r H (take m order))
  unfolding eliminated
  image_eliminated = along.cells

  -- as many columns are kept as places
  pub image_rank : rank r m M (range m) ≡ rank r n H (take m order)
  image_rank =
      sym (eliminate_rank r m M (range m) (range_below m)) ∙ sym (length-map (eliminate r (range m) (begun M)).kept (λ j. get_or order j 0))
      ∙ ap (λ (l : List ℕ). length l) (sym along.kept) ∙ eliminate_rank r n H (take m order) b

  -- and they stand for them
  pub image_pivots : (c : ℕ) → c < length (pivots r m M (range m))
      → get_or (pivots r n H (take m order)) c 0 ≡ get_or order (get_or (pivots r m M (range m)) c 0) 0
  image_pivots c l =
      let e = eliminate_pivots r m M (range m) (range_below m) in
      ap (λ (l : List ℕ). get_or l c 0) (sym (eliminate_pivots r n H (take m order) b) ∙ along.kept ∙ ap (map (λ j. get_or order j 0)) e)
      ∙ mapped_at (λ j. get_or order j 0) (pivots r m M (range m)) c l

-- ---- the first m columns

-- their rank depends on no others
pub rank_alike : (r m : ℕ) (M H : Matrix) → ((i t : ℕ) → i < r → t < m → M i t ≡ H i t) → rank r m M (range m) ≡ rank r m H (range m)
rank_alike r m M H f =
    image_rank r m m (range m) zeros M H (omega (arith, range_length m)) (λ q h. range_below m q (rw whole at h)) (record {
      columns = λ i t l k. f i t l k ∙ ap (H i) (sym (range_at m t k));
      known = λ l. absurd (omega arith);
    })
    ∙ ap (rank r m H) whole
  where
    whole : take m (range m) ≡ range m
    whole = take_all m (range m) (omega (arith, range_length m))

-- where they have full rank, all columns have it
pub full_more : (r m n : ℕ) (H : Matrix) → m ≤ n → rank r m H (range m) ≡ r → rank r n H (range n) ≡ r
full_more r m n H h e =
    let below : Below n (range m) = λ q k. omega (arith, range_below m q k) in
    let same : rank r m H (range m) ≡ rank r n H (range m) = sym (eliminate_rank r m H (range m) (range_below m)) ∙ eliminate_rank r n H (range m) below in
    let more = rank_mono r n H (range m) (range n) below (range_below n) (λ q k. range_elem n q (below q k)) in
    omega (arith, same, more, rank_most r n H (range n) (range_below n))
