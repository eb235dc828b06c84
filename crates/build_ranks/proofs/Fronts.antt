-- The first words of a matrix's rows, copied to planes that were 0. Assumes nothing.
use mathlib.Core.Path.{◌≡◌, refl, sym, ap, ap₂, ◌∙◌, subst}
use mathlib.Core.List.{List, ◌++◌}
use Prim.Native.Nat.{ℕ, ◌+◌, ◌*◌, ◌/◌, ◌%◌, ◌≤◌, ◌<◌}
use native.Mathlib.Decide.{dec_lt, ℕ_discrete}
use native.Mathlib.Nat.{mul-le-mul_left, mul-le-mul_right, suc-mul}
use native.Mathlib.Numerals.{add-one}
use native.Mathlib.Omega.{arith}
use borrow.Rule.Slice.PartMut.{mid_of}
use lib.Bits.{bit_and}
use lib.ListN.{length, get_or, take}
use lib.Seq.{drop-drop}
use Rattle.trits.specs.Planes.{zero_words, bit, trit}
use Rattle.trits.specs.Rows.{matrix_at, put_words}
use Rattle.trits.proofs.Lists.{length_zeros, zero_at}
use Rattle.trits.proofs.Matrix.{row_le}
use Rattle.trits.proofs.Parts.{length_mid, get_d_mid, put_patched}
use Rattle.trits.proofs.Patches.{Patched}
use Rattle.grid.specs.Steps.{Rows}
use Rattle.grid.proofs.Cells.{cell_word}
use Rattle.grid.proofs.Swaps.{split}
use Rattle.build_ranks.specs.Steps.{Fronts}

-- ---- one plane, row after row

-- a row that is put is a stretch replaced
put_stretch : (a : ℕ) (row xs : List ℕ) → a + length row ≤ length xs → Patched (λ j. get_or row j 0) a (length row) xs (put_words a xs row)
unfolding put_words
put_stretch a row xs h =
    subst (λ (l : List ℕ). Patched (λ j. get_or row j 0) a (length row) xs (take a xs ++ (row ++ l))) (drop-drop (length row) a xs)
    (put_patched a (length row) xs h row refl)

-- one row more
pub fronts_turn : {plane l₀ l l' : List ℕ} {w v k : ℕ} (n : ℕ) → n ≡ v → Fronts plane w v k l₀ l → k * w + v ≤ length plane → k * v + v ≤ length l₀
    → l' ≡ put_words (k * v) l (mid_of (k * w) n plane) → Fronts plane w v (k + 1) l₀ l'
fronts_turn {plane} {l₀} {l} {l'} {w} {v} {k} n e f hp hl d = record {
  kept = ap (λ (x : List ℕ). length x) d ∙ p.kept ∙ f.kept;
  words = λ i j h g. ap (λ (x : List ℕ). get_or x (i * v + j) 0) d ∙ by i j h g (ℕ_discrete i k);
  rest = λ q h. ap (λ (x : List ℕ). get_or x q 0) d ∙ p.above q (omega (arith, size, more)) ∙ f.rest q (omega (arith, more));
}
  where
    row : List ℕ
    row = mid_of (k * w) n plane

    size : length row ≡ v
    size = length_mid (k * w) n plane (omega arith) ∙ e

    more : (k + 1) * v ≡ k * v + v
    more = ap (λ (x : ℕ). x * v) (add-one k) ∙ suc-mul k v

    p : Patched (λ j. get_or row j 0) (k * v) (length row) l (put_words (k * v) l row)
    p = put_stretch (k * v) row l (omega (arith, size, f.kept))

    by : (i j : ℕ) → i < k + 1 → j < v → Dec (i ≡ k) → get_or (put_words (k * v) l row) (i * v + j) 0 ≡ get_or plane (i * w + j) 0
    by i j h g (yes z) = rw z (p.new j (omega (arith, size)) ∙ get_d_mid (k * w) n plane (omega arith) j (omega arith))
    by i j h g (no z) = let b : i < k = omega (arith, z) in p.below (i * v + j) (omega (arith, row_le v b)) ∙ f.words i j b g

-- ---- both planes

module _ {o t o₀ t₀ os ts : List ℕ} {w v r : ℕ} (fo : Fronts o w v r o₀ os) (ft : Fronts t w v r t₀ ts) where
  -- the copied rows have the trits of the given ones
  pub front_cells : v ≤ w → (i q : ℕ) → i < r → q < 64 * v → matrix_at v os ts i q ≡ matrix_at w o t i q
  front_cells h i q l m =
      cell_word v os ts i q m
      ∙ ap₂ (λ (x y : ℕ). trit (bit (q % 64) x) (bit (q % 64) y)) (fo.words i (q / 64) l (omega arith)) (ft.words i (q / 64) l (omega arith))
      ∙ sym (cell_word w o t i q (omega arith))

  -- and where there was 0 they make a grid with what is after them
  module _ (rows : ℕ) (g : Rows o t r w) (eo : o₀ ≡ zero_words (rows * v)) (et : t₀ ≡ zero_words (rows * v)) where
    apart : (q : ℕ) → Dec (q < r * v) → bit_and (get_or os q 0) (get_or ts q 0) ≡ 0
    apart q (yes h) =
        let s = split v r q h in
        let i = s.0 in
        let j = s.1 in
        let low : i < r = row_in i j s.3 (dec_lt i r) in
        ap (λ (x : ℕ). bit_and (get_or os x 0) (get_or ts x 0)) s.3
        ∙ ap₂ bit_and (fo.words i j low s.2) (ft.words i j low s.2) ∙ g.row.apart.word (i * w + j)
      where
        row_in : (i j : ℕ) → q ≡ i * v + j → Dec (i < r) → i < r
        row_in i j e (yes l) = l
        row_in i j e (no l) = absurd (omega (arith, mul-le-mul_right {m = r} {n = i} v (omega arith)))
    apart q (no h) =
        ap (λ (x : ℕ). bit_and x (get_or ts q 0)) (fo.rest q (omega arith) ∙ ap (λ (x : List ℕ). get_or x q 0) eo ∙ zero_at (rows * v) q)

    pub front_rows : Rows os ts rows v
    front_rows =
        let lo : length os ≡ rows * v = fo.kept ∙ ap (λ (x : List ℕ). length x) eo ∙ length_zeros (rows * v) in
        let lt : length ts ≡ rows * v = ft.kept ∙ ap (λ (x : List ℕ). length x) et ∙ length_zeros (rows * v) in
        record { row = record { same = lt ∙ sym lo; apart = record { word = λ q. apart q (dec_lt q (r * v)) } }; size = lo }

-- a factor of a small product is small
pub factor_most : (x w m : ℕ) → 0 < w → x * w ≤ m → x ≤ m
factor_most x w m h l = omega (arith, l, mul-le-mul_left {m = 1} {n = w} x h)
