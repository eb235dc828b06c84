-- Two rows of a matrix in planes change places, word by word. Assumes nothing.
use mathlib.Core.Path.{◌≡◌, refl, sym, ap, ap₂, ◌∙◌, fun_ext, subst}
use mathlib.Core.Logic.{◌⊎◌, inl, inr, ◌≢◌}
use mathlib.Core.List.{List, [], ◌∷◌}
use Prim.Native.Nat.{ℕ, zero, suc, ◌+◌, ◌*◌, ◌/◌, ◌%◌, ◌≤◌, ◌<◌}
use native.Mathlib.Nat.{div-add-mod', mod-lt, mul-zero, zero-lt-suc}
use native.Mathlib.Decide.{dec_lt, ℕ_discrete}
use native.Mathlib.Omega.{arith}
use borrow.Author.Tests.{eq-eqb, ne_eqb}
use lib.ListN.{length, get_or, set, length-set, get_or-eq_default}
use lib.Seq.{get_or-set_same, get_or-set_other}
use lib.Bits.{bit_and}
use Rattle.std.specs.List.{swap}
use Rattle.std.proofs.lemmas.Grind.{get_or_default_zero}
use Rattle.trits.specs.Planes.{bit, trit}
use Rattle.trits.specs.Rows.{matrix_at}
use Rattle.trits.proofs.Matrix.{row_le, rows_apart}
use Rattle.matrix.specs.Steps.{swap_rows}
use Rattle.grid.specs.Steps.{Rows, Grid, Swapped, other}
use Rattle.grid.proofs.Cells.{cell, cell_past, cell_word, grid_by}

-- ---- places of two rows

pub off_row : (w i a j k : ℕ) → (i ≡ a → ⊥) → j < w → k < w → i * w + j ≢ a * w + k
off_row w i a j k f h g e = by (rows_apart i a w f)
  where
    by : (i * w + w ≤ a * w) ⊎ (a * w + w ≤ i * w) → ⊥
    by (inl l) = omega arith
    by (inr l) = omega arith

pub off_place : (w i a j k : ℕ) → (j ≡ k → ⊥) → j < w → k < w → i * w + j ≢ a * w + k
off_place w i a j k f h g e = by (ℕ_discrete i a)
  where
    ne : j ≢ k
    ne = f

    by : Dec (i ≡ a) → ⊥
    by (yes l) = let x : i * w ≡ a * w = ap (λ (z : ℕ). z * w) l in omega arith
    by (no l) = off_row w i a j k l h g e

-- ---- two rows change places

pub record SwappedTo (a b w k : ℕ) (l₀ l : List ℕ) : Type 0 where
  pub kept : length l ≡ length l₀
  pub moved : (i j : ℕ) → j < k → get_or l (i * w + j) 0 ≡ get_or l₀ (other a b i * w + j) 0
  pub rest : (i j : ℕ) → k ≤ j → j < w → get_or l (i * w + j) 0 ≡ get_or l₀ (i * w + j) 0

pub other_first : (a b : ℕ) → other a b a ≡ b
other_first a b = rw (eq-eqb a a refl)

pub other_second : (a b : ℕ) → other a b b ≡ a
other_second a b = by (ℕ_discrete b a)
  where
    by : Dec (b ≡ a) → other a b b ≡ a
    by (yes e) = rw (eq-eqb b a e) e
    by (no f) = rw (ne_eqb b a f, eq-eqb b b refl)

pub other_else : (a b i : ℕ) → (i ≡ a → ⊥) → (i ≡ b → ⊥) → other a b i ≡ i
other_else a b i f g = rw (ne_eqb i a f, ne_eqb i b g)

sets_turn : {a b w k : ℕ} {l₀ l : List ℕ} {r : ℕ} → SwappedTo a b w k l₀ l → length l₀ ≡ r * w → a < r → b < r → k < w
    → SwappedTo a b w (k + 1) l₀ (set (set l (a * w + k) (get_or l (b * w + k) 0)) (b * w + k) (get_or l (a * w + k) 0))
sets_turn {a} {b} {w} {k} {l₀} {l} {r} s e ha hb hk = record {
  kept = length-set (set l (a * w + k) y) (b * w + k) x ∙ length-set l (a * w + k) y ∙ s.kept;
  moved = λ i j h. go i j h (ℕ_discrete j k) (ℕ_discrete i b) (ℕ_discrete i a);
  rest = λ i j h g. still i j (off_place w i a j k (λ z. omega arith) g hk) (off_place w i b j k (λ z. omega arith) g hk) ∙ s.rest i j (omega arith) g;
}
  where
    x : ℕ
    x = get_or l (a * w + k) 0

    y : ℕ
    y = get_or l (b * w + k) 0

    l' : List ℕ
    l' = set (set l (a * w + k) y) (b * w + k) x

    la : a * w + k < length l
    la = omega (arith, row_le w ha, s.kept, e)

    lb : b * w + k < length (set l (a * w + k) y)
    lb = omega (arith, row_le w hb, s.kept, e, length-set l (a * w + k) y)

    still : (i j : ℕ) → i * w + j ≢ a * w + k → i * w + j ≢ b * w + k → get_or l' (i * w + j) 0 ≡ get_or l (i * w + j) 0
    still i j f g = get_or-set_other (set l (a * w + k) y) (b * w + k) (i * w + j) x 0 g ∙ get_or-set_other l (a * w + k) (i * w + j) y 0 f

    at : (i j : ℕ) (q : ℕ) → other a b i ≡ q → get_or l' (i * w + j) 0 ≡ get_or l₀ (q * w + j) 0 → get_or l' (i * w + j) 0 ≡ get_or l₀ (other a b i * w + j) 0
    at i j q f h = h ∙ ap (λ (z : ℕ). get_or l₀ (z * w + j) 0) (sym f)

    second : get_or l' (b * w + k) 0 ≡ get_or l₀ (a * w + k) 0
    second = get_or-set_same (set l (a * w + k) y) (b * w + k) x 0 lb ∙ s.rest a k (omega arith) hk

    first : (a ≡ b → ⊥) → get_or l' (a * w + k) 0 ≡ get_or l₀ (b * w + k) 0
    first f =
        get_or-set_other (set l (a * w + k) y) (b * w + k) (a * w + k) x 0 (off_row w a b k k f hk hk)
        ∙ get_or-set_same l (a * w + k) y 0 la ∙ s.rest b k (omega arith) hk

    go : (i j : ℕ) → j < k + 1 → Dec (j ≡ k) → Dec (i ≡ b) → Dec (i ≡ a) → get_or l' (i * w + j) 0 ≡ get_or l₀ (other a b i * w + j) 0
    go i j h (no f) d c = still i j (off_place w i a j k f (omega arith) hk) (off_place w i b j k f (omega arith) hk) ∙ s.moved i j (omega arith)
    go i j h (yes p) (yes d) c =
        rw (p, d) (second ∙ ap (λ (z : ℕ). get_or l₀ (z * w + k) 0) (sym (other_second a b)))
    go i j h (yes p) (no d) (yes c) =
        rw (p, c) (first (λ z. d (c ∙ z)) ∙ ap (λ (z : ℕ). get_or l₀ (z * w + k) 0) (sym (other_first a b)))
    go i j h (yes p) (no d) (no c) =
        at i j i (other_else a b i c d)
        (still i j (off_row w i a j k c (omega arith) hk) (off_row w i b j k d (omega arith) hk) ∙ s.rest i j (omega arith) (omega arith))

-- what the library's swap makes of two words of the plane
swap_sets : (l : List ℕ) (i j : ℕ) → i < length l → j < length l → swap l i j ≡ set (set l i (get_or l j 0)) j (get_or l i 0)
swap_sets [] i j h g = absurd (omega arith)
swap_sets (d ∷ ys) i j h g =
    ap₂ (λ (x y : ℕ). set (set (d ∷ ys) i x) j y) (get_or_default_zero (d ∷ ys) j d g) (get_or_default_zero (d ∷ ys) i d h)

pub swap_turn : {a b w k : ℕ} {l₀ l : List ℕ} {r : ℕ} → SwappedTo a b w k l₀ l → length l₀ ≡ r * w → a < r → b < r → k < w
    → SwappedTo a b w (k + 1) l₀ (swap l (a * w + k) (b * w + k))
swap_turn {a} {b} {w} {k} {l₀} {l} s e ha hb hk =
    let la : a * w + k < length l = omega (arith, row_le w ha, s.kept, e) in
    let lb : b * w + k < length l = omega (arith, row_le w hb, s.kept, e) in
    subst (SwappedTo a b w (k + 1) l₀) (sym (swap_sets l (a * w + k) (b * w + k) la lb)) (sets_turn s e ha hb hk)

-- a word of the planes is a word of a row
pub split : (w r q : ℕ) → q < r * w → (i : ℕ) × (j : ℕ) × (j < w) × (q ≡ i * w + j)
split zero r q h = absurd (omega (arith, mul-zero r))
split (suc w) r q h = (q / suc w, q % suc w, mod-lt q (zero-lt-suc w), sym (div-add-mod' q (suc w)))

module _ {o₀ t₀ o t : List ℕ} {r w a b : ℕ} (g : Rows o₀ t₀ r w) (so : Swapped a b w o₀ o) (st : Swapped a b w t₀ t) where
  swapped_apart : (q : ℕ) → Dec (q < r * w) → bit_and (get_or o q 0) (get_or t q 0) ≡ 0
  swapped_apart q (yes h) =
      let s = split w r q h in
      ap (λ (z : ℕ). bit_and (get_or o z 0) (get_or t z 0)) s.3
      ∙ ap₂ bit_and (so.words s.0 s.1 s.2) (st.words s.0 s.1 s.2)
      ∙ g.row.apart.word (other a b s.0 * w + s.1)
  swapped_apart q (no h) = ap (λ (x : ℕ). bit_and x (get_or t q 0)) (get_or-eq_default o 0 (omega (arith, so.kept, g.size)))

  pub swapped_grid : Grid o t r w (swap_rows a b (matrix_at w o₀ t₀))
  swapped_grid =
      grid_by
      (record {
        row = record { same = st.kept ∙ g.row.same ∙ sym so.kept; apart = record { word = λ q. swapped_apart q (dec_lt q (r * w)) } };
        size = so.kept ∙ g.size;
      })
      (λ i q h.
      sym (cell w o t i q h) ∙ cell_word w o t i q h
      ∙ ap₂ (λ (x y : ℕ). trit (bit (q % 64) x) (bit (q % 64) y)) (so.words i (q / 64) (omega arith)) (st.words i (q / 64) (omega arith))
      ∙ sym (cell_word w o₀ t₀ (other a b i) q h))
      (λ i q h. sym (cell_past w o₀ t₀ (other a b i) q h))

-- a row changes places with itself
pub swapped_none : {o t : List ℕ} {rows w a b : ℕ} → Rows o t rows w → a ≡ b → Grid o t rows w (swap_rows a b (matrix_at w o t))
swapped_none {o} {t} {w = w} {a} {b} g e = record { rows = g; cells = fun_ext (λ i. ap (matrix_at w o t) (by i (ℕ_discrete i a))) }
  where
    by : (i : ℕ) → Dec (i ≡ a) → i ≡ other a b i
    by i (yes h) = rw (eq-eqb i a h) (h ∙ e)
    by i (no f) = rw (ne_eqb i a f, ne_eqb i b (λ h. f (h ∙ sym e)))
