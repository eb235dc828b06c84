-- Both planes gathered are a matrix's rows with its columns in another order. Assumes nothing.
use mathlib.Core.Path.{◌≡◌, sym, ap, ap₂, ◌∙◌, fun_ext}
use mathlib.Core.Bool.{Bool, cond}
use mathlib.Core.List.{List}
use Prim.Native.Nat.{ℕ, ◌+◌, ◌-◌, ◌*◌, ◌/◌, ◌%◌, ◌^◌, ◌≤◌, ◌<◌}
use native.Mathlib.Nat.{mul-le-mul_right, lt_of_mul-lt-mul_right}
use native.Mathlib.Decide.{dec_lt}
use native.Mathlib.Omega.{arith}
use borrow.Author.Tests.{lt-ltb, le-ltb}
use borrow.Rule.Slice.PartMut.{put_mid}
use lib.Bits.{bit_and, and_zero_l}
use lib.ListN.{length, get_or}
use Rattle.trits.specs.Trit.{Trit, t0}
use Rattle.trits.specs.Planes.{bit, trit, zero_words}
use Rattle.trits.specs.Rows.{matrix_at}
use Rattle.trits.proofs.Bits.{bit_and_law, bit_none, bit_past}
use Rattle.trits.proofs.Lists.{length_zeros, zero_at}
use Rattle.trits.proofs.Matrix.{row_le}
use Rattle.trits.proofs.Patches.{Patched}
use Rattle.trits.proofs.Parts.{put_patched}
use Rattle.trits.proofs.WordOps.{no_bits}
use Rattle.matrix.specs.Blocks.{Front, columns_by}
use Rattle.grid.specs.Steps.{Rows}
use Rattle.grid.proofs.Cells.{cell_word, cell_past}
use Rattle.grid.proofs.Swaps.{split}
use Rattle.gathering.specs.Steps.{picked, GatheredRows}
use Rattle.gathering.proofs.Blocks.{picked_in, picked_past}

module _ (ho ht order : List ℕ) (w r m : ℕ) {o₀ t₀ o₁ t : List ℕ} {rows : ℕ} (g : Rows o₀ t₀ rows w) (h : Rows ho ht r w) (room : r + 243 ≤ rows)
    (places : (j : ℕ) → j < m → get_or order j 0 < 64 * w) (few : m ≤ 64 * w)
    (a : GatheredRows w r 0 r ho order m o₀ o₁) (b : GatheredRows w r 0 r ht order m t₀ t)
    (n k : ℕ) (ys : List ℕ) (d : n ≡ 243 * w) (f : k ≡ n) (z : ys ≡ zero_words k) where
  abbrev o : List ℕ
  o = put_mid (r * w) n o₁ ys

  free : r * w + 243 * w ≤ rows * w
  free = omega (arith, mul-le-mul_right w room)

  back : Patched (λ j. get_or ys j 0) (r * w) n o₁ o
  back = put_patched (r * w) n o₁ (omega (arith, free, a.kept, g.size)) ys (ap length z ∙ length_zeros k ∙ f)

  ones_kept : length o ≡ length o₀
  ones_kept = back.kept ∙ a.kept

  ones_bits : (i q : ℕ) → i < r → q < 64 * w → bit (q % 64) (get_or o (i * w + q / 64) 0) ≡ picked (λ p. bit (p % 64) (get_or ho (i * w + p / 64) 0)) order m q
  ones_bits i q l e = ap (bit (q % 64)) (back.below (i * w + q / 64) (omega (arith, row_le w l))) ∙ a.bits i q (omega arith) l e

  ones_past : (p : ℕ) → r * w + 243 * w ≤ p → get_or o p 0 ≡ get_or o₀ p 0
  ones_past p l = back.above p (omega arith) ∙ a.past p l

  -- ---- the rows are those of the gathered matrix

  abbrev D : ℕ → ℕ → Trit
  D = columns_by (λ j. get_or order j 0) m (matrix_at w ho ht)

  cell_in : (i q : ℕ) → q < m → D i q ≡ matrix_at w ho ht i (get_or order q 0)
  cell_in i q l = ap (λ (x : Bool). cond x (matrix_at w ho ht i (get_or order q 0)) t0) (lt-ltb q m l)

  cell_out : (i q : ℕ) → m ≤ q → D i q ≡ t0
  cell_out i q l = ap (λ (x : Bool). cond x (matrix_at w ho ht i (get_or order q 0)) t0) (le-ltb q m l)

  front_cell : (i q : ℕ) → i < r → Dec (q < 64 * w) → Dec (q < m) → matrix_at w o t i q ≡ D i q
  front_cell i q l (yes e) (yes u) =
      cell_word w o t i q e
      ∙ ap₂ trit (ones_bits i q l e ∙ picked_in _ order m q u) (b.bits i q (omega arith) l e ∙ picked_in _ order m q u)
      ∙ sym (cell_word w ho ht i (get_or order q 0) (places q u)) ∙ sym (cell_in i q u)
  front_cell i q l (yes e) (no u) =
      cell_word w o t i q e
      ∙ ap₂ trit (ones_bits i q l e ∙ picked_past _ order m q (omega arith)) (b.bits i q (omega arith) l e ∙ picked_past _ order m q (omega arith))
      ∙ sym (cell_out i q (omega arith))
  front_cell i q l (no e) u = cell_past w o t i q (omega arith) ∙ sym (cell_out i q (omega arith))

  kept_cell : (i q : ℕ) → r + 243 ≤ i → Dec (q < 64 * w) → matrix_at w o t i q ≡ matrix_at w o₀ t₀ i q
  kept_cell i q l (yes e) =
      let u : r * w + 243 * w ≤ i * w + q / 64 = omega (arith, mul-le-mul_right w l) in
      cell_word w o t i q e ∙ ap₂ (λ (x y : ℕ). trit (bit (q % 64) x) (bit (q % 64) y)) (ones_past (i * w + q / 64) u) (b.past (i * w + q / 64) u)
      ∙ sym (cell_word w o₀ t₀ i q e)
  kept_cell i q l (no e) = cell_past w o t i q (omega arith) ∙ sym (cell_past w o₀ t₀ i q (omega arith))

  both_front : Front r (columns_by (λ j. get_or order j 0) m (matrix_at w ho ht)) (matrix_at w o₀ t₀) (matrix_at w o t)
  both_front = record {
    front = λ i l. fun_ext (λ q. front_cell i q l (dec_lt q (64 * w)) (dec_lt q m));
    kept = λ i l. fun_ext (λ q. kept_cell i q l (dec_lt q (64 * w)));
  }

  -- ---- no bit is in both

  picked_apart : (i q : ℕ)
      → bit_and (picked (λ p. bit (p % 64) (get_or ho (i * w + p / 64) 0)) order m q) (picked (λ p. bit (p % 64) (get_or ht (i * w + p / 64) 0)) order m q) ≡ 0
  picked_apart i q = by (dec_lt q m)
    where
      fo : ℕ → ℕ
      fo p = bit (p % 64) (get_or ho (i * w + p / 64) 0)

      ft : ℕ → ℕ
      ft p = bit (p % 64) (get_or ht (i * w + p / 64) 0)

      by : Dec (q < m) → bit_and (picked fo order m q) (picked ft order m q) ≡ 0
      by (yes l) =
          let p = get_or order q 0 in
          let j = i * w + p / 64 in
          ap₂ bit_and (picked_in fo order m q l) (picked_in ft order m q l) ∙ sym (bit_and_law (p % 64) (get_or ho j 0) (get_or ht j 0))
          ∙ ap (bit (p % 64)) (h.row.apart.word j) ∙ bit_none (p % 64)
      by (no l) =
          ap (λ (x : ℕ). bit_and x (picked ft order m q)) (picked_past fo order m q (omega arith)) ∙ and_zero_l (picked ft order m q)

  module _ (fits : (j : ℕ) → get_or o j 0 < 2 ^ 64) where
    row_apart : (i c : ℕ) → i < r → c < w → bit_and (get_or o (i * w + c) 0) (get_or t (i * w + c) 0) ≡ 0
    row_apart i c l e = no_bits _ (λ x. bit_and_law x (get_or o (i * w + c) 0) (get_or t (i * w + c) 0) ∙ by x (dec_lt x 64))
      where
        by : (x : ℕ) → Dec (x < 64) → bit_and (bit x (get_or o (i * w + c) 0)) (bit x (get_or t (i * w + c) 0)) ≡ 0
        by x (yes u) =
            let q = 64 * c + x in
            let v : x ≡ q % 64 = omega arith in
            let s : c ≡ q / 64 = omega arith in
            ap₂ (λ (y j : ℕ). bit_and (bit y (get_or o (i * w + j) 0)) (bit y (get_or t (i * w + j) 0))) v s
            ∙ ap₂ bit_and (ones_bits i q l (omega arith)) (b.bits i q (omega arith) l (omega arith)) ∙ picked_apart i q
        by x (no u) =
            ap (λ (y : ℕ). bit_and y (bit x (get_or t (i * w + c) 0))) (bit_past 64 x (get_or o (i * w + c) 0) (fits (i * w + c)) (omega arith))
            ∙ and_zero_l (bit x (get_or t (i * w + c) 0))

    word_apart : (j : ℕ) → Dec (j < r * w) → Dec (j < r * w + 243 * w) → bit_and (get_or o j 0) (get_or t j 0) ≡ 0
    word_apart j (yes l) e =
        let s = split w r j l in
        ap (λ (x : ℕ). bit_and (get_or o x 0) (get_or t x 0)) s.3
        ∙ row_apart s.0 s.1 (lt_of_mul-lt-mul_right w {m = s.0} {n = r} (omega (arith, s.3))) s.2
    word_apart j (no l) (yes e) =
        let u : r * w + (j - r * w) ≡ j = omega arith in
        ap (λ (x : ℕ). bit_and x (get_or t j 0)) (ap (λ (x : ℕ). get_or o x 0) (sym u) ∙ back.new (j - r * w) (omega arith)
        ∙ ap (λ (x : List ℕ). get_or x (j - r * w) 0) z ∙ zero_at k (j - r * w)) ∙ and_zero_l (get_or t j 0)
    word_apart j (no l) (no e) = ap₂ bit_and (ones_past j (omega arith)) (b.past j (omega arith)) ∙ g.row.apart.word j

    both_rows : Rows o t rows w
    both_rows = record {
      row = record {
        same = b.kept ∙ g.row.same ∙ sym ones_kept;
        apart = record { word = λ j. word_apart j (dec_lt j (r * w)) (dec_lt j (r * w + 243 * w)) };
      };
      size = ones_kept ∙ g.size;
    }

    pub both_gathered : Rows o t rows w × Front r (columns_by (λ j. get_or order j 0) m (matrix_at w ho ht)) (matrix_at w o₀ t₀) (matrix_at w o t)
    both_gathered = (both_rows, both_front)
