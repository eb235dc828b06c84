-- Both planes gathered are the matrix's first rows with their columns in another order. Assumes nothing.
use mathlib.Core.Path.{◌≡◌, refl, sym, ap, ap₂, ◌∙◌, fun_ext}
use mathlib.Core.List.{List}
use Prim.Native.Nat.{ℕ, ◌+◌, ◌*◌, ◌/◌, ◌%◌, ◌^◌, ◌≤◌, ◌<◌}
use native.Mathlib.Nat.{mul-le-mul_right}
use native.Mathlib.Decide.{dec_lt}
use native.Mathlib.Omega.{arith}
use borrow.Author.Tests.{lt-ltb, le-ltb}
use borrow.Rule.Slice.PartMut.{put_mid}
use lib.ListN.{length, get_or, take}
use lib.Seq.{get_or-take}
use Rattle.trits.specs.Planes.{bit, trit, zero_words}
use Rattle.trits.specs.Rows.{matrix_at}
use Rattle.trits.proofs.Matrix.{row_le}
use Rattle.trits.proofs.Parts.{length_mid, part_row}
use Rattle.matrix.specs.Blocks.{Front, columns_by}
use Rattle.grid.specs.Steps.{Rows}
use Rattle.grid.proofs.Cells.{cell_word}
use Rattle.gathering.proofs.Both.{both_gathered}
use Rattle.build_matrix.specs.Steps.{col_of}
use Rattle.build_columns.specs.Steps.{columns_of, OwnRows, Halves}
use Rattle.build_columns.proofs.Columns.{columns_at_law, columns_below}

module _ {order : List ℕ} {half hw w r rows : ℕ} {o₀ t₀ o₁ t : List ℕ} (g : Rows o₀ t₀ rows w) (room : r + 243 ≤ rows) (halves : Halves order half hw w)
    (few : length order ≤ half + half) (a : OwnRows w r 0 r (columns_of half hw order) (length order) o₀ o₁)
    (b : OwnRows w r 0 r (columns_of half hw order) (length order) t₀ t)
    (n k : ℕ) (ys : List ℕ) (d : n ≡ 243 * w) (f : k ≡ n) (z : ys ≡ zero_words k)
    (fits : (j : ℕ) → get_or (put_mid (r * w) n o₁ ys) j 0 < 2 ^ 64) where
  abbrev o : List ℕ
  o = put_mid (r * w) n o₁ ys

  within : r * w ≤ length o₀
  within = omega (arith, mul-le-mul_right {m = r} {n = rows} w (omega arith), g.size)

  -- the first r rows are a matrix
  front_rows : Rows (take (r * w) o₀) (take (r * w) t₀) r w
  front_rows = record { row = part_row g.row 0 (r * w) (omega (arith, within)); size = length_mid 0 (r * w) o₀ (omega (arith, within)) }

  made : Rows o t rows w
      × Front r (columns_by (λ j. get_or (columns_of half hw order) j 0) (length order) (matrix_at w (take (r * w) o₀) (take (r * w) t₀))) (matrix_at w o₀ t₀)
      (matrix_at w o t)
  made =
      both_gathered (take (r * w) o₀) (take (r * w) t₀) (columns_of half hw order) w r (length order) g front_rows room (columns_below halves)
      (omega (arith, few, halves.half_fits, halves.words)) a.rows b.rows n k ys d f z fits

  -- which are those of the whole
  front_cell : (i q : ℕ) → i < r → q < 64 * w → matrix_at w (take (r * w) o₀) (take (r * w) t₀) i q ≡ matrix_at w o₀ t₀ i q
  front_cell i q h l =
      let p = i * w + q / 64 in
      let u : p < r * w = omega (arith, row_le w h) in
      cell_word w (take (r * w) o₀) (take (r * w) t₀) i q l
      ∙ ap₂ (λ (x y : ℕ). trit (bit (q % 64) x) (bit (q % 64) y)) (get_or-take (r * w) o₀ p 0 u) (get_or-take (r * w) t₀ p 0 u)
      ∙ sym (cell_word w o₀ t₀ i q l)

  same_cell : (i j : ℕ) → i < r → Dec (j < length order)
      → columns_by (λ j. get_or (columns_of half hw order) j 0) (length order) (matrix_at w (take (r * w) o₀) (take (r * w) t₀)) i j
      ≡ columns_by (λ j. col_of half hw (get_or order j 0)) (length order) (matrix_at w o₀ t₀) i j
  same_cell i j h (yes l) =
      rw (lt-ltb j (length order) l)
      (front_cell i (get_or (columns_of half hw order) j 0) h (columns_below halves j l) ∙ ap (matrix_at w o₀ t₀ i) (columns_at_law half hw order j l))
  same_cell i j h (no l) = rw (le-ltb j (length order) (omega arith)) refl

  pub both_own : Rows o t rows w
      × Front r (columns_by (λ j. col_of half hw (get_or order j 0)) (length order) (matrix_at w o₀ t₀)) (matrix_at w o₀ t₀) (matrix_at w o t)
  both_own = (
    made.0,
    record { front = λ i h. made.1.front i h ∙ fun_ext (λ j. same_cell i j h (dec_lt j (length order))); kept = made.1.kept },
  )
