-- One row of a matrix in planes: lent as a part and back, handed out, and read or put trit by trit. Assumes nothing.
use mathlib.Core.Path.{◌≡◌, refl, sym, ap, ap₂, ◌∙◌, subst, fun_ext}
use mathlib.Core.Bool.{Bool, cond}
use mathlib.Core.Logic.{◌⊎◌, inl, inr}
use mathlib.Core.List.{List}
use Prim.Native.Nat.{ℕ, ◌+◌, ◌*◌, ◌≤◌, ◌<◌}
use native.Mathlib.Decide.{ℕ_discrete}
use native.Mathlib.Omega.{arith}
use borrow.Author.Tests.{eq-eqb, ne_eqb}
use borrow.Rule.Slice.PartMut.{mid_of, put_mid}
use lib.ListN.{length}
use Rattle.trits.specs.Trit.{Trit, t0, number, trit_of, put_v, up_to, zip_at, dot_v}
use Rattle.trits.specs.Planes.{trit_at, zero_words, Row, Reads}
use Rattle.trits.specs.Rows.{matrix_at, row_part}
use Rattle.trits.proofs.Reading.{read_past, reads_to}
use Rattle.trits.proofs.Ends.{upto_none, zeros_hold, upto_put}
use Rattle.trits.proofs.Lists.{length_zeros}
use Rattle.trits.proofs.Parts.{part_back, part_row, length_mid}
use Rattle.trits.proofs.Matrix.{row_le, rows_apart, part_there, part_reads, part_length, part_trits}
use Rattle.trits.proofs.Arithmetic.{number_lt, trit_number}
use Rattle.matrix.specs.Linear.{Vector, Matrix, zeros}
use Rattle.grid.specs.Steps.{Rows, Grid, HeldRow, put_row}
use Rattle.grid.proofs.Cells.{cell, cell_past, grid_by, grid_to}
use Rattle.grid.proofs.Joins.{row_op}

-- planes after both were copied
pub copied_row : {o t h k : List ℕ} → o ≡ h → t ≡ k → Row h k → Row o t
copied_row {o} {t} {h} {k} p q r = subst (λ (l : List ℕ). Row l t) (sym p) (subst (λ (l : List ℕ). Row h l) (sym q) r)

pub copied_rows : {o t h k : List ℕ} {r w : ℕ} → o ≡ h → t ≡ k → Rows h k r w → Rows o t r w
copied_rows p q g = record { row = copied_row p q g.row; size = ap length p ∙ g.size }

-- ---- a row that was handed out

module _ {o t ho ht : List ℕ} (rows w i : ℕ) (g : Rows ho ht rows w) (h : i < rows) (e : o ≡ row_part ho rows w i) (f : t ≡ row_part ht rows w i) where
  pub handed_row : Row o t
  handed_row = copied_row e f (part_reads rows w i g.row g.size h)

  pub handed_size : length o ≡ w
  handed_size = ap length e ∙ part_length ho rows w i g.size h

  pub handed_trits : trit_at o t ≡ matrix_at w ho ht i
  handed_trits = ap₂ trit_at e f ∙ fun_ext (λ q. part_trits rows w i g.row g.size h q)

-- ---- a row that a part came back with

module _ {o₀ t₀ : List ℕ} {r : ℕ} (w j : ℕ) (g : Rows o₀ t₀ r w) (h : j < r) where
  pub put_grid : {ys zs : List ℕ} {n : ℕ} {v : Vector} (k : ℕ) → k ≡ w → n ≡ k → Reads ys zs n v → ((q : ℕ) → 64 * w ≤ q → t0 ≡ v q)
      → Grid (put_mid (j * w) k o₀ ys) (put_mid (j * w) k t₀ zs) r w (put_row j v (matrix_at w o₀ t₀))
  put_grid {ys} {zs} {n} {v} k e f s past =
      let le : j * w + w ≤ length o₀ = omega (arith, row_le w h, g.size) in
      row_op g (λ a b. b) v j (put_row j v (matrix_at w o₀ t₀))
      (subst (λ (n : ℕ). Reads (put_mid (j * w) k o₀ ys) (put_mid (j * w) k t₀ zs) (length o₀) (zip_at (λ a b. b) (trit_at o₀ t₀) v (j * w) n)) e
      (part_back g.row (j * w) k (omega arith) (subst (λ (n : ℕ). Reads ys zs n v) f s)))
      (λ n q d l. rw (eq-eqb n j d))
      (λ n q f. rw (ne_eqb n j f))
      (λ n q d l. past q l ∙ rw (eq-eqb n j d))

  -- made 0
  pub zero_grid : {ys zs : List ℕ} {n m : ℕ} (k : ℕ) → k ≡ w → n ≡ k → m ≡ k → ys ≡ zero_words n → zs ≡ zero_words m
      → Grid (put_mid (j * w) k o₀ ys) (put_mid (j * w) k t₀ zs) r w (put_row j zeros (matrix_at w o₀ t₀))
  zero_grid {ys} {zs} {n} {m} k e f d p q =
      put_grid k e (ap length p ∙ length_zeros n ∙ f) (reads_to (zeros_hold zeros p q (d ∙ sym f)) (upto_none zeros)) (λ q l. refl)

-- a row has 0 past its words
pub past_words : {o t : List ℕ} (w : ℕ) → Row o t → length o ≡ w → (q : ℕ) → 64 * w ≤ q → trit_at o t q ≡ t0
past_words {o} {t} w r e q l = read_past o t w q e (r.same ∙ e) l

-- a part that is lent holds the row's trits
pub lent_trits : {o t : List ℕ} {r : ℕ} (w i k : ℕ) → Rows o t r w → i < r → k ≡ w → trit_at (mid_of (i * w) k o) (mid_of (i * w) k t) ≡ matrix_at w o t i
lent_trits {o} {t} {r} w i k g h e =
    ap (λ (n : ℕ). trit_at (mid_of (i * w) n o) (mid_of (i * w) n t)) e
    ∙ ap₂ trit_at (part_there o r w i g.size h) (part_there t r w i (g.row.same ∙ g.size) h)
    ∙ fun_ext (λ q. part_trits r w i g.row g.size h q)

-- and is a row of its own
pub lent_part : {o t : List ℕ} {r w : ℕ} → Rows o t r w → (i : ℕ) → i < r → (k : ℕ) → k ≡ w
    → HeldRow (mid_of (i * w) k o) (mid_of (i * w) k t) w (matrix_at w o t i)
lent_part {o} {t} {r} {w} g i h k e =
    let fits : i * w + k ≤ length o = omega (arith, row_le w h, g.size) in
    record { row = part_row g.row (i * w) k fits; size = length_mid (i * w) k o fits ∙ e; trits = lent_trits w i k g h e }

-- the dot product of two rows that are lent, of one matrix or of two
pub rows_product : (o t o' t' : List ℕ) (w i j k l : ℕ) {n : ℕ} (a : HeldRow (mid_of (i * w) k o) (mid_of (i * w) k t) w (matrix_at w o t i))
    (b : HeldRow (mid_of (j * w) l o') (mid_of (j * w) l t') w (matrix_at w o' t' j))
    → n ≡ number (dot_v (trit_at (mid_of (i * w) k o) (mid_of (i * w) k t)) (trit_at (mid_of (j * w) l o') (mid_of (j * w) l t'))
    (64 * length (mid_of (i * w) k o)))
    → n ≡ number (dot_v (matrix_at w o t i) (matrix_at w o' t' j) (64 * w))
rows_product o t o' t' w i j k l a b d =
    d ∙ ap₂ (λ (u v : Vector). number (dot_v u v (64 * length (mid_of (i * w) k o)))) a.trits b.trits
    ∙ ap (λ (m : ℕ). number (dot_v (matrix_at w o t i) (matrix_at w o' t' j) (64 * m))) a.size

-- ---- a matrix with another row

module _ (j : ℕ) (v : Vector) (A : Matrix) (k : ℕ) where
  pub put_here : k ≡ j → put_row j v A k ≡ v
  put_here e = fun_ext (λ q. ap (λ (b : Bool). cond b (v q) (A k q)) (eq-eqb k j e))

  pub put_else : (k ≡ j → ⊥) → put_row j v A k ≡ A k
  put_else f = fun_ext (λ q. ap (λ (b : Bool). cond b (v q) (A k q)) (ne_eqb k j f))

-- ---- one trit put into a row

module _ {o₀ t₀ o t : List ℕ} {r w : ℕ} (i p : ℕ) (x : Trit) (g : Rows o₀ t₀ r w) (l : p < 64 * w) where
  pub put_cell : Reads o t (length o₀) (put_v (trit_at o₀ t₀) (64 * (i * w) + p) x) →
      Grid o t r w (put_row i (put_v (matrix_at w o₀ t₀ i) p x) (matrix_at w o₀ t₀))
  put_cell d =
      grid_by (record { row = d.row; size = d.size ∙ g.size })
      (λ k q h. ap (λ (u : Vector). u (64 * (k * w) + q)) d.trits ∙ at k q h (ℕ_discrete k i) (ℕ_discrete q p))
      (λ k q h. past k q h (ℕ_discrete k i))
    where
      A : Matrix
      A = matrix_at w o₀ t₀

      else : (k q : ℕ) → (64 * (k * w) + q ≡ 64 * (i * w) + p → ⊥) → q < 64 * w → put_v (trit_at o₀ t₀) (64 * (i * w) + p) x (64 * (k * w) + q) ≡ A k q
      else k q f h = ap (λ (b : Bool). cond b x (trit_at o₀ t₀ (64 * (k * w) + q))) (ne_eqb (64 * (k * w) + q) (64 * (i * w) + p) f) ∙ sym (cell w o₀ t₀ k q h)

      apart : (k q : ℕ) → q < 64 * w → (k * w + w ≤ i * w) ⊎ (i * w + w ≤ k * w) → 64 * (k * w) + q ≡ 64 * (i * w) + p → ⊥
      apart k q h (inl m) e = omega arith
      apart k q h (inr m) e = omega arith

      at : (k q : ℕ) → q < 64 * w → Dec (k ≡ i) → Dec (q ≡ p) → put_v (trit_at o₀ t₀) (64 * (i * w) + p) x (64 * (k * w) + q)
          ≡ put_row i (put_v (A i) p x) A k q
      at k q h (yes e) (yes f) =
          ap (λ (b : Bool). cond b x (trit_at o₀ t₀ (64 * (k * w) + q)))
          (eq-eqb (64 * (k * w) + q) (64 * (i * w) + p) (ap₂ (λ (a b : ℕ). 64 * (a * w) + b) e f))
          ∙ sym (ap (λ (u : Vector). u q) (put_here i (put_v (A i) p x) A k e) ∙ ap (λ (b : Bool). cond b x (A i q)) (eq-eqb q p f))
      at k q h (yes e) (no f) =
          else k q (λ z. f (same z)) h ∙ ap (λ (n : ℕ). A n q) e
          ∙ sym (ap (λ (u : Vector). u q) (put_here i (put_v (A i) p x) A k e) ∙ ap (λ (b : Bool). cond b x (A i q)) (ne_eqb q p f))
        where
          same : 64 * (k * w) + q ≡ 64 * (i * w) + p → q ≡ p
          same z = omega (arith, ap (λ (n : ℕ). n * w) e)
      at k q h (no f) d = else k q (apart k q h (rows_apart k i w f)) h ∙ sym (ap (λ (u : Vector). u q) (put_else i (put_v (A i) p x) A k f))

      past : (k q : ℕ) → 64 * w ≤ q → Dec (k ≡ i) → t0 ≡ put_row i (put_v (A i) p x) A k q
      past k q h (yes e) =
          sym (ap (λ (u : Vector). u q) (put_here i (put_v (A i) p x) A k e) ∙ ap (λ (b : Bool). cond b x (A i q)) (ne_eqb q p (λ z. omega arith))
          ∙ cell_past w o₀ t₀ i q h)
      past k q h (no f) = sym (ap (λ (u : Vector). u q) (put_else i (put_v (A i) p x) A k f) ∙ cell_past w o₀ t₀ k q h)

-- ---- trits that are read and put one after another

-- the number that was read of a trit
pub read_trit : (t : Trit) (x : ℕ) → x ≡ number t → trit_of x ≡ t
read_trit t x e = ap trit_of e ∙ trit_number t

-- a trit known by its number, put in row e
pub put_number : {o t : List ℕ} {r w : ℕ} (A : Matrix) (e q n : ℕ) (x : Trit) → n ≡ number x → Grid o t r w (put_row e (put_v (A e) q (trit_of n)) A)
    → Grid o t r w (put_row e (put_v (A e) q x) A)
put_number A e q n x d g = grid_to g (ap (λ (y : Trit). put_row e (put_v (A e) q y) A) (read_trit x n d))

pub trit_lt : (t : Trit) (x : ℕ) → x ≡ number t → x < 3
trit_lt t x e = omega (arith, number_lt t, e)

pub read_lt : (o t : List ℕ) (p x : ℕ) → x ≡ number (trit_at o t p) → x < 3
read_lt o t p x e = trit_lt (trit_at o t p) x e

pub column_turn : {os ts o t : List ℕ} {n : ℕ} (v : Vector) (i x : ℕ) → Reads os ts n (up_to i v) → trit_of x ≡ v i
    → Reads o t (length os) (put_v (trit_at os ts) i (trit_of x))
    → Reads o t n (up_to (i + 1) v)
column_turn v i x r e g = record {
  row = g.row;
  size = g.size ∙ r.size;
  trits = g.trits ∙ ap₂ (λ (f : Vector) (y : Trit). put_v f i y) r.trits e ∙ upto_put v i;
}
