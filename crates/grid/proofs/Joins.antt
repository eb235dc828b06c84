-- An operation on one row of a matrix in planes. Assumes nothing.
use mathlib.Core.Path.{◌≡◌, sym, ap, ◌∙◌, subst, fun_ext}
use mathlib.Core.Logic.{◌⊎◌, inl, inr}
use mathlib.Core.List.{List}
use Prim.Native.Nat.{ℕ, ◌+◌, ◌*◌, ◌≤◌, ◌<◌}
use native.Mathlib.Decide.{ℕ_discrete}
use native.Mathlib.Omega.{arith}
use borrow.Author.Tests.{eq-eqb, ne_eqb}
use borrow.Rule.Slice.PartMut.{mid_of, put_mid}
use lib.ListN.{length}
use Rattle.trits.specs.Trit.{Trit, t0, t2, add_t, sub_t, neg_t, neg_v, zip_v, zip_at}
use Rattle.trits.specs.Planes.{trit_at, Reads}
use Rattle.trits.specs.Rows.{matrix_at}
use Rattle.trits.proofs.Arithmetic.{add_comm}
use Rattle.trits.proofs.Patches.{zip_at_here, zip_below, zip_above}
use Rattle.trits.proofs.Parts.{part_back, part_trit}
use Rattle.trits.proofs.Matrix.{row_le, rows_apart}
use Rattle.matrix.specs.Linear.{Matrix}
use Rattle.matrix.specs.Steps.{scale_row}
use Rattle.grid.specs.Steps.{Rows, Grid, put_row, join_row}
use Rattle.grid.proofs.Cells.{cell, cell_past, grid_by}

-- ---- an operation on the words of row i

module _ (op : Trit → Trit → Trit) (u v : ℕ → Trit) (w i : ℕ) where
  zip_row : (k q : ℕ) → k ≡ i → q < 64 * w → zip_at op u v (i * w) w (64 * (k * w) + q) ≡ op (u (64 * (k * w) + q)) (v q)
  zip_row k q e h = rw e (zip_at_here op u v (i * w) w q h)

  zip_else : (k q : ℕ) → (k ≡ i → ⊥) → q < 64 * w → zip_at op u v (i * w) w (64 * (k * w) + q) ≡ u (64 * (k * w) + q)
  zip_else k q f h = by (rows_apart k i w f)
    where
      by : (k * w + w ≤ i * w) ⊎ (i * w + w ≤ k * w) → zip_at op u v (i * w) w (64 * (k * w) + q) ≡ u (64 * (k * w) + q)
      by (inl l) = zip_below op u v (i * w) w (64 * (k * w) + q) (omega arith)
      by (inr l) = zip_above op u v (i * w) w (64 * (k * w) + q) (omega arith)

module _ {o₀ t₀ o t : List ℕ} {r w : ℕ} (g : Rows o₀ t₀ r w) (op : Trit → Trit → Trit) (v : ℕ → Trit) (i : ℕ) (B : Matrix) where
  -- the matrix is then B, which has the operation in row i
  pub row_op : Reads o t (length o₀) (zip_at op (trit_at o₀ t₀) v (i * w) w) → ((k q : ℕ) → k ≡ i → q < 64 * w → op (matrix_at w o₀ t₀ k q) (v q) ≡ B k q)
      → ((k q : ℕ) → (k ≡ i → ⊥) → matrix_at w o₀ t₀ k q ≡ B k q) → ((k q : ℕ) → k ≡ i → 64 * w ≤ q → t0 ≡ B k q) → Grid o t r w B
  row_op h new old past =
      grid_by (record { row = h.row; size = h.size ∙ g.size })
      (λ k q l. ap (λ (u : ℕ → Trit). u (64 * (k * w) + q)) h.trits ∙ at k q l (ℕ_discrete k i))
      (λ k q l. by k q l (ℕ_discrete k i))
    where
      at : (k q : ℕ) → q < 64 * w → Dec (k ≡ i) → zip_at op (trit_at o₀ t₀) v (i * w) w (64 * (k * w) + q) ≡ B k q
      at k q l (yes e) = zip_row op (trit_at o₀ t₀) v w i k q e l ∙ ap (λ (x : Trit). op x (v q)) (sym (cell w o₀ t₀ k q l)) ∙ new k q e l
      at k q l (no f) = zip_else op (trit_at o₀ t₀) v w i k q f l ∙ sym (cell w o₀ t₀ k q l) ∙ old k q f

      by : (k q : ℕ) → 64 * w ≤ q → Dec (k ≡ i) → t0 ≡ B k q
      by k q l (yes e) = past k q e l
      by k q l (no f) = sym (cell_past w o₀ t₀ k q l) ∙ old k q f

-- ---- row j is joined to row i

-- row i gets what the operation makes of it and row j
pub join_put : (op : Trit → Trit → Trit) (i j : ℕ) (A : Matrix) → put_row i (zip_v op (A i) (A j)) A ≡ join_row op i j A
join_put op i j A = fun_ext (λ k. fun_ext (λ q. by k q (ℕ_discrete k i)))
  where
    by : (k q : ℕ) → Dec (k ≡ i) → put_row i (zip_v op (A i) (A j)) A k q ≡ join_row op i j A k q
    by k q (yes e) = rw (eq-eqb k i e) (ap (λ (n : ℕ). op (A n q) (A j q)) (sym e))
    by k q (no f) = rw (ne_eqb k i f)

-- where row j is 0, row i stays as it is
pub join_nothing : (op : Trit → Trit → Trit) → ((x : Trit) → op x t0 ≡ x) → (i j : ℕ) (A : Matrix) (t : ℕ) → A j t ≡ t0 → A i t ≡ zip_v op (A i) (A j) t
join_nothing op z i j A t e = rw e (sym (z (A i t)))

-- ---- row i is negated

module _ {o₀ t₀ : List ℕ} {r : ℕ} (w i : ℕ) (g : Rows o₀ t₀ r w) (h : i < r) where
  pub negated_grid : {ys zs : List ℕ} {n : ℕ} (k : ℕ) → k ≡ w → n ≡ k → Reads ys zs n (neg_v (trit_at (mid_of (i * w) k o₀) (mid_of (i * w) k t₀)))
      → Grid (put_mid (i * w) k o₀ ys) (put_mid (i * w) k t₀ zs) r w (scale_row i t2 (matrix_at w o₀ t₀))
  negated_grid {ys} {zs} {n} k e f s =
      let le : i * w + w ≤ length o₀ = omega (arith, row_le w h, g.size) in
      let lt : i * w + w ≤ length t₀ = omega (arith, le, g.row.same) in
      let v : ℕ → Trit = neg_v (trit_at (mid_of (i * w) k o₀) (mid_of (i * w) k t₀)) in
      row_op g (λ a b. b) v i (scale_row i t2 (matrix_at w o₀ t₀))
      (subst (λ (n : ℕ). Reads (put_mid (i * w) k o₀ ys) (put_mid (i * w) k t₀ zs) (length o₀) (zip_at (λ a b. b) (trit_at o₀ t₀) v (i * w) n)) e
      (part_back g.row (i * w) k (omega arith) (subst (λ (n : ℕ). Reads ys zs n v) f s)))
      (λ n q d l.
      ap neg_t (part_trit o₀ t₀ (i * w) k (omega arith) (omega arith) q (omega arith)
      ∙ ap (λ (a : ℕ). trit_at o₀ t₀ (64 * (a * w) + q)) (sym d) ∙ sym (cell w o₀ t₀ n q l)) ∙ rw (eq-eqb n i d))
      (λ n q f. rw (ne_eqb n i f))
      (λ n q d l. rw (eq-eqb n i d, cell_past w o₀ t₀ n q l))

-- row i is negated, and row j added to it
pub taken_from : (i j : ℕ) (A : Matrix) → (i ≡ j → ⊥) → join_row add_t i j (scale_row i t2 A) ≡ put_row i (zip_v sub_t (A j) (A i)) A
taken_from i j A f = fun_ext (λ k. fun_ext (λ q. by k q (ℕ_discrete k i)))
  where
    by : (k q : ℕ) → Dec (k ≡ i) → join_row add_t i j (scale_row i t2 A) k q ≡ put_row i (zip_v sub_t (A j) (A i)) A k q
    by k q (yes e) = rw (eq-eqb k i e, ne_eqb j i (λ z. f (sym z))) (ap (λ (n : ℕ). add_t (neg_t (A n q)) (A j q)) e ∙ add_comm (neg_t (A i q)) (A j q))
    by k q (no g) = rw (ne_eqb k i g)
