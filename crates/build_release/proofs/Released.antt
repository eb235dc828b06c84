-- The key that the arranged work matrix makes is the released one. Assumes nothing.
use mathlib.Core.Path.{◌≡◌, refl, sym, ap, ap₂, ◌∙◌, subst₂}
use mathlib.Core.Bool.{Bool, true, false, cond}
use mathlib.Core.List.{List, ◌++◌}
use Prim.Native.Nat.{ℕ, zero, suc, ◌+◌, ◌*◌, ◌≤◌, ◌<◌}
use native.Mathlib.Nat.{mul-add, add-mul}
use native.Mathlib.Omega.{arith}
use borrow.Author.Tests.{eqb-true}
use lib.Dec.{eqb, ltb, lit<}
use lib.ListN.{length}
use Rattle.trits.specs.Trit.{t0, up_to}
use Rattle.trits.specs.Planes.{ones_of, twos_of, zero_words}
use Rattle.trits.specs.Rows.{rows_of, matrix_at}
use Rattle.trits.proofs.Lists.{length_zeros}
use Rattle.trits.proofs.Ends.{zeros_row, zeros_hold, upto_out, upto_same}
use Rattle.trits.proofs.Refusals.{passed_demand}
use Rattle.matrix.specs.Linear.{Vector, Matrix, zeros, column, rank, range}
use Rattle.matrix.specs.Orders.{Order}
use Rattle.matrix.proofs.Rank.{full_reaches}
use Rattle.grid.specs.Steps.{Rows, Grid}
use Rattle.grid.proofs.Cells.{grid_to}
use Rattle.grid.proofs.RowParts.{copied_rows}
use Rattle.std.specs.Int.{div_ceil}
use Rattle.scheme.specs.declared.sizes.Sizes.{Sizes}
use Rattle.scheme.specs.declared.sizes.Shape.{Shape}
use Rattle.scheme.specs.Sizes.{half, places, dim, ru, rv, codim, shape_of}
use Rattle.scheme.specs.Secret.{Secret, secret_matrix}
use Rattle.scheme.specs.Build.{arranged, row_of_r, key_order, build_refusal}
use Rattle.scheme_laws.proofs.Pairs.{secret_reaches}
use Rattle.build_matrix.specs.Steps.{placed_at, halves_in, left_u, right_u, left_v}
use Rattle.build_matrix.proofs.Placed.{rows_joined, placed_secret}
use Rattle.build_key.specs.Steps.{Keyed}
use Rattle.key_rows.specs.Steps.{read_down, key_ones, key_twos}
use Rattle.calls.specs.Lent.{Planes, half_words, secret_of}
use Rattle.calls.specs.Steps.{Readable}
use Rattle.calls.specs.BuildCall.{key_row_words, build_work_words, key_ones_of, key_twos_of}
use Rattle.build_release.specs.Steps.{Filled, rows_of_r}

-- the words of a row of the key, as the code computes them
pub row_words : (z : Sizes) {s : Shape} {k : ℕ} → s ≡ shape_of z → k ≡ div_ceil (s.ru + s.rv) 64 → k ≡ key_row_words z
row_words z {s} e d = d ∙ ap (λ (s : Shape). div_ceil (s.ru + s.rv) 64) e ∙ grind arith

-- working planes of 0, as half-rows
module _ (z : Sizes) {o t : List ℕ} (n k : ℕ) (e : o ≡ zero_words n) (f : t ≡ zero_words k) (a : n ≡ build_work_words z) (b : k ≡ build_work_words z) where
  pub zero_rows : Rows o t (codim z + 243 + (codim z + 243)) (half_words z)
  zero_rows =
      copied_rows (e ∙ ap zero_words a) (f ∙ ap zero_words b)
      (record {
        row = zeros_row (build_work_words z);
        size = length_zeros (build_work_words z)
            ∙ omega (arith, mul-add (codim z + 243) (half_words z) (half_words z), add-mul (codim z + 243) (codim z + 243) (half_words z));
      })

  pub zero_cells : (j q : ℕ) → matrix_at (half_words z) o t j q ≡ t0
  unfolding matrix_at
  zero_cells j q =
      ap (λ (v : Vector). cond (ltb q (64 * half_words z)) (v (64 * (j * half_words z) + q)) t0) (zeros_hold zeros e f (b ∙ sym a)).trits
      ∙ by (ltb q (64 * half_words z))
    where
      by : (s : Bool) → cond s (up_to 0 zeros (64 * (j * half_words z) + q)) t0 ≡ t0
      by true = upto_out zeros 0 (64 * (j * half_words z) + q) (omega arith)
      by false = refl

-- both parts filled
pub filled_done : (z : Sizes) (k : Planes) {o₁ t₁ o t : List ℕ} (A : Matrix) → ((j q : ℕ) → A j q ≡ t0) → Readable z k
    → Grid o₁ t₁ (codim z + 243 + (codim z + 243)) (half_words z) (halves_in 0 (ru z) (left_u (secret_of z k).hu (secret_of z k).b (secret_of z k).c)
    (right_u (secret_of z k).hu (secret_of z k).b) A)
    → Grid o t (codim z + 243 + (codim z + 243)) (half_words z) (halves_in (ru z) (rv z) (left_v (secret_of z k).hv (secret_of z k).c) (secret_of z k).hv
    (matrix_at (half_words z) o₁ t₁)) → Filled z (secret_of z k) o t
filled_done z k {o₁} {t₁} {o} {t} A none r g h = record {
  rows = rows_joined h.rows;
  cells = placed_secret z (half_words z) (codim z + 243 + (codim z + 243)) (secret_of z k).b (secret_of z k).c A none (omega arith) r.hu r.hv
      (grid_to h (ap (λ (B : Matrix). halves_in (ru z) (rv z) (left_v (secret_of z k).hv (secret_of z k).c) (secret_of z k).hv B) g.cells));
}

-- rows that are the same one by one
rows_same : (f g : ℕ → List ℕ) (k : ℕ) → ((i : ℕ) → i < k → f i ≡ g i) → rows_of f k ≡ rows_of g k
unfolding rows_of
rows_same f g zero e = refl
rows_same f g (suc k) e = ap₂ (λ (x y : List ℕ). x ++ y) (rows_same f g k (λ i l. e i (omega arith))) (e k (omega arith))

-- the rows of R are read down the columns of the arranged matrix
module _ {r n : ℕ} {H M : Matrix} {q : List ℕ} (key : Keyed r n H M q) (k kw : ℕ) (h : r + k ≤ n) where
  down : (i : ℕ) → i < k → read_down r M i ≡ up_to r (row_of_r r n H q i)
  unfolding read_down
  down i l = sym (upto_same r (row_of_r r n H q i) (column M (r + i)) (λ c g. key.entry i c g (omega arith)))

  pub made_ones : key_ones k kw (read_down r M) ≡ key_ones k kw (rows_of_r r n H q)
  unfolding key_ones
  made_ones = rows_same _ _ k (λ i l. ap (λ (v : Vector). ones_of v kw) (down i l))

  pub made_twos : key_twos k kw (read_down r M) ≡ key_twos k kw (rows_of_r r n H q)
  unfolding key_twos
  made_twos = rows_same _ _ k (λ i l. ap (λ (v : Vector). twos_of v kw) (down i l))

-- both ranks are full, and so that of the secret matrix
pub full_rank : (z : Sizes) (s : Secret) → build_refusal z s ≡ 0 → rank (codim z) (places z) (secret_matrix z s) (range (places z)) ≡ codim z
unfolding build_refusal
full_rank z s e =
    let a = passed_demand (eqb (rank (ru z) (half z) s.hu (range (half z))) (ru z)) 9 _ (lit< tt) e in
    let b = passed_demand (eqb (rank (rv z) (half z) s.hv (range (half z))) (rv z)) 10 _ (lit< tt) a.1 in
    (full_reaches (codim z) (places z) (secret_matrix z s)).1
    (secret_reaches z s ((full_reaches (ru z) (half z) s.hu).0 (eqb-true _ _ a.0)) ((full_reaches (rv z) (half z) s.hv).0 (eqb-true _ _ b.0)))

pub same_ranks : (z : Sizes) (s r : Secret) → s.hu ≡ r.hu → s.hv ≡ r.hv → build_refusal z s ≡ build_refusal z r
unfolding build_refusal
same_ranks z s r e f = rw (e, f)

module _ (z : Sizes) (s : Secret) (start : List ℕ) {o t p : List ℕ} (f : Filled z s o t) (e : p ≡ start) (n : length start ≡ places z)
    (ord : Order (places z) start)
    (full : rank (codim z) (places z) (secret_matrix z s) (range (places z)) ≡ codim z) where
  pub ready_size : length p ≡ places z
  ready_size = ap length e ∙ n

  -- what the column rule asks
  pub ready_order : Order (length p) p
  ready_order = subst₂ Order (sym ready_size) (sym e) ord

  pub ready_rank : rank (codim z) (length p) (placed_at (half z) (half_words z) (half_words z + half_words z) o t) (range (length p)) ≡ codim z
  ready_rank = ap₂ (λ (m : ℕ) (H : Matrix). rank (codim z) m H (range m)) ready_size f.cells ∙ full

  module _ {q : List ℕ} (a : q ≡ (arranged (codim z) (length p) (placed_at (half z) (half_words z) (half_words z + half_words z) o t) p).order) where
    pub final_order : q ≡ key_order z s start
    final_order =
        a ∙ ap₂ (λ (m : ℕ) (H : Matrix). (arranged (codim z) m H p).order) ready_size f.cells
        ∙ ap (λ (l : List ℕ). (arranged (codim z) (places z) (secret_matrix z s) l).order) e

    -- the final order is that of the key
    final : (i : ℕ) → up_to (codim z) (row_of_r (codim z) (length p) (placed_at (half z) (half_words z) (half_words z + half_words z) o t) q i)
        ≡ up_to (codim z) (row_of_r (codim z) (places z) (secret_matrix z s) (key_order z s start) i)
    final i =
        ap₂ (λ (m : ℕ) (H : Matrix). up_to (codim z) (row_of_r (codim z) m H q i)) ready_size f.cells
        ∙ ap (λ (l : List ℕ). up_to (codim z) (row_of_r (codim z) (places z) (secret_matrix z s) l i)) final_order

    pub final_ones : key_ones (dim z) (key_row_words z) (rows_of_r (codim z) (length p) (placed_at (half z) (half_words z) (half_words z + half_words z) o t) q)
        ≡ key_ones_of z s start
    unfolding key_ones key_ones_of
    final_ones = rows_same _ _ (dim z) (λ i l. ap (λ (v : Vector). ones_of v (key_row_words z)) (final i))

    pub final_twos : key_twos (dim z) (key_row_words z) (rows_of_r (codim z) (length p) (placed_at (half z) (half_words z) (half_words z + half_words z) o t) q)
        ≡ key_twos_of z s start
    unfolding key_twos key_twos_of
    final_twos = rows_same _ _ (dim z) (λ i l. ap (λ (v : Vector). twos_of v (key_row_words z)) (final i))
