-- The pivots' places, solved from the last row on: the search for a row's pivot, and the word that row e has so far. Assumes nothing.
use mathlib.Core.Path.{◌≡◌, refl, sym, ap, ap₂, ◌∙◌}
use mathlib.Core.Bool.{Bool, true, false, not}
use mathlib.Core.List.{List, ◌∷◌}
use Prim.Native.Nat.{ℕ, zero, suc, ◌+◌, ◌-◌, ◌*◌, ◌≤◌, ◌<◌}
use native.Mathlib.Numerals.{add-one}
use native.Mathlib.Omega.{arith}
use lib.ListN.{drop, drop_of_length-le}
use lib.Seq.{drop-cons}
use lib.Dec.{eqb}
use Rattle.std.specs.Prelude.{Option, Some, None}
use Rattle.std.specs.List.{find, range_with_len}
use Rattle.std.specs.Option.{option_map, unwrap_or}
use Rattle.trits.specs.Trit.{sub_t, is_set, number, put_v, dot_v}
use Rattle.trits.specs.Rows.{matrix_at}
use Rattle.matrix.specs.Linear.{Vector, Matrix, range}
use Rattle.matrix.proofs.Counts.{range_length, range_at}
use Rattle.matrix.specs.Steps.{first_set, backed}
use Rattle.matrix.proofs.Tried.{first_set_here, first_unset}
use Rattle.grid.specs.Steps.{Rows, Grid, put_row}
use Rattle.grid.proofs.Cells.{grid_to}
use Rattle.grid.proofs.RowParts.{put_here, put_else}
use Rattle.draw_walk.specs.Walks.{pivot_place}
use Rattle.draw_walk.proofs.Puts.{set_number, put_own}
use Rattle.draw_walk.proofs.Filled.{put_again}

-- ---- the search for a row's pivot

-- whether column i of a row is not 0, by numbers
abbrev pub not_zero : Vector → ℕ → Bool
not_zero v i = not (eqb (number (v i)) 0)

columns_left : (m c : ℕ) → c < m → drop c (range m) ≡ c ∷ drop (suc c) (range m)
columns_left m c b = drop-cons (range m) c 0 (omega (arith, range_length m)) ∙ ap (λ (q : ℕ). q ∷ drop (suc c) (range m)) (range_at m c b)

-- at column i of the first m
module _ (v : Vector) (m i : ℕ) where
  columns_on : i < m → drop i (range m) ≡ i ∷ drop (i + 1) (range m)
  columns_on b = columns_left m i b ∙ ap (λ (k : ℕ). i ∷ drop k (range m)) (sym (add-one i))

  pub found_here : i < m → is_set (v i) ≡ true → i ≡ first_set v (drop i (range m))
  found_here b e = sym (ap (first_set v) (columns_on b) ∙ first_set_here v i (drop (i + 1) (range m)) e)

  pub found_later : i < m → is_set (v i) ≡ false → first_set v (drop i (range m)) ≡ first_set v (drop (i + 1) (range m))
  found_later b e = ap (first_set v) (columns_on b) ∙ first_unset v i (drop (i + 1) (range m)) e

  pub found_none : m ≤ i → 0 ≡ first_set v (drop i (range m))
  unfolding first_set
  found_none b = sym (ap (first_set v) (drop_of_length-le (range m) {i = i} (omega (arith, range_length m))))

-- the first of the k columns from c on, of m
found_first : (v : Vector) (m k c : ℕ) → c + k ≡ m → unwrap_or (find (not_zero v) (range_with_len c k)) 0 ≡ first_set v (drop c (range m))
unfolding first_set
found_first v m zero c e = sym (ap (first_set v) (drop_of_length-le (range m) {i = c} (omega (arith, range_length m))))
found_first v m (suc k) c e = by (is_set (v c)) refl (found_first v m k (suc c) (omega arith)) ∙ sym (ap (first_set v) (columns_left m c (omega arith)))
  where
    by : (b : Bool) → is_set (v c) ≡ b → unwrap_or (find (not_zero v) (range_with_len (suc c) k)) 0 ≡ first_set v (drop (suc c) (range m))
        → unwrap_or (find (not_zero v) (range_with_len c (suc k))) 0 ≡ first_set v (c ∷ drop (suc c) (range m))
    by true d g = rw (set_number (v c) ∙ d, d) refl
    by false d g = rw (set_number (v c) ∙ d, d, add-one c) g

same : (o : Option ℕ) → option_map (λ (x : ℕ). x) o ≡ o
same None = refl
same (Some x) = refl

pub found_place : (A : Matrix) (m c : ℕ) {n : ℕ} (o : Option ℕ) → c ≤ m → n ≡ unwrap_or o 0
    → option_map (λ (x : ℕ). x) o ≡ find (not_zero (A c)) (range_with_len c (m - c)) → n ≡ pivot_place A (range m) c
found_place A m c o h d e = d ∙ ap (λ (x : Option ℕ). unwrap_or x 0) (sym (same o) ∙ e) ∙ found_first (A c) m (m - c) c (omega arith)

-- ---- row after row

-- rows r - 1 to c are solved: what is still to do with row e gives the result
pub record Solving (rows w e : ℕ) (A : Matrix) (ps : List ℕ) (r c : ℕ) (o t : List ℕ) : Type 0 where
  pub grid : Grid o t rows w (put_row e (matrix_at w o t e) A)
  pub rest : backed (64 * w) A (pivot_place A ps) c (matrix_at w o t e) ≡ backed (64 * w) A (pivot_place A ps) r (A e)

pub solving_none : {o t : List ℕ} {rows w : ℕ} (e : ℕ) (ps : List ℕ) {r c : ℕ} → c ≡ r → Rows o t rows w → Solving rows w e (matrix_at w o t) ps r c o t
solving_none {o} {t} {w = w} e ps z g = record {
  grid = record { rows = g; cells = put_own e (matrix_at w o t) };
  rest = ap (λ (n : ℕ). backed (64 * w) (matrix_at w o t) (pivot_place (matrix_at w o t) ps) n (matrix_at w o t e)) z;
}

module _ {rows w e : ℕ} {A : Matrix} {ps : List ℕ} {r c : ℕ} {os ts : List ℕ} (k : Solving rows w e A ps r c os ts) where
  abbrev B : Matrix
  B = matrix_at w os ts

  -- one row more
  module _ {o t : List ℕ} {d q : ℕ} (h : suc d ≡ c) (z : c ≤ e) (f : q ≡ pivot_place (matrix_at w os ts) ps d)
      (g : Grid o t rows w (put_row e
      (put_v (matrix_at w os ts e) q (sub_t (matrix_at w os ts e q) (dot_v (matrix_at w os ts d) (matrix_at w os ts e) (64 * w))))
      (matrix_at w os ts))) where
    abbrev next : Vector
    next = put_v (B e) q (sub_t (B e q) (dot_v (B d) (B e) (64 * w)))

    own_row : matrix_at w o t e ≡ next
    own_row = ap (λ (M : Matrix). M e) g.cells ∙ put_here e next B e refl

    read_row : B d ≡ A d
    read_row = ap (λ (M : Matrix). M d) k.grid.cells ∙ put_else e (B e) A d (λ y. omega arith)

    place : q ≡ pivot_place A ps d
    place = f ∙ ap (λ (v : Vector). first_set v (drop d ps)) read_row

    unrolled : backed (64 * w) A (pivot_place A ps) d next ≡ backed (64 * w) A (pivot_place A ps) c (B e)
    unfolding backed
    unrolled =
        ap₂ (λ (p : ℕ) (v : Vector). backed (64 * w) A (pivot_place A ps) d (put_v (B e) p (sub_t (B e p) (dot_v v (B e) (64 * w))))) place read_row
        ∙ ap (λ (n : ℕ). backed (64 * w) A (pivot_place A ps) n (B e)) h

    pub solving_turn : Solving rows w e A ps r d o t
    solving_turn = record {
      grid = grid_to g (ap (put_row e next) k.grid.cells ∙ put_again e (B e) A next ∙ ap (λ (v : Vector). put_row e v A) (sym own_row));
      rest = ap (backed (64 * w) A (pivot_place A ps) d) own_row ∙ unrolled ∙ k.rest;
    }

  pub solving_done : c ≡ 0 → Grid os ts rows w (put_row e (backed (64 * w) A (pivot_place A ps) r (A e)) A)
  unfolding backed
  solving_done z =
      grid_to k.grid
      (ap (λ (v : Vector). put_row e v A) (sym (ap (λ (n : ℕ). backed (64 * w) A (pivot_place A ps) n (B e)) z) ∙ k.rest))
