-- Elimination as it is run keeps the pivots of the definition, and ends with 1 on their diagonal and 0 below. Assumes nothing.
use mathlib.Core.Path.{◌≡◌, refl, sym, ap, ◌∙◌, subst}
use mathlib.Core.Bool.{Bool, true, false, cond}
use mathlib.Core.List.{List, [], ◌∷◌, ◌++◌}
use Prim.Native.Nat.{ℕ, suc, ◌≤◌, ◌<◌}
use native.Mathlib.Numerals.{add-one}
use lib.Dec.{eqb}
use lib.ListN.{length, length-append}
use Rattle.trits.specs.Trit.{t0, is_set}
use Rattle.matrix.specs.Linear.{Matrix, elem, keep, pivots, rank}
use Rattle.matrix.specs.Steps.{pivoted, pivot_row, has_pivot, step_of, Stage, tried, eliminate, eliminated, begun}
use Rattle.matrix.specs.Passes.{Lowered}
use Rattle.matrix.proofs.Places.{Below, elem_here, or_true_right}
use Rattle.matrix.proofs.Greedy.{Kept, empty_kept, grow, keep_in, keep_out}
use Rattle.matrix.proofs.Elimination.{start_lowered, stepped_lowered, test_in, test_out}
use Rattle.matrix.proofs.Steps.{has_row, has_none, step_has, step_none}

-- the loop that finds the pivots
module _ (r n : ℕ) (H : Matrix) where
  pub record Pivoting (todo : List ℕ) (kept : List ℕ) (A : Matrix) (all : List ℕ) : Type 0 where
    pub result : keep r n H [] all ≡ keep r n H kept todo
    pub good : Kept r n H kept
    pub lowered : Lowered r n H A kept

  module _ (q : ℕ) (todo kept all : List ℕ) (A : Matrix) (h : q < n) (t : Pivoting (q ∷ todo) kept A all) where
    pub passed_over : ((i : ℕ) → length kept ≤ i → i < r → A i q ≡ t0) → Pivoting todo kept A all
    passed_over z = record {
      result = t.result ∙ keep_in r n H kept q todo (test_in r n H A kept t.good t.lowered q h z);
      good = t.good;
      lowered = t.lowered;
    }

    pub took_pivot : (a : ℕ) → length kept ≤ a → a < r → is_set (A a q) ≡ true
        → Pivoting todo (kept ++ (q ∷ [])) (pivoted (length kept) q a A) all
    took_pivot a la ha z =
        let out = test_out r n H A kept t.good t.lowered q h a la ha z in
        record {
          result = t.result ∙ keep_out r n H kept q todo out;
          good = grow r n H kept q h t.good out;
          lowered = stepped_lowered r n H A kept t.lowered q a la ha z;
        }

-- the laws of a try
module _ (r q : ℕ) (s : Stage) where
  pub tried_cells : (tried r q s).cells ≡ step_of r (length s.kept) q s.cells
  unfolding tried
  tried_cells = refl

  pub tried_kept : (tried r q s).kept ≡ cond (has_pivot r (length s.kept) q s.cells) (s.kept ++ (q ∷ [])) s.kept
  unfolding tried
  tried_kept = refl

  pub tried_count : length (tried r q s).kept ≡ cond (has_pivot r (length s.kept) q s.cells) (suc (length s.kept)) (length s.kept)
  tried_count = ap (λ (l : List ℕ). length l) tried_kept ∙ by (has_pivot r (length s.kept) q s.cells)
    where
      by : (t : Bool) → length (cond t (s.kept ++ (q ∷ [])) s.kept) ≡ cond t (suc (length s.kept)) (length s.kept)
      by true = length-append s.kept (q ∷ []) ∙ add-one (length s.kept)
      by false = refl

pub eliminate_more : (r : ℕ) (ps : List ℕ) (q : ℕ) (s : Stage) → eliminate r (ps ++ (q ∷ [])) s ≡ tried r q (eliminate r ps s)
unfolding eliminate
eliminate_more r [] q s = refl
eliminate_more r (p ∷ ps) q s = eliminate_more r ps q (tried r p s)

-- ---- the kept places are the pivots

module _ (r n : ℕ) (H : Matrix) (all : List ℕ) where
  pivoting_try : (q : ℕ) (todo : List ℕ) (s : Stage) → q < n → Pivoting r n H (q ∷ todo) s.kept s.cells all
      → Pivoting r n H todo (tried r q s).kept (tried r q s).cells all
  unfolding tried
  pivoting_try q todo s h t = by (has_pivot r at q s.cells) refl
    where
      at : ℕ
      at = length s.kept

      by : (b : Bool) → has_pivot r (length s.kept) q s.cells ≡ b
          → Pivoting r n H todo (cond (has_pivot r (length s.kept) q s.cells) (s.kept ++ (q ∷ [])) s.kept) (step_of r (length s.kept) q s.cells)
          all
      by true e =
          let f = has_row r (length s.kept) q s.cells e in
          rw (step_has r (length s.kept) q s.cells e, e)
          (took_pivot r n H q todo s.kept all s.cells h t (pivot_row r s.cells q (length s.kept)) f.0 f.1 f.2)
      by false e =
          rw (step_none r (length s.kept) q s.cells e, e)
          (passed_over r n H q todo s.kept all s.cells h t (has_none r (length s.kept) q s.cells e))

  pivoting_all : (todo : List ℕ) (s : Stage) → Below n todo → Pivoting r n H todo s.kept s.cells all
      → Pivoting r n H [] (eliminate r todo s).kept (eliminate r todo s).cells all
  unfolding eliminate
  pivoting_all [] s b t = t
  pivoting_all (q ∷ qs) s b t = pivoting_all qs (tried r q s) (λ x m. b x (or_true_right (eqb x q) (elem x qs) m))
      (pivoting_try q qs s (b q (elem_here q qs)) t)

module _ (r n : ℕ) (H : Matrix) (ps : List ℕ) (b : Below n ps) where
  ended : Pivoting r n H [] (eliminate r ps (begun H)).kept (eliminate r ps (begun H)).cells ps
  ended = pivoting_all r n H ps ps (begun H) b (record { result = refl; good = empty_kept r n H; lowered = start_lowered r n H })

  pub eliminate_pivots : (eliminate r ps (begun H)).kept ≡ pivots r n H ps
  unfolding pivots keep
  eliminate_pivots = sym ended.result

  pub eliminated_lowered : Lowered r n H (eliminated r H ps) (pivots r n H ps)
  unfolding eliminated
  eliminated_lowered = subst (λ (l : List ℕ). Lowered r n H (eliminate r ps (begun H)).cells l) eliminate_pivots ended.lowered

  pub eliminate_rank : length (eliminate r ps (begun H)).kept ≡ rank r n H ps
  unfolding rank
  eliminate_rank = ap (λ (l : List ℕ). length l) eliminate_pivots
