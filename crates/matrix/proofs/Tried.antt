-- What elimination leaves at the places that were tried: at a pivot's place 1 in its own row and 0 below, at the others 0 from the
-- next row on; no later step changes that. Assumes nothing.
use mathlib.Core.Path.{◌≡◌, refl, sym, ap, ◌∙◌, subst}
use mathlib.Core.Bool.{Bool, true, false, cond}
use mathlib.Core.List.{List, [], ◌∷◌, ◌++◌}
use Prim.Native.Nat.{ℕ, suc, ◌≤◌, ◌<◌}
use native.Mathlib.Omega.{arith}
use borrow.Author.Tests.{eqb-true}
use lib.Dec.{eqb, ltb}
use lib.ListN.{length}
use Rattle.trits.specs.Trit.{Trit, t0, t1, sub_t, mul_t, is_set}
use Rattle.trits.proofs.Arithmetic.{add_zero_r, mul-zero}
use Rattle.matrix.specs.Linear.{Vector, Matrix}
use Rattle.matrix.specs.Steps.{swap_rows, scale_row, pivoted, pivot_row, has_pivot, step_of, Stage, tried, eliminate, first_set}
use Rattle.matrix.proofs.Steps.{has_row, has_none, step_has, step_none, step_one, step_below}
use Rattle.matrix.proofs.Kept.{tried_cells, tried_kept, tried_count}

-- ---- what one step leaves of a column

-- the rows of A from c on have 0 at q
abbrev ZeroFrom : ℕ → ℕ → Matrix → ℕ → Type 0
ZeroFrom r c A q = (i : ℕ) → c ≤ i → i < r → A i q ≡ t0

-- the rows from `at` on are 0 at q
module _ (r at p : ℕ) (A : Matrix) (e : has_pivot r at p A ≡ true) (q : ℕ) (z : ZeroFrom r at A q) where
  abbrev moved : Matrix
  moved = swap_rows at (pivot_row r A p at) A

  abbrev scaled : Matrix
  scaled = scale_row at (A (pivot_row r A p at) p) (swap_rows at (pivot_row r A p at) A)

  own_zero : A at q ≡ t0
  own_zero = let f = has_row r at p A e in z at (omega arith) (omega (arith, f.0, f.1))

  -- exchanged rows have 0 there, so the column stays
  moved_keep : (i : ℕ) → moved i q ≡ A i q
  moved_keep i = go (eqb i at) refl (eqb i (pivot_row r A p at)) refl
    where
      there : A (pivot_row r A p at) q ≡ t0
      there = let f = has_row r at p A e in z (pivot_row r A p at) f.0 f.1

      go : (s : Bool) → eqb i at ≡ s → (t : Bool) → eqb i (pivot_row r A p at) ≡ t → moved i q ≡ A i q
      go true k t l = rw k (there ∙ sym own_zero ∙ ap (λ (x : ℕ). A x q) (sym (eqb-true i at k)))
      go false k true l = rw (k, l) (own_zero ∙ sym there ∙ ap (λ (x : ℕ). A x q) (sym (eqb-true i (pivot_row r A p at) l)))
      go false k false l = rw (k, l)

  scaled_keep : (i : ℕ) → scaled i q ≡ A i q
  scaled_keep i = go (eqb i at) refl
    where
      x : Trit
      x = A (pivot_row r A p at) p

      go : (s : Bool) → eqb i at ≡ s → scaled i q ≡ A i q
      go true k =
          let own : A i q ≡ t0 = ap (λ (j : ℕ). A j q) (eqb-true i at k) ∙ own_zero in
          ap (λ (s : Bool). cond s (mul_t x (moved i q)) (moved i q)) k ∙ ap (mul_t x) (moved_keep i ∙ own) ∙ mul-zero x ∙ sym own
      go false k = ap (λ (s : Bool). cond s (mul_t x (moved i q)) (moved i q)) k ∙ moved_keep i

  stepped_keep : (i : ℕ) → pivoted at p (pivot_row r A p at) A i q ≡ A i q
  stepped_keep i = go (ltb at i)
    where
      less : sub_t (scaled i q) (mul_t (scaled i p) (scaled at q)) ≡ A i q
      less =
          ap (λ (x : Trit). sub_t (scaled i q) (mul_t (scaled i p) x)) (scaled_keep at ∙ own_zero)
          ∙ ap (sub_t (scaled i q)) (mul-zero (scaled i p)) ∙ add_zero_r (scaled i q) ∙ scaled_keep i

      go : (s : Bool) → cond s (sub_t (scaled i q) (mul_t (scaled i p) (scaled at q))) (scaled i q) ≡ A i q
      go true = less
      go false = scaled_keep i

-- a step leaves a column whose rows from `at` on are 0
pub step_keep : (r at p : ℕ) (A : Matrix) (q : ℕ) → ZeroFrom r at A q → (i : ℕ) → step_of r at p A i q ≡ A i q
step_keep r at p A q z i = go (has_pivot r at p A) refl
  where
    go : (s : Bool) → has_pivot r at p A ≡ s → step_of r at p A i q ≡ A i q
    go true e = ap (λ (B : Matrix). B i q) (step_has r at p A e) ∙ stepped_keep r at p A e q z i
    go false e = ap (λ (B : Matrix). B i q) (step_none r at p A e)

-- ---- the columns that are done stay

-- as many places are kept as before, or one more
tried_more : (r p : ℕ) (s : Stage) → length s.kept ≤ length (tried r p s).kept
tried_more r p s = subst (λ (k : ℕ). length s.kept ≤ k) (sym (tried_count r p s)) (by (has_pivot r (length s.kept) p s.cells))
  where
    by : (t : Bool) → length s.kept ≤ cond t (suc (length s.kept)) (length s.kept)
    by true = omega arith
    by false = omega arith

pub tried_most : (r p : ℕ) (s : Stage) → length (tried r p s).kept ≤ suc (length s.kept)
tried_most r p s = subst (λ (k : ℕ). k ≤ suc (length s.kept)) (sym (tried_count r p s)) (by (has_pivot r (length s.kept) p s.cells))
  where
    by : (t : Bool) → cond t (suc (length s.kept)) (length s.kept) ≤ suc (length s.kept)
    by true = omega arith
    by false = omega arith

-- what is tried later leaves a column whose rows past the kept places are 0
later_keep : (r : ℕ) (ps : List ℕ) (s : Stage) (q : ℕ) → ZeroFrom r (length s.kept) s.cells q → (i : ℕ) → (eliminate r ps s).cells i q ≡ s.cells i q
unfolding eliminate
later_keep r [] s q z i = refl
later_keep r (p ∷ ps) s q z i =
    later_keep r ps (tried r p s) q (λ k a b. same k ∙ z k (omega (arith, a, tried_more r p s)) b) i ∙ same i
  where
    same : (k : ℕ) → (tried r p s).cells k q ≡ s.cells k q
    same k = ap (λ (B : Matrix). B k q) (tried_cells r p s) ∙ step_keep r (length s.kept) p s.cells q z k

-- ---- a place, and those that are tried after it

-- the place q is tried, then the places qs
module _ (r q : ℕ) (qs : List ℕ) (s : Stage) where
  abbrev pub at : ℕ
  at = length s.kept

  abbrev pub next : Stage
  next = tried r q s

  abbrev pub end : Matrix
  end = (eliminate r qs (tried r q s)).cells

  module _ (e : has_pivot r at q s.cells ≡ true) where
    pub kept_one : next.kept ≡ s.kept ++ (q ∷ [])
    kept_one = tried_kept r q s ∙ ap (λ (t : Bool). cond t (s.kept ++ (q ∷ [])) s.kept) e

    pub count_one : length next.kept ≡ suc at
    count_one = tried_count r q s ∙ ap (λ (t : Bool). cond t (suc at) at) e

    below : (i : ℕ) → at < i → next.cells i q ≡ t0
    below i l = ap (λ (B : Matrix). B i q) (tried_cells r q s) ∙ step_below r at q s.cells e i l

    stays : (i : ℕ) → end i q ≡ next.cells i q
    stays = later_keep r qs next q (λ i a b. below i (omega (arith, a, count_one)))

    pub end_one : end at q ≡ t1
    end_one = stays at ∙ ap (λ (B : Matrix). B at q) (tried_cells r q s) ∙ step_one r at q s.cells e

    pub end_below : (i : ℕ) → at < i → end i q ≡ t0
    end_below i l = stays i ∙ below i l

  module _ (e : has_pivot r at q s.cells ≡ false) where
    pub kept_none : next.kept ≡ s.kept
    kept_none = tried_kept r q s ∙ ap (λ (t : Bool). cond t (s.kept ++ (q ∷ [])) s.kept) e

    pub count_none : length next.kept ≡ at
    count_none = ap (λ (l : List ℕ). length l) kept_none

    same : (i : ℕ) → next.cells i q ≡ s.cells i q
    same i = ap (λ (B : Matrix). B i q) (tried_cells r q s ∙ step_none r at q s.cells e)

    pub end_none : (i : ℕ) → at ≤ i → i < r → end i q ≡ t0
    end_none i h l =
        later_keep r qs next q (λ i a b. same i ∙ has_none r at q s.cells e i (omega (arith, a, count_none)) b) i
        ∙ same i ∙ has_none r at q s.cells e i h l

-- ---- the first place at which a row is not 0

module _ (v : Vector) (q : ℕ) (qs : List ℕ) where
  pub first_set_here : is_set (v q) ≡ true → first_set v (q ∷ qs) ≡ q
  unfolding first_set
  first_set_here e = ap (λ (t : Bool). cond t q (first_set v qs)) e

  pub first_unset : is_set (v q) ≡ false → first_set v (q ∷ qs) ≡ first_set v qs
  unfolding first_set
  first_unset e = ap (λ (t : Bool). cond t q (first_set v qs)) e
