-- The walk along an order in the matrix that elimination leaves finds the pivots again, and passes over the other places. Assumes nothing.
use mathlib.Core.Path.{◌≡◌, refl, sym, ap, ap₂, ◌∙◌, fun_ext}
use mathlib.Core.Bool.{Bool, true, false, cond, ◌&&◌, and-false}
use mathlib.Core.List.{List, [], ◌∷◌, ◌++◌, map, append_assoc, append-nil}
use Prim.Native.Nat.{ℕ, zero, suc, ◌+◌, ◌≤◌, ◌<◌}
use native.Mathlib.Decide.{dec_lt, ℕ_discrete}
use native.Mathlib.Omega.{arith}
use borrow.Author.Tests.{eq-eqb, ne_eqb, eqb-false, lt-ltb, le-ltb}
use lib.Dec.{eqb, ltb}
use lib.ListN.{length, get_or, drop}
use lib.Seq.{get_or_at}
use Rattle.trits.specs.Trit.{Trit, t0, is_set}
use Rattle.matrix.specs.Linear.{Vector, Matrix, elem, pivots, without}
use Rattle.matrix.specs.Orders.{Distinct}
use Rattle.matrix.specs.Steps.{has_pivot, Stage, tried, eliminate, eliminated, begun, first_set}
use Rattle.matrix.proofs.Places.{Below, elem_here, or_false_left, or_false_right, or_true_right, false_or_false}
use Rattle.matrix.proofs.Steps.{has_row}
use Rattle.matrix.proofs.Kept.{eliminate_pivots}
use Rattle.matrix.proofs.Tried.{tried_most, end, kept_one, count_one, end_one, end_below, kept_none, count_none, end_none, first_set_here, first_unset}
use Rattle.draw_walk.specs.Walks.{over, is_next, taken, passed, pivot_place}

-- ---- the walk, place after place

module _ (r : ℕ) (A : Matrix) (c q : ℕ) (qs : List ℕ) where
  pub taken_next : is_next r A c q ≡ true → taken r A c (q ∷ qs) ≡ q ∷ taken r A (suc c) qs
  unfolding taken
  taken_next e = ap (λ (t : Bool). cond t (q ∷ taken r A (suc c) qs) (taken r A c qs)) e

  pub taken_not : is_next r A c q ≡ false → taken r A c (q ∷ qs) ≡ taken r A c qs
  unfolding taken
  taken_not e = ap (λ (t : Bool). cond t (q ∷ taken r A (suc c) qs) (taken r A c qs)) e

module _ (r : ℕ) (A : Matrix) (c q : ℕ) where
  next_set : c < r → is_set (A c q) ≡ true → is_next r A c q ≡ true
  next_set h e = ap₂ ◌&&◌ (lt-ltb c r h) e

  next_unset : (c < r → A c q ≡ t0) → is_next r A c q ≡ false
  next_unset f = by (dec_lt c r)
    where
      by : Dec (c < r) → is_next r A c q ≡ false
      by (yes h) = ap (λ (x : Trit). ltb c r && is_set x) (f h) ∙ and-false (ltb c r)
      by (no h) = ap (λ (t : Bool). t && is_set (A c q)) (le-ltb c r (omega arith))

-- the place q is tried, then the places qs
module _ (r q : ℕ) (qs : List ℕ) (s : Stage) where
  walk_one : has_pivot r (length s.kept) q s.cells ≡ true
      → taken r (end r q qs s) (length s.kept) (q ∷ qs) ≡ q ∷ taken r (end r q qs s) (length (tried r q s).kept) qs
  walk_one e =
      let f = has_row r (length s.kept) q s.cells e in
      taken_next r (end r q qs s) (length s.kept) q qs
      (next_set r (end r q qs s) (length s.kept) q (omega (arith, f.0, f.1)) (ap is_set (end_one r q qs s e)))
      ∙ ap (λ (k : ℕ). q ∷ taken r (end r q qs s) k qs) (sym (count_one r q qs s e))

  walk_none : has_pivot r (length s.kept) q s.cells ≡ false
      → taken r (end r q qs s) (length s.kept) (q ∷ qs) ≡ taken r (end r q qs s) (length (tried r q s).kept) qs
  walk_none e =
      taken_not r (end r q qs s) (length s.kept) q qs
      (next_unset r (end r q qs s) (length s.kept) q (end_none r q qs s e (length s.kept) (omega arith)))
      ∙ ap (λ (k : ℕ). taken r (end r q qs s) k qs) (sym (count_none r q qs s e))

-- the kept places and those that the walk then takes are the places kept in the end
walk_kept : (r : ℕ) (ps : List ℕ) (s : Stage) → s.kept ++ taken r (eliminate r ps s).cells (length s.kept) ps ≡ (eliminate r ps s).kept
unfolding eliminate taken
walk_kept r [] s = append-nil s.kept
walk_kept r (q ∷ qs) s = go (walk_kept r qs (tried r q s)) (has_pivot r (length s.kept) q s.cells) refl
  where
    go : (tried r q s).kept ++ taken r (eliminate r qs (tried r q s)).cells (length (tried r q s).kept) qs ≡ (eliminate r qs (tried r q s)).kept
        → (t : Bool) → has_pivot r (length s.kept) q s.cells ≡ t
        → s.kept ++ taken r (eliminate r qs (tried r q s)).cells (length s.kept) (q ∷ qs) ≡ (eliminate r qs (tried r q s)).kept
    go ih true e =
        let rest : List ℕ = taken r (eliminate r qs (tried r q s)).cells (length (tried r q s).kept) qs in
        ap (λ (l : List ℕ). s.kept ++ l) (walk_one r q qs s e)
        ∙ sym (append_assoc s.kept (q ∷ []) rest) ∙ ap (λ (l : List ℕ). l ++ rest) (sym (kept_one r q qs s e)) ∙ ih
    go ih false e =
        let rest : List ℕ = taken r (eliminate r qs (tried r q s)).cells (length (tried r q s).kept) qs in
        ap (λ (l : List ℕ). s.kept ++ l) (walk_none r q qs s e) ∙ ap (λ (l : List ℕ). l ++ rest) (sym (kept_none r q qs s e)) ∙ ih

-- the walk along the places tried takes the pivots
pub walk_taken : (r n : ℕ) (H : Matrix) (ps : List ℕ) → Below n ps → taken r (eliminated r H ps) 0 ps ≡ pivots r n H ps
unfolding eliminated
walk_taken r n H ps b = walk_kept r ps (begun H) ∙ eliminate_pivots r n H ps b

-- ---- each row's pivot is the first place at which it is not 0

-- the search for row c's pivot may begin at position d, where row c is at least d rows past those that have theirs
first_kept : (r c : ℕ) → c < r → (ps : List ℕ) (s : Stage) (d : ℕ) → d + length s.kept ≤ c → c < length (eliminate r ps s).kept
    → first_set ((eliminate r ps s).cells c) (drop d ps) ≡ get_or (eliminate r ps s).kept c 0
unfolding eliminate
first_kept r c h [] s d a b = absurd (omega arith)
first_kept r c h (q ∷ qs) s (suc d) a b = first_kept r c h qs (tried r q s) d (omega (arith, tried_most r q s)) b
first_kept r c h (q ∷ qs) s zero a b =
    go (first_kept r c h qs (tried r q s) 0) (has_pivot r (length s.kept) q s.cells) refl (ℕ_discrete c (length s.kept))
  where
    go : (0 + length (tried r q s).kept ≤ c → c < length (eliminate r qs (tried r q s)).kept
        → first_set (end r q qs s c) qs ≡ get_or (eliminate r qs (tried r q s)).kept c 0)
        → (t : Bool) → has_pivot r (length s.kept) q s.cells ≡ t → Dec (c ≡ length s.kept)
        → first_set (end r q qs s c) (q ∷ qs) ≡ get_or (eliminate r qs (tried r q s)).kept c 0
    go ih true e (yes d) =
        first_set_here (end r q qs s c) q qs (ap (λ (i : ℕ). is_set (end r q qs s i q)) d ∙ ap is_set (end_one r q qs s e))
        ∙ sym (ap (λ (l : List ℕ). get_or l c 0) (sym (walk_kept r (q ∷ qs) s) ∙ ap (λ (l : List ℕ). s.kept ++ l) (walk_one r q qs s e))
        ∙ get_or_at s.kept q _ 0 c (sym d))
    go ih true e (no f) =
        first_unset (end r q qs s c) q qs (ap is_set (end_below r q qs s e c (omega arith))) ∙ ih (omega (arith, count_one r q qs s e)) b
    go ih false e d =
        first_unset (end r q qs s c) q qs (ap is_set (end_none r q qs s e c (omega arith) h)) ∙ ih (omega (arith, count_none r q qs s e)) b

-- each row's pivot is found again
pub walk_pivot : (r n : ℕ) (H : Matrix) (ps : List ℕ) → Below n ps → length (pivots r n H ps) ≡ r → (c : ℕ) → c < r
    → pivot_place (eliminated r H ps) ps c ≡ get_or (pivots r n H ps) c 0
unfolding eliminated
walk_pivot r n H ps b full c h =
    let e = eliminate_pivots r n H ps b in
    first_kept r c h ps (begun H) c (omega arith) (omega (arith, ap (λ (l : List ℕ). length l) e, full)) ∙ ap (λ (l : List ℕ). get_or l c 0) e

-- ---- the places passed over are the others

pub taken_within : (r : ℕ) (A : Matrix) (ps : List ℕ) (c p : ℕ) → elem p ps ≡ false → elem p (taken r A c ps) ≡ false
unfolding taken
taken_within r A [] c p h = refl
taken_within r A (q ∷ qs) c p h = go (λ k. taken_within r A qs k p (or_false_right (eqb p q) (elem p qs) h)) (is_next r A c q)
  where
    go : ((k : ℕ) → elem p (taken r A k qs) ≡ false) → (t : Bool) → elem p (cond t (q ∷ taken r A (suc c) qs) (taken r A c qs)) ≡ false
    go ih true = false_or_false (eqb p q) (elem p (taken r A (suc c) qs)) (or_false_left (eqb p q) (elem p qs) h) (ih (suc c))
    go ih false = ih c

-- a place that is not listed need not be taken out
without_other : (p : ℕ) (qs ps : List ℕ) → elem p ps ≡ false → without (p ∷ qs) ps ≡ without qs ps
unfolding without
without_other p qs [] h = refl
without_other p qs (q ∷ ps) h =
    let f : eqb q p ≡ false = ne_eqb q p (λ z. eqb-false p q (or_false_left (eqb p q) (elem p ps) h) (sym z)) in
    rw f (ap (λ (l : List ℕ). cond (elem q qs) l (q ∷ l)) (without_other p qs ps (or_false_right (eqb p q) (elem p ps) h)))

pub passed_without : (r : ℕ) (A : Matrix) (ps : List ℕ) (c : ℕ) → Distinct ps → passed r A c ps ≡ without (taken r A c ps) ps
unfolding passed taken without
passed_without r A [] c d = refl
passed_without r A (q ∷ qs) c d = go (λ k. passed_without r A qs k d.1) (is_next r A c q)
  where
    go : ((k : ℕ) → passed r A k qs ≡ without (taken r A k qs) qs) → (t : Bool)
        → cond t (passed r A (suc c) qs) (q ∷ passed r A c qs) ≡ without (cond t (q ∷ taken r A (suc c) qs) (taken r A c qs)) (q ∷ qs)
    go ih true = rw (eq-eqb q q refl) (ih (suc c) ∙ sym (without_other q (taken r A (suc c) qs) qs d.0))
    go ih false = rw (taken_within r A qs c q d.0) (ap (λ (l : List ℕ). q ∷ l) (ih c))

pub walk_passed : (r n : ℕ) (H : Matrix) (ps : List ℕ) → Below n ps → Distinct ps → passed r (eliminated r H ps) 0 ps ≡ without (pivots r n H ps) ps
walk_passed r n H ps b d = passed_without r (eliminated r H ps) ps 0 d ∙ ap (λ (l : List ℕ). without l ps) (walk_taken r n H ps b)

-- ---- two parts, one after the other

pub taken_append : (r : ℕ) (A : Matrix) (ps qs : List ℕ) (c : ℕ) → taken r A c (ps ++ qs) ≡ taken r A c ps ++ taken r A (c + length (taken r A c ps)) qs
unfolding taken
taken_append r A [] qs c = ap (λ (k : ℕ). taken r A k qs) (omega arith)
taken_append r A (p ∷ ps) qs c = go (taken_append r A ps qs) (is_next r A c p)
  where
    go : ((k : ℕ) → taken r A k (ps ++ qs) ≡ taken r A k ps ++ taken r A (k + length (taken r A k ps)) qs) → (t : Bool)
        → cond t (p ∷ taken r A (suc c) (ps ++ qs)) (taken r A c (ps ++ qs))
        ≡ cond t (p ∷ taken r A (suc c) ps) (taken r A c ps) ++ taken r A (c + length (cond t (p ∷ taken r A (suc c) ps) (taken r A c ps))) qs
    go ih true =
        let e : suc c + length (taken r A (suc c) ps) ≡ c + suc (length (taken r A (suc c) ps)) = omega arith in
        ap (λ (l : List ℕ). p ∷ l) (ih (suc c) ∙ ap (λ (k : ℕ). taken r A (suc c) ps ++ taken r A k qs) e)
    go ih false = ih c

pub passed_append : (r : ℕ) (A : Matrix) (ps qs : List ℕ) (c : ℕ) → passed r A c (ps ++ qs) ≡ passed r A c ps ++ passed r A (c + length (taken r A c ps)) qs
unfolding taken passed
passed_append r A [] qs c = ap (λ (k : ℕ). passed r A k qs) (omega arith)
passed_append r A (p ∷ ps) qs c = go (passed_append r A ps qs) (is_next r A c p)
  where
    go : ((k : ℕ) → passed r A k (ps ++ qs) ≡ passed r A k ps ++ passed r A (k + length (taken r A k ps)) qs) → (t : Bool)
        → cond t (passed r A (suc c) (ps ++ qs)) (p ∷ passed r A c (ps ++ qs))
        ≡ cond t (passed r A (suc c) ps) (p ∷ passed r A c ps) ++ passed r A (c + length (cond t (p ∷ taken r A (suc c) ps) (taken r A c ps))) qs
    go ih true =
        let e : suc c + length (taken r A (suc c) ps) ≡ c + suc (length (taken r A (suc c) ps)) = omega arith in
        ih (suc c) ∙ ap (λ (k : ℕ). passed r A (suc c) ps ++ passed r A k qs) e
    go ih false = ap (λ (l : List ℕ). p ∷ l) (ih c)

-- ---- rows past the first r do not count

module _ (r : ℕ) (F A : Matrix) where
  pub over_row : (c : ℕ) → c < r → over r F A c ≡ F c
  over_row c h = fun_ext (λ q. ap (λ (t : Bool). cond t (F c q) (A c q)) (lt-ltb c r h))

  pub over_rest : (c : ℕ) → r ≤ c → over r F A c ≡ A c
  over_rest c h = fun_ext (λ q. ap (λ (t : Bool). cond t (F c q) (A c q)) (le-ltb c r h))

-- the walk reads the first r rows
pub next_cong : (r : ℕ) (A B : Matrix) (c q : ℕ) → ((i : ℕ) → i < r → A i ≡ B i) → is_next r A c q ≡ is_next r B c q
next_cong r A B c q e = by (dec_lt c r)
  where
    by : Dec (c < r) → is_next r A c q ≡ is_next r B c q
    by (yes h) = ap (λ (u : Vector). ltb c r && is_set (u q)) (e c h)
    by (no h) = ap (λ (t : Bool). t && is_set (A c q)) (le-ltb c r (omega arith)) ∙ sym (ap (λ (t : Bool). t && is_set (B c q)) (le-ltb c r (omega arith)))

-- ---- a matrix whose columns stand for those of another

-- the walk along columns passes those whose places the walk along the places passes
pub passed_image : (r m : ℕ) (f : ℕ → ℕ) (A F : Matrix) → ((i t : ℕ) → i < r → t < m → A i t ≡ F i (f t)) → (ps : List ℕ) → Below m ps → (c : ℕ)
    → passed r F c (map f ps) ≡ map f (passed r A c ps)
unfolding passed
passed_image r m f A F e [] b c = refl
passed_image r m f A F e (q ∷ qs) b c = go (λ k. passed_image r m f A F e qs (λ x l. b x (or_true_right (eqb x q) (elem x qs) l)) k) (is_next r A c q) next
  where
    next : is_next r F c (f q) ≡ is_next r A c q
    next = by (dec_lt c r)
      where
        by : Dec (c < r) → is_next r F c (f q) ≡ is_next r A c q
        by (yes h) = ap (λ (x : Trit). ltb c r && is_set x) (sym (e c q h (b q (elem_here q qs))))
        by (no h) =
            ap (λ (t : Bool). t && is_set (F c (f q))) (le-ltb c r (omega arith)) ∙ sym (ap (λ (t : Bool). t && is_set (A c q)) (le-ltb c r (omega arith)))

    go : ((k : ℕ) → passed r F k (map f qs) ≡ map f (passed r A k qs)) → (t : Bool) → is_next r F c (f q) ≡ t
        → cond (is_next r F c (f q)) (passed r F (suc c) (map f qs)) (f q ∷ passed r F c (map f qs))
        ≡ map f (cond t (passed r A (suc c) qs) (q ∷ passed r A c qs))
    go ih true d = ap (λ (t : Bool). cond t (passed r F (suc c) (map f qs)) (f q ∷ passed r F c (map f qs))) d ∙ ih (suc c)
    go ih false d =
        ap (λ (t : Bool). cond t (passed r F (suc c) (map f qs)) (f q ∷ passed r F c (map f qs))) d ∙ ap (λ (l : List ℕ). f q ∷ l) (ih c)
