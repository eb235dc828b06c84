-- Words filled at the places of two lists, and at places that stand for others. Assumes nothing.
use mathlib.Core.Path.{◌≡◌, refl, sym, ap, ◌∙◌, fun_ext}
use mathlib.Core.Bool.{Bool, true, false, cond, true≢false}
use mathlib.Core.Logic.{◌⊎◌, inl, inr}
use mathlib.Core.List.{List, [], ◌∷◌, ◌++◌, map}
use Prim.Native.Nat.{ℕ, suc, ◌+◌}
use native.Mathlib.Decide.{ℕ_discrete}
use native.Mathlib.Omega.{arith}
use lib.Dec.{eqb}
use lib.ListN.{length}
use Rattle.trits.specs.Trit.{t0, put_v}
use Rattle.matrix.specs.Linear.{Vector, zeros, elem, without, fill}
use Rattle.matrix.proofs.Dots.{put_same, put_other}
use Rattle.matrix.proofs.Places.{elem_here, or_true_right, fill_off}
use Rattle.matrix.proofs.Greedy.{bool_cases}
use Rattle.matrix.proofs.Counts.{Disjoint}

-- at a place listed it does not count what stood there
pub fill_in : (ps : List ℕ) (v w w' : Vector) (q : ℕ) → elem q ps ≡ true → fill ps v w q ≡ fill ps v w' q
unfolding fill
fill_in [] v w w' q h = absurd (true≢false (sym h))
fill_in (p ∷ ps) v w w' q h = go (fill_in ps (λ j. v (suc j)) w w' q) (eqb q p) refl h
  where
    go : (elem q ps ≡ true → fill ps (λ j. v (suc j)) w q ≡ fill ps (λ j. v (suc j)) w' q) → (b : Bool) → eqb q p ≡ b → elem q (p ∷ ps) ≡ true
        → put_v (fill ps (λ j. v (suc j)) w) p (v 0) q ≡ put_v (fill ps (λ j. v (suc j)) w') p (v 0) q
    go ih true e k = rw e
    go ih false e k = rw e (ih (rw e at k))

-- two lists with no place in common may be filled in either order
pub fill_either : (ps qs : List ℕ) (u v w : Vector) → Disjoint ps qs → fill qs v (fill ps u w) ≡ fill ps u (fill qs v w)
fill_either ps qs u v w d = fun_ext (λ q. by q (bool_cases (elem q ps)) (bool_cases (elem q qs)))
  where
    by : (q : ℕ) → (elem q ps ≡ true) ⊎ (elem q ps ≡ false) → (elem q qs ≡ true) ⊎ (elem q qs ≡ false) → fill qs v (fill ps u w) q ≡ fill ps u (fill qs v w) q
    by q (inl a) b = fill_off qs v (fill ps u w) q (d q a) ∙ fill_in ps u w (fill qs v w) q a
    by q (inr a) (inl b) = fill_in qs v (fill ps u w) w q b ∙ sym (fill_off ps u (fill qs v w) q a)
    by q (inr a) (inr b) =
        fill_off qs v (fill ps u w) q b ∙ fill_off ps u w q a ∙ sym (fill_off ps u (fill qs v w) q a ∙ fill_off qs v w q b)

-- one list after another
pub fill_append : (ps qs : List ℕ) (v w : Vector) → fill (ps ++ qs) v w ≡ fill ps v (fill qs (λ j. v (length ps + j)) w)
unfolding fill
fill_append [] qs v w = ap (λ (f : Vector). fill qs f w) (fun_ext (λ j. let e : j ≡ 0 + j = omega arith in ap v e))
fill_append (p ∷ ps) qs v w =
    ap (λ (f : Vector). put_v f p (v 0)) (fill_append ps qs (λ j. v (suc j)) w
    ∙ ap (λ (f : Vector). fill ps (λ j. v (suc j)) (fill qs f w))
    (fun_ext (λ j. let e : suc (length ps + j) ≡ suc (length ps) + j = omega arith in ap v e)))

-- at a place that stands for j
pub fill_map : (f : ℕ → ℕ) (ps : List ℕ) (v w : Vector) (j : ℕ) → ((p : ℕ) → elem p ps ≡ true → (p ≡ j → ⊥) → f p ≡ f j → ⊥) → w (f j) ≡ t0
    → fill (map f ps) v w (f j) ≡ fill ps v zeros j
unfolding fill
fill_map f [] v w j i z = z
fill_map f (p ∷ ps) v w j i z =
    go (fill_map f ps (λ k. v (suc k)) w j (λ q m. i q (or_true_right (eqb q p) (elem q ps) m)) z) (ℕ_discrete p j)
  where
    go : fill (map f ps) (λ k. v (suc k)) w (f j) ≡ fill ps (λ k. v (suc k)) zeros j → Dec (p ≡ j)
        → put_v (fill (map f ps) (λ k. v (suc k)) w) (f p) (v 0) (f j) ≡ put_v (fill ps (λ k. v (suc k)) zeros) p (v 0) j
    go ih (yes e) =
        ap (λ (q : ℕ). put_v (fill (map f ps) (λ k. v (suc k)) w) (f q) (v 0) (f j)) e ∙ put_same (fill (map f ps) (λ k. v (suc k)) w) (f j) (v 0)
        ∙ sym (ap (λ (q : ℕ). put_v (fill ps (λ k. v (suc k)) zeros) q (v 0) j) e ∙ put_same (fill ps (λ k. v (suc k)) zeros) j (v 0))
    go ih (no g) =
        put_other (fill (map f ps) (λ k. v (suc k)) w) (f p) (v 0) (f j) (λ e. i p (elem_here p ps) g (sym e))
        ∙ ih ∙ sym (put_other (fill ps (λ k. v (suc k)) zeros) p (v 0) j (λ e. g (sym e)))

-- places that are left out of two lists
pub without_append : (qs xs ys : List ℕ) → without qs (xs ++ ys) ≡ without qs xs ++ without qs ys
unfolding without
without_append qs [] ys = refl
without_append qs (x ∷ xs) ys = go (without_append qs xs ys) (elem x qs)
  where
    go : without qs (xs ++ ys) ≡ without qs xs ++ without qs ys → (b : Bool)
        → cond b (without qs (xs ++ ys)) (x ∷ without qs (xs ++ ys)) ≡ cond b (without qs xs) (x ∷ without qs xs) ++ without qs ys
    go ih true = ih
    go ih false = ap (λ (l : List ℕ). x ∷ l) ih

-- a list loses nothing that it does not have
pub without_apart : (qs ys : List ℕ) → Disjoint ys qs → without qs ys ≡ ys
unfolding without
without_apart qs [] d = refl
without_apart qs (y ∷ ys) d =
    ap (λ (b : Bool). cond b (without qs ys) (y ∷ without qs ys)) (d y (elem_here y ys))
    ∙ ap (λ (l : List ℕ). y ∷ l) (without_apart qs ys (λ q m. d q (or_true_right (eqb q y) (elem q ys) m)))
