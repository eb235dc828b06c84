-- The column rule on columns in their order is that of the definition on places (`ruled`). Assumes nothing.
use mathlib.Core.Path.{◌≡◌, refl, sym, ap, ◌∙◌, subst}
use mathlib.Core.Bool.{Bool, true, false, cond}
use mathlib.Core.List.{List}
use Prim.Native.Nat.{ℕ, zero, suc, ◌+◌, ◌≤◌, ◌<◌}
use native.Mathlib.Decide.{ℕ_discrete}
use native.Mathlib.Omega.{arith}
use borrow.Author.Tests.{eq-eqb, ne_eqb}
use lib.Dec.{eqb}
use lib.ListN.{length, get_or, take}
use Rattle.matrix.specs.Linear.{Matrix, rank, range}
use Rattle.matrix.specs.Orders.{Order}
use Rattle.matrix.specs.Passes.{Lowered}
use Rattle.matrix.specs.Steps.{pivot_row, has_pivot, step_of}
use Rattle.matrix.proofs.Dimension.{Reaches}
use Rattle.matrix.proofs.Rank.{full_reaches}
use Rattle.matrix.proofs.Steps.{has_row, has_none, step_has}
use Rattle.matrix.proofs.FirstPart.{read_linear, has_alike, step_alike}
use Rattle.grid.specs.Steps.{other}
use Rattle.scheme.specs.Build.{swap, Arrangement, arranged}
use Rattle.scheme_laws.proofs.Build.{State, begin, turned, taken, left, finished, swap_first, swap_second, swap_other}
use Rattle.arranging.specs.Columns.{exchanged, column_rule}
use Rattle.arranging.proofs.Rule.{rule_kept, rule_turned, rule_stop}

-- the columns of A are those of D at the places of the order p
abbrev pub InOrder : ℕ → ℕ → Matrix → Matrix → List ℕ → Type 0
InOrder r n A D p = (i t : ℕ) → i < r → t < n → A i t ≡ D i (get_or p t 0)

-- an exchanged order, place by place
swap_at : (p : List ℕ) (j l : ℕ) → j < length p → l < length p → (t : ℕ) → get_or (swap j l p) t 0 ≡ get_or p (other j l t) 0
swap_at p j l hj hl t = by (ℕ_discrete t j) (ℕ_discrete t l)
  where
    by : Dec (t ≡ j) → Dec (t ≡ l) → get_or (swap j l p) t 0 ≡ get_or p (other j l t) 0
    by (yes e) (yes f) =
        ap (λ (n : ℕ). get_or (swap j l p) n 0) f ∙ swap_second p j l hj hl ∙ ap (λ (n : ℕ). get_or p n 0) (sym e ∙ f) ∙ sym (rw (eq-eqb t j e))
    by (yes e) (no f) =
        ap (λ (n : ℕ). get_or (swap j l p) n 0) e ∙ swap_first p j l hj hl (λ z. f (e ∙ z)) ∙ sym (rw (eq-eqb t j e))
    by (no e) (yes f) = ap (λ (n : ℕ). get_or (swap j l p) n 0) f ∙ swap_second p j l hj hl ∙ sym (rw (ne_eqb t j e, eq-eqb t l f))
    by (no e) (no f) = swap_other p j l hj hl t e f ∙ sym (rw (ne_eqb t j e, ne_eqb t l f))

-- the end of the rule: r columns are kept, and the matrix stands for one that the definition's order lowers
pub record Ruled (r n : ℕ) (H : Matrix) (start : List ℕ) (kept : ℕ) (order : List ℕ) (B : Matrix) : Type 0 where
  pub full : kept ≡ r
  pub ordered : order ≡ (arranged r n H start).order
  pub is_order : Order n order
  pub fits : r ≤ n
  pub places : Matrix
  pub lowered : Lowered r n H places (take r order)
  pub placed : InOrder r n B places order

module _ (r n : ℕ) (H : Matrix) (start : List ℕ) (reach : Reaches r n H) where
  abbrev End : ℕ → ℕ → Matrix → List ℕ → Type 0
  End f j A p = let s = column_rule r f j A p in Ruled r n H start s.kept s.order s.cells

  ended : (f : ℕ) (A D : Matrix) (p : List ℕ) → State r n H start f r p D → InOrder r n A D p → Ruled r n H start r p A
  ended f A D p t z = record {
    full = refl;
    ordered = sym (ap (λ (a : Arrangement). a.order) (finished r n H start f p D t));
    is_order = t.order_ok;
    fits = omega (arith, t.room);
    places = D;
    lowered = t.lowered;
    placed = z;
  }

  -- every row has its pivot
  stopped : (f j : ℕ) (A D : Matrix) (p : List ℕ) → State r n H start f j p D → InOrder r n A D p → j ≡ r → End f j A p
  stopped f j A D p t z e =
      subst (λ (k : ℕ). End f k A p) (sym e)
      (rw (rule_stop r f A p) (ended f A D p (subst (λ (k : ℕ). State r n H start f k p D) e t) z))

  rules : (f j : ℕ) (A D : Matrix) (p : List ℕ) → j ≤ r → State r n H start f j p D → InOrder r n A D p → End f j A p
  rules zero j A D p h t z = by (ℕ_discrete j r)
    where
      by : Dec (j ≡ r) → End 0 j A p
      by (yes e) = stopped 0 j A D p t z e
      by (no f) = absurd (left r n H start reach 0 j p D t f refl)
  rules (suc f) j A D p h t z =
      go (ℕ_discrete j r) (has_pivot r j (get_or p j 0) D) refl (λ l. rules f (suc j) (step_of r j j A) (step_of r j (get_or p j 0) D) p l)
      (rules f j (exchanged j (j + f) A) D (swap j (j + f) p) h)
    where
      go : Dec (j ≡ r) → (b : Bool) → has_pivot r j (get_or p j 0) D ≡ b
          → (suc j ≤ r → State r n H start f (suc j) p (step_of r j (get_or p j 0) D) → InOrder r n (step_of r j j A) (step_of r j (get_or p j 0) D) p
          → End f (suc j) (step_of r j j A) p)
          → (State r n H start f j (swap j (j + f) p) D → InOrder r n (exchanged j (j + f) A) D (swap j (j + f) p)
          → End f j (exchanged j (j + f) A) (swap j (j + f) p)) → End (suc f) j A p
      go (yes e) b k kept turn = stopped (suc f) j A D p t z e
      go (no e) true k kept turn =
          let l : j < r = omega (arith, e) in
          let m : j < n = omega (arith, t.room) in
          let x = has_row r j (get_or p j 0) D k in
          let col : (i : ℕ) → i < r → A i j ≡ D i (get_or p j 0) = λ i y. z i j y m in
          rw (rule_kept r f j A p l (has_alike r j (get_or p j 0) A D col j ∙ k))
          (kept (omega arith)
          (subst (λ (B : Matrix). State r n H start f (suc j) p B) (sym (step_has r j (get_or p j 0) D k))
          (taken r n H start f j p D t e (pivot_row r D (get_or p j 0) j) x.0 x.1 x.2))
          (λ i u y v. step_alike r j (get_or p j 0) A D col (λ w. w (get_or p u 0)) (read_linear (get_or p u 0)) u (λ i y. z i u y v) j i y))
      go (no e) false k kept turn =
          let l : j < r = omega (arith, e) in
          let m : j < n = omega (arith, t.room) in
          rw (rule_turned r f j A p l (has_alike r j (get_or p j 0) A D (λ i y. z i j y m) j ∙ k))
          (turn (turned r n H start f j p D t e (has_none r j (get_or p j 0) D k)) (placed_turned l m))
        where
          placed_turned : j < r → j < n → InOrder r n (exchanged j (j + f) A) D (swap j (j + f) p)
          placed_turned l m i u y v =
              z i (other j (j + f) u) y (other_below u v)
              ∙ ap (D i) (sym (swap_at p j (j + f) (omega (arith, t.order_ok.size)) (omega (arith, t.order_ok.size, t.room)) u))
            where
              other_below : (u : ℕ) → u < n → other j (j + f) u < n
              other_below u v = by (eqb u j) (eqb u (j + f))
                where
                  by : (a b : Bool) → cond a (j + f) (cond b j u) < n
                  by true b = omega (arith, t.room)
                  by false true = m
                  by false false = v

-- from the start
pub ruled : (r : ℕ) (H A : Matrix) (start : List ℕ) → Order (length start) start → rank r (length start) H (range (length start)) ≡ r
    → InOrder r (length start) A H start
    → let s = column_rule r (length start) 0 A start in Ruled r (length start) H start s.kept s.order s.cells
ruled r H A start o full z =
    rules r (length start) H start ((full_reaches r (length start) H).0 full) (length start) 0 A H start (omega arith) (begin r (length start) H start o) z
