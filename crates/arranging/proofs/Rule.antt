-- The column rule, turn by turn; it reads the first r rows alone. Assumes nothing.
use mathlib.Core.Path.{◌≡◌, refl, ap, ◌∙◌}
use mathlib.Core.Bool.{Bool, true, false}
use mathlib.Core.List.{List}
use Prim.Native.Nat.{ℕ, zero, suc, ◌+◌, ◌≤◌, ◌<◌}
use native.Mathlib.Decide.{ℕ_discrete}
use native.Mathlib.Omega.{arith}
use borrow.Author.Tests.{eq-eqb, ne_eqb}
use Rattle.matrix.specs.Linear.{Vector, Matrix}
use Rattle.matrix.specs.Steps.{has_pivot, step_of}
use Rattle.matrix.proofs.Blocks.{has_front, step_front}
use Rattle.grid.specs.Steps.{other}
use Rattle.scheme.specs.Build.{swap}
use Rattle.arranging.specs.Columns.{exchanged, Standing, standing, column_rule, SameEnd}

pub end_trans : {r : ℕ} {s s' s'' : Standing} → SameEnd r s s' → SameEnd r s' s'' → SameEnd r s s''
end_trans a b = record { kept = a.kept ∙ b.kept; order = a.order ∙ b.order; cells = λ i h. a.cells i h ∙ b.cells i h }

pub end_same : {r : ℕ} {s s' : Standing} → s ≡ s' → SameEnd r s s'
end_same e = record { kept = ap (λ (s : Standing). s.kept) e; order = ap (λ (s : Standing). s.order) e; cells = λ i h. ap (λ (s : Standing). s.cells i) e }

module _ (r f j : ℕ) (A : Matrix) (p : List ℕ) where
  pub rule_kept : j < r → has_pivot r j j A ≡ true → column_rule r (suc f) j A p ≡ column_rule r f (suc j) (step_of r j j A) p
  unfolding column_rule
  rule_kept h e = rw (ne_eqb j r (λ z. omega arith), e)

  pub rule_turned : j < r → has_pivot r j j A ≡ false → column_rule r (suc f) j A p ≡ column_rule r f j (exchanged j (j + f) A) (swap j (j + f) p)
  unfolding column_rule
  rule_turned h e = rw (ne_eqb j r (λ z. omega arith), e)

-- it ends when r are kept
pub rule_stop : (r f : ℕ) (A : Matrix) (p : List ℕ) → column_rule r f r A p ≡ standing r A p
unfolding column_rule
rule_stop r zero A p = refl
rule_stop r (suc f) A p = rw (eq-eqb r r refl)

-- where more are to be kept, a column is left
pub rule_some : (r f j : ℕ) (A : Matrix) (p : List ℕ) → (column_rule r f j A p).kept ≡ r → j < r → 0 < f
unfolding column_rule
rule_some r zero j A p e h = absurd (omega arith)
rule_some r (suc f) j A p e h = omega arith

-- the first r rows are all that counts
pub rule_front : (r f j : ℕ) (X Y : Matrix) (p : List ℕ) → j ≤ r → ((i : ℕ) → i < r → X i ≡ Y i) → SameEnd r (column_rule r f j X p) (column_rule r f j Y p)
unfolding column_rule
rule_front r zero j X Y p h e = record { kept = refl; order = refl; cells = e }
rule_front r (suc f) j X Y p h e = go (ℕ_discrete j r) (has_pivot r j j Y) refl (λ l. rule_front r f (suc j) (step_of r j j X) (step_of r j j Y) p l
    (step_front r j j X Y e h)) (rule_front r f j (exchanged j (j + f) X) (exchanged j (j + f) Y) (swap j (j + f) p) h
    (λ i l. ap {B = Vector} (λ (v : Vector) (t : ℕ). v (other j (j + f) t)) (e i l)))
  where
    go : Dec (j ≡ r) → (b : Bool) → has_pivot r j j Y ≡ b
        → (suc j ≤ r → SameEnd r (column_rule r f (suc j) (step_of r j j X) p) (column_rule r f (suc j) (step_of r j j Y) p))
        → SameEnd r (column_rule r f j (exchanged j (j + f) X) (swap j (j + f) p)) (column_rule r f j (exchanged j (j + f) Y) (swap j (j + f) p))
        → SameEnd r (column_rule r (suc f) j X p) (column_rule r (suc f) j Y p)
    go (yes z) b k a c = rw (eq-eqb j r z) (record { kept = refl; order = refl; cells = e })
    go (no z) true k a c = rw (ne_eqb j r z, has_front r j j X Y e h ∙ k, k) (a (omega (arith, z)))
    go (no z) false k a c = rw (ne_eqb j r z, has_front r j j X Y e h ∙ k, k) c
