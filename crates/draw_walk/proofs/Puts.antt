-- One place of the walk: the trits as numbers, the row that takes one, whether a pivot is next, and a forced place. Assumes nothing.
use mathlib.Core.Path.{◌≡◌, refl, sym, ap, ap₂, ◌∙◌, fun_ext}
use mathlib.Core.Bool.{Bool, true, false, not, ◌&&◌, cond, true≢false}
use mathlib.Core.Logic.{◌⊎◌, inl, inr}
use mathlib.Core.List.{List}
use Prim.Native.Nat.{ℕ, zero, suc, ◌*◌, ◌≤◌, ◌<◌}
use native.Mathlib.Decide.{dec_lt, ℕ_discrete}
use native.Mathlib.Omega.{arith}
use borrow.Author.Tests.{eq-eqb, ne_eqb, lt-ltb, le-ltb}
use lib.Dec.{eqb}
use mir.Syntax.{w8}
use mir.Val.{Fits}
use Rattle.trits.specs.Trit.{Trit, t0, t1, t2, sub_t, mul_t, is_set, number, trit_of}
use Rattle.trits.specs.Rows.{matrix_at}
use Rattle.matrix.specs.Linear.{Vector, Matrix}
use Rattle.grid.specs.Steps.{Rows, Grid, put_row}
use Rattle.grid.proofs.RowParts.{read_trit}
use Rattle.grid.proofs.Cells.{grid_to}
use Rattle.draw_walk.specs.Walks.{is_next}
use Rattle.scheme.specs.Draw.{forced_by}

-- ---- trits as numbers

pub set_number : (x : Trit) → not (eqb (number x) 0) ≡ is_set x
set_number t0 = refl
set_number t1 = refl
set_number t2 = refl

pub is_zero : {n : ℕ} (x : Trit) → n ≡ number x → n ≡ 0 → is_set x ≡ false
is_zero x e z = sym (set_number x) ∙ ap (λ (k : ℕ). not (eqb k 0)) (sym e ∙ z)

pub is_not_zero : {n : ℕ} (x : Trit) → n ≡ number x → (n ≡ 0 → ⊥) → is_set x ≡ true
is_not_zero {n} x e f = sym (set_number x) ∙ ap (λ (k : ℕ). not (eqb k 0)) (sym e) ∙ ap not (ne_eqb n 0 f)

-- a difference of trits that are read
pub less_read : {a b n : ℕ} (x y : Trit) → a ≡ number x → b ≡ number y → n ≡ number (sub_t (trit_of a) (trit_of b)) → n ≡ number (sub_t x y)
less_read {a} {b} x y e f d = d ∙ ap₂ (λ (u v : Trit). number (sub_t u v)) (read_trit x a e) (read_trit y b f)

-- a product of small numbers is a byte
pub small_product : {x v : ℕ} → x < 7 → v < 3 → Fits w8 (x * v)
small_product {x} {v} h k = by v k
  where
    by : (n : ℕ) → n < 3 → Fits w8 (x * n)
    by zero l = omega arith
    by (suc zero) l = omega arith
    by (suc (suc zero)) l = omega arith
    by (suc (suc (suc n))) l = absurd (omega arith)

-- ---- the word that row e takes

-- row e stays as it is
pub put_own : (e : ℕ) (A : Matrix) → A ≡ put_row e (A e) A
put_own e A = fun_ext (λ i. fun_ext (λ q. by i q (ℕ_discrete i e)))
  where
    by : (i q : ℕ) → Dec (i ≡ e) → A i q ≡ put_row e (A e) A i q
    by i q (yes d) = rw (eq-eqb i e d) (ap (λ (k : ℕ). A k q) d)
    by i q (no f) = rw (ne_eqb i e f)

pub grid_row : {o t : List ℕ} {r w : ℕ} (A : Matrix) (e : ℕ) {u v : Vector} → Grid o t r w (put_row e u A) → u ≡ v → Grid o t r w (put_row e v A)
grid_row A e g d = grid_to g (ap (λ (y : Vector). put_row e y A) d)

pub grid_own : {o t : List ℕ} {r w : ℕ} → Rows o t r w → (e : ℕ) {v : Vector} → matrix_at w o t e ≡ v → Grid o t r w (put_row e v (matrix_at w o t))
grid_own {o} {t} {w = w} g e d = record { rows = g; cells = put_own e (matrix_at w o t) ∙ ap (λ (y : Vector). put_row e y (matrix_at w o t)) d }

-- ---- whether a place has the next pivot

module _ (r w : ℕ) (o t : List ℕ) (c q : ℕ) where
  pub next_none : r ≤ c → false ≡ is_next r (matrix_at w o t) c q
  next_none h = sym (ap (λ (b : Bool). b && is_set (matrix_at w o t c q)) (le-ltb c r h))

pub next_row : {x : ℕ} (r : ℕ) (A : Matrix) (c q : ℕ) → c < r → x ≡ number (A c q) → not (eqb x 0) ≡ is_next r A c q
next_row r A c q h e =
    ap (λ (n : ℕ). not (eqb n 0)) e ∙ set_number (A c q) ∙ sym (ap (λ (b : Bool). b && is_set (A c q)) (lt-ltb c r h))

-- there is a row for it
pub next_lt : (r : ℕ) (A : Matrix) (c q : ℕ) → is_next r A c q ≡ true → c < r
next_lt r A c q e = by (dec_lt c r)
  where
    by : Dec (c < r) → c < r
    by (yes l) = l
    by (no f) = absurd (true≢false (sym e ∙ ap (λ (b : Bool). b && is_set (A c q)) (le-ltb c r (omega arith))))

-- of two cases the second, where the first is not so
pub other_case : {b : Bool} {X : Type 0} → (b ≡ true) ⊎ X → b ≡ false → X
other_case (inl f) e = absurd (true≢false (sym f ∙ e))
other_case (inr x) e = x

-- ---- a forced place

module _ (v : Vector) (q n : ℕ) (e : n ≡ number (v q)) (b c : Vector) (x : Trit) where
  pub forced_none : n ≡ 0 → x ≡ forced_by b c v q x
  forced_none z = sym (ap (λ (s : Bool). cond s (mul_t (sub_t (c q) (b q)) (v q)) x) (is_zero (v q) e z))

  pub forced_some : {k l m : ℕ} → (n ≡ 0 → ⊥) → k ≡ number (b q) → l ≡ number (c q) → m ≡ number (mul_t (sub_t (trit_of l) (trit_of k)) (trit_of n))
      → m ≡ number (forced_by b c v q x)
  forced_some {k} {l} {m} f eb ec d =
      d
      ∙ ap₂ (λ (y z : Trit). number (mul_t (sub_t y z) (trit_of n))) (read_trit (c q) l ec) (read_trit (b q) k eb)
      ∙ ap (λ (y : Trit). number (mul_t (sub_t (c q) (b q)) y)) (read_trit (v q) n e)
      ∙ sym (ap (λ (s : Bool). number (cond s (mul_t (sub_t (c q) (b q)) (v q)) x)) (is_not_zero (v q) e f))
