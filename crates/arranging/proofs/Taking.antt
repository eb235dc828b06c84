-- The pivots of a block under the column rule, turn by turn: a pivot more (`taking_pivot`), or two columns exchanged (`taking_turn`). Assumes nothing.
use mathlib.Core.Path.{◌≡◌, refl, sym, ap, ap₂, ◌∙◌, subst, fun_ext}
use mathlib.Core.Logic.{◌⊎◌, inl, inr}
use mathlib.Core.Bool.{Bool, true, false, cond}
use mathlib.Core.List.{List}
use Prim.Native.Nat.{ℕ, suc, ◌+◌, ◌-◌, ◌*◌, ◌/◌, ◌≤◌, ◌<◌}
use native.Mathlib.Decide.{dec_lt}
use native.Mathlib.Numerals.{add-one}
use native.Mathlib.Omega.{arith}
use borrow.Author.Tests.{ne_eqb}
use lib.Dec.{ltb}
use lib.ListN.{length}
use Rattle.trits.specs.Trit.{Trit, t0, sub_t}
use Rattle.matrix.specs.Linear.{Vector, Matrix}
use Rattle.matrix.specs.Steps.{has_pivot, step_of}
use Rattle.matrix.specs.Blocks.{less_of, UnitAt, basis_row, basis, from, pending, NextPivot, Cleared}
use Rattle.matrix.proofs.Dots.{dot_left}
use Rattle.matrix.proofs.Less.{less_none, less_zero}
use Rattle.matrix.proofs.Blocks.{pending_none, pending_done, pending_later, next_unit, next_later, next_none, next_block_none}
use Rattle.grid.specs.Steps.{other}
use Rattle.scheme.specs.Build.{swap}
use Rattle.scheme_laws.proofs.Build.{swap_length}
use Rattle.arranging.specs.Columns.{exchanged, standing, column_rule, SameEnd, most, PivotsTaken, Arranged}
use Rattle.arranging.proofs.Rule.{end_trans, end_same, rule_kept, rule_turned, rule_stop, rule_some, rule_front}

-- ---- columns exchanged after the block's own

module _ (at k b : ℕ) (h : at + k ≤ b) where
  -- the columns before are left
  before : (t : ℕ) → t < at + k → other (at + k) b t ≡ t
  before t l = rw (ne_eqb t (at + k) (λ z. omega arith), ne_eqb t b (λ z. omega arith))

  pub pending_exchanged : (r : ℕ) (A : Matrix)
      → pending at k at (basis r (exchanged (at + k) b A)) (exchanged (at + k) b A) ≡ exchanged (at + k) b (pending at k at (basis r A) A)
  pending_exchanged r A = fun_ext (λ i. fun_ext (λ t. ap (λ (x : Trit). cond (ltb i (at + k)) (A i (other (at + k) b t)) (sub_t (A i (other (at + k) b t)) x))
      (dot_left k (λ j. A i (other (at + k) b (from at j))) (λ j. A i (from at j)) (λ j. basis r A j (other (at + k) b t))
      (λ j l. ap (A i) (before (from at j) (omega arith))))))

  pub unit_exchanged : (r : ℕ) (A : Matrix) → UnitAt k (from at) (basis r A) → UnitAt k (from at) (basis r (exchanged (at + k) b A))
  unit_exchanged r A u j l x y = ap (basis r A j) (before (from at l) (omega arith)) ∙ u j l x y

-- ---- a block's pivots

pub taking_none : (r at left : ℕ) (p : List ℕ) (A : Matrix) → at + left ≤ length p → PivotsTaken r at 0 left left p p A A
taking_none r at left p A h = record {
  todo = end_same (ap₂ (λ (n : ℕ) (B : Matrix). column_rule r left n B p) (omega arith) (pending_none at at (basis r A) A));
  size = refl;
  room = omega arith;
  unit = λ j l x y. absurd (omega arith);
  rows_zero = λ t l z. z;
  block_zero = λ t l z j x. absurd (omega arith);
}

module _ {r at k left n : ℕ} {p q : List ℕ} {A M : Matrix} (g : PivotsTaken r at k left n p q A M) (h : at + k < r) where
  abbrev now : Matrix
  now = pending at k at (basis r M) M

  -- a column is left
  pub taking_some : (column_rule r left at A p).kept ≡ r → 0 < n
  taking_some e = rule_some r n (at + k) now q (g.todo.kept ∙ e) h

  module _ (l : 0 < n) where
    one : column_rule r n (at + k) now q ≡ column_rule r (suc (n - 1)) (at + k) now q
    one = ap (λ (m : ℕ). column_rule r m (at + k) now q) (omega arith)

    pub taking_pivot : {t : Bool} {B : Matrix} → NextPivot t r at k at M B → t ≡ true → PivotsTaken r at (k + 1) left (n - 1) p q A B
    taking_pivot {t} {B} x e = subst (λ (m : ℕ). PivotsTaken r at m left (n - 1) p q A B) (sym (add-one k)) (record {
      todo = end_trans (subst (λ (m : ℕ). SameEnd r (column_rule r (n - 1) m (pending at (suc k) at (basis r B) B) q) (column_rule r (n - 1) (suc (at + k))
          (step_of r (at + k) (at + k) now) q)) (omega arith)
          (rule_front r (n - 1) (suc (at + k)) (pending at (suc k) at (basis r B) B) (step_of r (at + k) (at + k) now) q (omega arith)
          (next_later y g.unit)))
          (end_trans (end_same (sym (rule_kept r (n - 1) (at + k) now q h (sym y.answer)) ∙ sym one)) g.todo);
      size = g.size;
      room = omega (arith, g.room);
      unit = next_unit y g.unit;
      rows_zero = λ t l z. next_none y t (g.rows_zero t l z) (g.block_zero t l z);
      block_zero = λ t l z. next_block_none y t (g.rows_zero t l z) (g.block_zero t l z);
    })
      where
        y : NextPivot true r at k at M B
        y = subst (λ (b : Bool). NextPivot b r at k at M B) e x

    pub taking_turn : {t : Bool} {M' B : Matrix} {q' : List ℕ} → NextPivot t r at k at M M' → t ≡ false → B ≡ exchanged (at + k) (at + k + (n - 1)) M'
        → q' ≡ swap (at + k) (at + k + (n - 1)) q → PivotsTaken r at k left (n - 1) p q' A B
    taking_turn {t} {M'} {B} {q'} x e f s = record {
      todo = end_trans (end_same (ap₂ (λ (B : Matrix) (l : List ℕ). column_rule r (n - 1) (at + k) (pending at k at (basis r B) B) l) same s
          ∙ ap (λ (B : Matrix). column_rule r (n - 1) (at + k) B (swap (at + k) (at + k + (n - 1)) q)) (pending_exchanged at k b (omega arith) r M)
          ∙ sym (rule_turned r (n - 1) (at + k) now q h none) ∙ sym one)) g.todo;
      size = ap (λ (l : List ℕ). length l) s ∙ swap_length q (at + k) b (omega (arith, g.room, g.size)) (omega (arith, g.room, g.size)) ∙ g.size;
      room = omega (arith, g.room);
      unit = subst (λ (B : Matrix). UnitAt k (from at) (basis r B)) (sym same) (unit_exchanged at k b (omega arith) r M g.unit);
      rows_zero = λ t l z i a c. ap (λ (B : Matrix). B i t) same ∙ ap (M i) (before at k b (omega arith) t (omega arith)) ∙ g.rows_zero t l z i a c;
      block_zero = λ t l z j a.
          ap (λ (B : Matrix). basis r B j t) same ∙ ap (basis r M j) (before at k b (omega arith) t (omega arith)) ∙ g.block_zero t l z j a;
    }
      where
        b : ℕ
        b = at + k + (n - 1)

        same : B ≡ exchanged (at + k) (at + k + (n - 1)) M
        same = f ∙ ap (exchanged (at + k) (at + k + (n - 1))) (x.none e)

        none : has_pivot r (at + k) (at + k) now ≡ false
        none = sym x.answer ∙ e

-- ---- the words before that of the column `at`, and those past a row's

module _ {r at k left n : ℕ} {p q : List ℕ} {A M : Matrix} (g : PivotsTaken r at k left n p q A M)
    (low : (i t : ℕ) → at ≤ i → i < r → t < at → A i t ≡ t0) (w : ℕ) (past : (i t : ℕ) → 64 * w ≤ t → M i t ≡ t0) where
  -- the block's rows are 0 there
  pub block_outside : (j t : ℕ) → j < k → (t < 64 * (at / 64)) ⊎ (64 * w ≤ t) → M (basis_row r j) t ≡ t0
  block_outside j t h (inl b) = let m : t < at = omega arith in g.block_zero t m (λ i x y. low i t x y m) j h
  block_outside j t h (inr b) = past (basis_row r j) t b

  -- and the rows that are left
  pub rows_outside : (i t : ℕ) → at + k ≤ i → i < r → (t < 64 * (at / 64)) ⊎ (64 * w ≤ t) → M i t ≡ t0
  rows_outside i t h l (inl b) = let m : t < at = omega arith in g.rows_zero t m (λ i x y. low i t x y m) i (omega arith) l
  rows_outside i t h l (inr b) = past i t b

-- ---- the whole block

pub all_taken : {r at k e left n : ℕ} {p q : List ℕ} {A B : Matrix} → k ≡ e → e ≡ most r at → PivotsTaken r at k left n p q A B
    → PivotsTaken r at (most r at) left n p q A B
all_taken {r} {at} {k} {e} {left} {n} {p} {q} {A} {B} x y g = subst (λ (j : ℕ). PivotsTaken r at j left n p q A B) (x ∙ y) g

pub block_taken : {r at k left n : ℕ} {p q : List ℕ} {A B : Matrix} → k ≡ most r at → PivotsTaken r at (most r at) left n p q A B
    → PivotsTaken r at k left n p q A B
block_taken {r} {at} {k} {left} {n} {p} {q} {A} {B} e g = subst (λ (j : ℕ). PivotsTaken r at j left n p q A B) (sym e) g

-- ---- block after block

-- where it stands: the first `at` columns are kept, and left are untried
pub record Going (r : ℕ) (A : Matrix) (p : List ℕ) (left at : ℕ) (M : Matrix) (q : List ℕ) : Type 0 where
  pub todo : SameEnd r (column_rule r left at M q) (column_rule r (length p) 0 A p)
  pub size : length q ≡ length p
  pub room : at + left ≤ length p
  pub few : at ≤ r
  pub low : (i t : ℕ) → at ≤ i → i < r → t < at → M i t ≡ t0

pub going_none : (r : ℕ) (A : Matrix) (p : List ℕ) → Going r A p (length p) 0 A p
going_none r A p = record { todo = end_same refl; size = refl; room = omega arith; few = omega arith; low = λ i t x y z. absurd (omega arith) }

pub going_block : {r : ℕ} {A : Matrix} {p : List ℕ} {left n at k : ℕ} {L M B : Matrix} {q q' : List ℕ} → Going r A p left at L q
    → PivotsTaken r at k left n q q' L M → at + k ≤ r → Cleared r k at (at + k) r M B → Going r A p n (at + k) B q'
going_block {r} {A} {p} {left} {n} {at} {k} {L} {M} {B} {q} {q'} g x h d = record {
  todo = end_trans (rule_front r n (at + k) B (pending at k at (basis r M) M) q' h row) (end_trans x.todo g.todo);
  size = x.size ∙ g.size;
  room = omega (arith, x.room, g.size);
  few = h;
  low = λ i t a b c. ap (λ (v : Vector). v t) (d.cleared i a b) ∙ zero i t a b c (dec_lt t at);
}
  where
    row : (i : ℕ) → i < r → B i ≡ pending at k at (basis r M) M i
    row i l = by (dec_lt i (at + k))
      where
        by : Dec (i < at + k) → B i ≡ pending at k at (basis r M) M i
        by (yes m) = d.kept i (inl m) (inl l) ∙ sym (pending_done at k at (basis r M) M i m)
        by (no m) = d.cleared i (omega arith) l ∙ sym (pending_later at k at (basis r M) M i (omega arith))

    zero : (i t : ℕ) → at + k ≤ i → i < r → t < at + k → Dec (t < at) → less_of k (from at) (basis r M) (M i) t ≡ t0
    zero i t a b c (yes m) =
        let z : (j : ℕ) → at ≤ j → j < r → L j t ≡ t0 = λ j u v. g.low j t u v m in
        less_none k (from at) (basis r M) (M i) t (x.rows_zero t m z i (omega arith) b) (x.block_zero t m z)
    zero i t a b c (no m) =
        let e : from at (t - at) ≡ t = omega arith in
        ap (less_of k (from at) (basis r M) (M i)) (sym e) ∙ less_zero k (from at) (basis r M) x.unit (M i) (t - at) (omega arith)

-- what the block asks for: the rule keeps r columns still
pub going_full : {r : ℕ} {A : Matrix} {p : List ℕ} {left at : ℕ} {M : Matrix} {q : List ℕ} → Going r A p left at M q
    → (column_rule r (length p) 0 A p).kept ≡ r → (column_rule r left at M q).kept ≡ r
going_full g e = g.todo.kept ∙ e

pub going_done : {r : ℕ} {A : Matrix} {p : List ℕ} {left at : ℕ} {M : Matrix} {q : List ℕ} → Going r A p left at M q → r ≤ at
    → Arranged r (column_rule r (length p) 0 A p) M q
going_done {r} {A} {p} {left} {at} {M} {q} g h =
    let e : at ≡ r = omega (arith, g.few) in
    let z : SameEnd r (standing r M q) (column_rule r (length p) 0 A p) =
    end_trans (end_same (sym (ap (λ (j : ℕ). column_rule r left j M q) e ∙ rule_stop r left M q))) g.todo in
    record { order = z.order; cells = z.cells }
