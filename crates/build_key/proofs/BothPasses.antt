-- Both passes on columns in their order: they stand for passes on places (`pass_left`), after which the key is read (`key_left`). Assumes nothing.
use mathlib.Core.Path.{◌≡◌, sym, ap, ap₂, ◌∙◌, subst}
use mathlib.Core.Bool.{Bool, true, false, cond}
use mathlib.Core.Logic.{inr}
use mathlib.Core.List.{List}
use Prim.Native.Nat.{ℕ, zero, suc, ◌+◌, ◌≤◌, ◌<◌}
use native.Mathlib.Omega.{arith}
use borrow.Author.Tests.{lt-ltb}
use lib.Dec.{ltb}
use lib.ListN.{length, get_or, take}
use lib.Seq.{get_or-take, length-take-le}
use Rattle.trits.specs.Trit.{sub_t, mul_t}
use Rattle.trits.specs.Rows.{matrix_at}
use Rattle.matrix.specs.Linear.{Vector, Matrix, rank, range}
use Rattle.matrix.specs.Orders.{Order}
use Rattle.matrix.specs.Passes.{Lowered, Reduced}
use Rattle.matrix.specs.Steps.{take_above, raised}
use Rattle.matrix.specs.Blocks.{Front, columns_by}
use Rattle.matrix.proofs.Places.{elem_at}
use Rattle.matrix.proofs.Greedy.{Kept}
use Rattle.matrix.proofs.Orders.{order_good}
use Rattle.matrix.proofs.Rank.{full_reaches}
use Rattle.matrix.proofs.Counts.{range_at}
use Rattle.matrix.proofs.Elimination.{raise_reduced}
use Rattle.scheme.specs.Build.{arranged}
use Rattle.scheme_laws.proofs.Build.{arranged_good, reduced_key}
use Rattle.build_matrix.specs.Steps.{col_of, placed_at}
use Rattle.arranging.specs.Columns.{column_rule}
use Rattle.arranging.specs.Columns as columns
use Rattle.arranging.proofs.Ruled.{InOrder, Ruled, ruled}
use Rattle.raising.specs.Steps.{AtEnds, Triangular}
use Rattle.build_key.specs.Steps.{FirstPass, Keyed}

-- ---- the columns gathered in the order stand for the places

pub gathered_placed : (r half hw w : ℕ) (o t order : List ℕ) {A B : Matrix}
    → Front r (columns_by (λ j. col_of half hw (get_or order j 0)) (length order) (matrix_at w o t)) A B →
    InOrder r (length order) B (placed_at half hw w o t) order
unfolding placed_at
gathered_placed r half hw w o t order f i j h l = ap (λ (v : Vector). v j) (f.front i h) ∙ rw (lt-ltb j (length order) l)

-- ---- the last pass on columns and on places

module _ (r n : ℕ) (order : List ℕ) (fits : r ≤ n) (size : length order ≡ n) where
  above_placed : (c : ℕ) (X Y : Matrix) → c < r → InOrder r n X Y order
      → InOrder r n (take_above c (get_or (range r) c 0) X) (take_above c (get_or (take r order) c 0) Y) order
  above_placed c X Y h z i t l m =
      ap (λ (q : ℕ). take_above c q X i t) (range_at r c h) ∙ by (ltb i c)
      ∙ ap (λ (q : ℕ). take_above c q Y i (get_or order t 0)) (sym (get_or-take r order c 0 h))
    where
      by : (b : Bool) → cond b (sub_t (X i t) (mul_t (X i c) (X c t))) (X i t)
          ≡ cond b (sub_t (Y i (get_or order t 0)) (mul_t (Y i (get_or order c 0)) (Y c (get_or order t 0)))) (Y i (get_or order t 0))
      by true = ap₂ sub_t (z i t l m) (ap₂ mul_t (z i c l (omega arith)) (z c t h m))
      by false = z i t l m

  raised_placed : (c : ℕ) (X Y : Matrix) → c ≤ r → InOrder r n X Y order → InOrder r n (raised (range r) c X) (raised (take r order) c Y) order
  unfolding raised
  raised_placed zero X Y h z = z
  raised_placed (suc c) X Y h z =
      raised_placed c (take_above c (get_or (range r) c 0) X) (take_above c (get_or (take r order) c 0) Y) (omega arith) (above_placed c X Y (omega arith) z)

-- ---- the first pass

module _ (r : ℕ) (H : Matrix) (start : List ℕ) (o : Order (length start) start) (full : rank r (length start) H (range (length start)) ≡ r)
    {A : Matrix} (z : InOrder r (length start) A H start) where
  rule : let s = column_rule r (length start) 0 A start in Ruled r (length start) H start s.kept s.order s.cells
  rule = ruled r H A start o full z

  -- every row gets a pivot
  pub rule_full : (column_rule r (length start) 0 A start).kept ≡ r
  rule_full = rule.full

  module _ {M : Matrix} {q : List ℕ} (a : columns.Arranged r (column_rule r (length start) 0 A start) M q) where
    pub order_left : q ≡ (arranged r (length start) H start).order
    order_left = a.order ∙ rule.ordered

    pub pass_left : FirstPass r (length start) H M q
    pass_left = record {
      places = rule.places;
      placed = λ i t h l.
          ap (λ (v : Vector). v t) (a.cells i h) ∙ rule.placed i t h l ∙ ap (λ (p : List ℕ). rule.places i (get_or p t 0)) (sym a.order);
      lowered = subst (λ (p : List ℕ). Lowered r (length start) H rule.places (take r p)) (sym a.order) rule.lowered;
      is_order = subst (λ (p : List ℕ). Order (length start) p) (sym a.order) rule.is_order;
      fits = rule.fits;
    }

-- ---- both passes

module _ {r n : ℕ} {H M : Matrix} {q : List ℕ} (f : FirstPass r n H M q) where
  abbrev D : Matrix
  D = f.places

  kept_size : length (take r q) ≡ r
  kept_size = length-take-le r q (omega (arith, f.is_order.size, f.fits))

  -- 1 on the diagonal, and 0 below it
  pub first_triangular : Triangular r M
  first_triangular = record {
    one = λ c h.
        f.placed c c h (omega (arith, f.fits)) ∙ ap (D c) (sym (get_or-take r q c 0 h)) ∙ f.lowered.one c (omega (arith, kept_size));
    none = λ c i h l.
        f.placed i c l (omega (arith, f.fits)) ∙ ap (D i) (sym (get_or-take r q c 0 (omega arith))) ∙ f.lowered.none c i (omega (arith, kept_size)) h l;
  }

-- the key is read
pub key_left : (r : ℕ) (H : Matrix) (start : List ℕ) {M L B : Matrix} {q : List ℕ} → Order (length start) start
    → rank r (length start) H (range (length start)) ≡ r → q ≡ (arranged r (length start) H start).order → FirstPass r (length start) H M q
    → AtEnds r 0 (raised (range r) r M) L B → Keyed r (length start) H B q
key_left r H start {M} {L} {B} {q} o full e f g = record {
  entry = λ i c h l.
      reduced_key r n H R q kept reduced (omega (arith, f.is_order.size, f.fits)) i c h
      ((order_good n q f.is_order).1 (get_or q (r + i) 0) (elem_at q (r + i) (omega (arith, f.is_order.size))))
      ∙ sym (raised_placed r n q f.fits f.is_order.size r M f.places (omega arith) f.placed c (r + i) h l)
      ∙ sym (g.ends c (r + i) h (inr (omega arith)));
}
  where
    n : ℕ
    n = length start

    R : Matrix
    R = raised (take r q) r f.places

    kept : Kept r (length start) H (take r q)
    kept = subst (λ (p : List ℕ). Kept r (length start) H (take r p)) (sym e)
        (arranged_good r (length start) H start ((full_reaches r (length start) H).0 full) o).kept

    reduced : Reduced r (length start) H (raised (take r q) r f.places) (take r q)
    reduced = subst (λ (m : ℕ). Reduced r (length start) H (raised (take r q) m f.places) (take r q)) (kept_size f)
        (raise_reduced r (length start) H f.places (take r q) f.lowered (omega (arith, kept_size f)))
