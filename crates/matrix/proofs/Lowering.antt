-- Blocks of pivots one after another are columns tried one after another (`lowering_block`, `lowering_none`). Assumes nothing.
use mathlib.Core.Path.{◌≡◌, refl, sym, ap, ◌∙◌, subst}
use mathlib.Core.Logic.{◌⊎◌, inl, inr}
use mathlib.Core.Bool.{Bool, true, false, cond}
use Prim.Native.Nat.{ℕ, zero, suc, ◌+◌, ◌-◌, ◌≤◌, ◌<◌}
use native.Mathlib.Omega.{arith}
use native.Mathlib.Numerals.{unary_clauses, add-one}
use native.Mathlib.Decide.{ℕ_discrete}
use borrow.Author.Tests.{le-ltb}
use lib.ListN.{length}
use Rattle.trits.specs.Trit.{t0}
use Rattle.matrix.specs.Linear.{Vector, Matrix, rank, range}
use Rattle.matrix.specs.Steps.{first_row, has_pivot, step_of, Stage, tried, eliminate, eliminated, begun}
use Rattle.matrix.specs.Blocks.{steps, Advanced, Front}
use Rattle.matrix.proofs.Orders.{order_good}
use Rattle.matrix.proofs.Counts.{range_order}
use Rattle.matrix.proofs.Steps.{has_none, step_none, step_below}
use Rattle.matrix.proofs.Kept.{tried_cells, tried_count, eliminate_more, eliminate_rank}
use Rattle.matrix.proofs.Tried.{step_keep}
use Rattle.matrix.proofs.Blocks.{has_front, step_front}

-- the first c columns of A were tried
abbrev went : ℕ → Matrix → ℕ → Stage
went r A c = eliminate r (range c) (begun A)

-- `at` of them have pivots, and the first r rows of B are then as elimination leaves them
pub record Lowering (r : ℕ) (A : Matrix) (c at : ℕ) (B : Matrix) : Type 0 where
  pub front : (i : ℕ) → i < r → B i ≡ (eliminate r (range c) (begun A)).cells i
  pub counted : at ≡ length (eliminate r (range c) (begun A)).kept
  pub room : at ≤ r
  pub kept : (i : ℕ) → r + 243 ≤ i → B i ≡ A i

pub lowering_start : (r : ℕ) (A : Matrix) → Lowering r A 0 0 A
unfolding eliminate range
lowering_start r A = record { front = λ i h. refl; counted = refl; room = omega arith; kept = λ i h. refl }

-- ---- one column more

module _ (r : ℕ) (A : Matrix) (c : ℕ) where
  next : went r A (suc c) ≡ tried r c (went r A c)
  unfolding range
  next = eliminate_more r (range c) c (begun A)

  next_cells : (went r A (suc c)).cells ≡ step_of r (length (went r A c).kept) c (went r A c).cells
  next_cells = ap (λ (s : Stage). s.cells) next ∙ tried_cells r c (went r A c)

  next_count : length (went r A (suc c)).kept ≡ cond (has_pivot r (length (went r A c).kept) c (went r A c).cells) (suc (length (went r A c).kept))
      (length (went r A c).kept)
  next_count = ap (λ (s : Stage). length s.kept) next ∙ tried_count r c (went r A c)

  -- the rows from `at` on are those of M
  module _ (at : ℕ) (M : Matrix) (e : (i : ℕ) → i < r → M i ≡ (went r A c).cells i) (n : at ≡ length (went r A c).kept) (h : at ≤ r) where
    same_has : has_pivot r at c M ≡ has_pivot r (length (went r A c).kept) c (went r A c).cells
    same_has = has_front r at c M (went r A c).cells e h ∙ ap (λ (k : ℕ). has_pivot r k c (went r A c).cells) n

    next_front : (i : ℕ) → i < r → step_of r at c M i ≡ (went r A (suc c)).cells i
    next_front i l =
        step_front r at c M (went r A c).cells e h i l ∙ ap (λ (k : ℕ). step_of r k c (went r A c).cells i) n ∙ sym (ap (λ (B : Matrix). B i) next_cells)

    next_counted : (t : Bool) → has_pivot r at c M ≡ t → cond t (suc at) at ≡ length (went r A (suc c)).kept
    next_counted t f =
        ap (cond t (suc at)) n ∙ ap (λ (k : ℕ). cond t (suc k) (length (went r A c).kept)) n
        ∙ ap (λ (b : Bool). cond b (suc (length (went r A c).kept)) (length (went r A c).kept)) (sym f ∙ same_has) ∙ sym next_count

-- ---- a block more

module _ {r at c m k : ℕ} {A L B : Matrix} (g : Lowering r A c at L) (b : Advanced r at c m k L B) where
  -- its steps are columns tried
  tried_steps : (j : ℕ) → j ≤ k → ((i : ℕ) → i < r → steps r at c j L i ≡ (went r A (c + j)).cells i) × (at + j ≡ length (went r A (c + j)).kept)
  unfolding steps
  tried_steps zero h = simp unary_clauses (g.front, g.counted)
  tried_steps (suc j) h =
      let e = tried_steps j (omega arith) in
      simp unary_clauses (
        next_front r A (c + j) (at + j) (steps r at c j L) e.0 e.1 (omega (arith, b.rows)),
        next_counted r A (c + j) (at + j) (steps r at c j L) e.0 e.1 (omega (arith, b.rows)) true (b.pivots j (omega arith)),
      )

  lowering_block : Lowering r A (c + k) (at + k) B
  lowering_block = record {
    front = λ i h. b.front i h ∙ (tried_steps k (omega arith)).0 i h;
    counted = (tried_steps k (omega arith)).1;
    room = b.rows;
    kept = λ i h. b.kept i h ∙ g.kept i h;
  }

  -- no pivot in the column c
  lowering_none : k ≡ 0 → Lowering r A (c + 1) at B
  unfolding steps
  lowering_none e = record {
    front = λ i h.
        b.front i h ∙ rw e (ap (λ (M : Matrix). M i) (sym (step_none r at c L (b.none e))) ∙ next_front r A c at L g.front g.counted g.room i h)
        ∙ ap (λ (n : ℕ). (went r A n).cells i) (sym (add-one c));
    counted = next_counted r A c at L g.front g.counted g.room false (b.none e) ∙ ap (λ (n : ℕ). length (went r A n).kept) (sym (add-one c));
    room = g.room;
    kept = λ i h. b.kept i h ∙ g.kept i h;
  }

  -- the column that comes next
  pub lowering_next : {d : ℕ} → ((k ≡ 0) × (d ≡ c + 1)) ⊎ ((k ≡ 0 → ⊥) × (d ≡ c + k)) → Lowering r A d (at + k) B
  lowering_next (inl (e, f)) =
      subst (λ (n : ℕ). Lowering r A n (at + k) B) (sym f) (subst (λ (n : ℕ). Lowering r A (c + 1) n B) (omega (arith, e)) (lowering_none e))
  lowering_next (inr (e, f)) = subst (λ (n : ℕ). Lowering r A n (at + k) B) (sym f) lowering_block

-- ---- where every row has its pivot, no column has one more

full_none : (r q : ℕ) (A : Matrix) → has_pivot r r q A ≡ false
unfolding has_pivot first_row
full_none r q A = let e : r - r ≡ 0 = omega arith in rw (e, first_row) (le-ltb r r (omega arith))

lowering_full : {r : ℕ} {A : Matrix} {c : ℕ} {B : Matrix} → Lowering r A c r B → Lowering r A (suc c) r B
lowering_full {r} {A} {c} {B} g = record {
  front = λ i h. ap (λ (M : Matrix). M i) (sym (step_none r r c B (full_none r c B))) ∙ next_front r A c r B g.front g.counted g.room i h;
  counted = next_counted r A c r B g.front g.counted g.room false (full_none r c B);
  room = g.room;
  kept = g.kept;
}

lowering_rest : {r : ℕ} {A : Matrix} {c : ℕ} {B : Matrix} (k : ℕ) → Lowering r A c r B → Lowering r A (c + k) r B
lowering_rest zero g = simp unary_clauses g
lowering_rest (suc k) g = simp unary_clauses (lowering_full (lowering_rest k g))

-- all columns were tried, or every row has its pivot
pub lowering_done : {r at c : ℕ} {A B : Matrix} (m : ℕ) → Lowering r A c at B → c ≤ m → (m ≤ c) ⊎ (r ≤ at)
    → (at ≡ rank r m A (range m)) × Front r (eliminated r A (range m)) A B
unfolding eliminated
lowering_done {r} {at} {c} {A} {B} m g h d =
    let z = all d in
    (z.counted ∙ eliminate_rank r m A (range m) (order_good m (range m) (range_order m)).1, record { front = z.front; kept = z.kept })
  where
    all : (m ≤ c) ⊎ (r ≤ at) → Lowering r A m at B
    all (inl l) = subst (λ (k : ℕ). Lowering r A k at B) (omega arith) g
    all (inr l) =
        let e : at ≡ r = omega (arith, g.room) in
        subst (λ (k : ℕ). Lowering r A m k B) (sym e)
        (subst (λ (k : ℕ). Lowering r A k r B) (omega arith) (lowering_rest (m - c) (subst (λ (k : ℕ). Lowering r A c k B) e g)))

-- ---- columns that are 0

-- those that were tried, in the rows that have no pivot yet
low : (r : ℕ) (A : Matrix) (c t : ℕ) → t < c → (i : ℕ) → length (went r A c).kept ≤ i → i < r → (went r A c).cells i t ≡ t0
low r A zero t h i l k = absurd (omega arith)
low r A (suc c) t h i l k = ap (λ (B : Matrix). B i t) (next_cells r A c) ∙ by (low r A c t) (ℕ_discrete t c) (has_pivot r at c (went r A c).cells) refl
  where
    at : ℕ
    at = length (went r A c).kept

    least : (b : Bool) → has_pivot r (length (went r A c).kept) c (went r A c).cells ≡ b
        → cond b (suc (length (went r A c).kept)) (length (went r A c).kept) ≤ i
    least b e = subst (λ (n : ℕ). n ≤ i) (next_count r A c ∙ ap (λ (b : Bool). cond b (suc at) at) e) l

    more : length (went r A c).kept ≤ i
    more = go (has_pivot r (length (went r A c).kept) c (went r A c).cells) refl
      where
        go : (b : Bool) → has_pivot r (length (went r A c).kept) c (went r A c).cells ≡ b → length (went r A c).kept ≤ i
        go true e = omega (arith, least true e)
        go false e = least false e

    by : (t < c → (i : ℕ) → length (went r A c).kept ≤ i → i < r → (went r A c).cells i t ≡ t0) → Dec (t ≡ c)
        → (b : Bool) → has_pivot r (length (went r A c).kept) c (went r A c).cells ≡ b
        → step_of r (length (went r A c).kept) c (went r A c).cells i t ≡ t0
    by ih (yes e) true f = ap (step_of r at c (went r A c).cells i) e ∙ step_below r at c (went r A c).cells f i (omega (arith, least true f))
    by ih (yes e) false f =
        ap (λ (B : Matrix). B i t) (step_none r at c (went r A c).cells f) ∙ ap ((went r A c).cells i) e ∙ has_none r at c (went r A c).cells f i more k
    by ih (no f) b e =
        let z = ih (omega (arith, f)) in
        step_keep r at c (went r A c).cells t z i ∙ z i more k

pub lowering_low : {r : ℕ} {A : Matrix} {c at : ℕ} {B : Matrix} → Lowering r A c at B → (t : ℕ) → t < c → (i : ℕ) → at ≤ i → i < r → B i t ≡ t0
lowering_low {r} {A} {c} {at} {B} g t h i l k = ap (λ (v : Vector). v t) (g.front i k) ∙ low r A c t h i (omega (arith, g.counted)) k

-- those that were 0 in all rows
past : (r : ℕ) (A : Matrix) (c t : ℕ) → ((i : ℕ) → i < r → A i t ≡ t0) → (i : ℕ) → i < r → (went r A c).cells i t ≡ t0
unfolding eliminate range
past r A zero t z i l = z i l
past r A (suc c) t z i l =
    ap (λ (B : Matrix). B i t) (next_cells r A c)
    ∙ step_keep r (length (went r A c).kept) c (went r A c).cells t (λ j a d. past r A c t z j d) i ∙ past r A c t z i l

pub lowering_past : {r : ℕ} {A : Matrix} {c at : ℕ} {B : Matrix} → Lowering r A c at B → (t : ℕ) → ((i : ℕ) → i < r → A i t ≡ t0) → (i : ℕ) → i < r
    → B i t ≡ t0
lowering_past {r} {A} {c} {at} {B} g t z i l = ap (λ (v : Vector). v t) (g.front i l) ∙ past r A c t z i l
