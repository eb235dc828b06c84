-- A table is made by sums: each entry past a row of the block is that row and an entry before it. Assumes nothing.
use mathlib.Core.Path.{◌≡◌, refl, sym, ap, ap₂, ◌∙◌}
use mathlib.Core.Logic.{◌⊎◌, inl, inr}
use Prim.Native.Nat.{ℕ, zero, suc, ◌+◌, ◌-◌, ◌*◌, ◌/◌, ◌%◌, ◌≤◌, ◌<◌}
use native.Mathlib.Decide.{dec_lt, ℕ_discrete}
use native.Mathlib.Omega.{arith}
use Rattle.trits.specs.Trit.{add_t, zip_v}
use Rattle.matrix.specs.Linear.{Vector, Matrix, zeros}
use Rattle.matrix.specs.Blocks.{pow3, entry_of, basis_row, basis}
use Rattle.matrix.proofs.Entries.{pow3_some, entry_sum, entry_none, entry_unit, entry_same}
use Rattle.matrix.proofs.BasisRows.{pow3_most, basis_table}
use Rattle.grid.specs.Steps.{put_row, within}
use Rattle.grid.proofs.RowParts.{put_here, put_else}
use Rattle.grid.proofs.Words.{within_in}
use Rattle.tables.specs.Tables.{Extended, Table, Tables}

-- ---- the loop over the entries

-- the next of them becomes a sum
pub extended_more : {f v z p n : ℕ} {A B C : Matrix} → 0 < p → 0 < n → Extended f v z p n A B
    → C ≡ put_row (z + (p + n)) (within f v (zip_v add_t (B (z + p)) (B (z + n))) (B (z + (p + n)))) B
    → Extended f v z p (n + 1) A C
extended_more {f} {v} {z} {p} {n} {A} {B} {C} some more s e = record { sums = λ a t h l w. at a t h w (ℕ_discrete a n) l; kept = λ i h. by i h }
  where
    sum : Vector
    sum = zip_v add_t (B (z + p)) (B (z + n))

    old : Vector
    old = B (z + (p + n))

    else : (i : ℕ) → (i ≡ z + (p + n) → ⊥) → C i ≡ B i
    else i g = ap (λ (D : Matrix). D i) e ∙ put_else (z + (p + n)) (within f v sum old) B i g

    at : (a t : ℕ) → 0 < a → (64 * f ≤ t) × (t < 64 * v) → Dec (a ≡ n) → a < n + 1 → C (z + (p + a)) t ≡ add_t (A (z + p) t) (C (z + a) t)
    at a t h w (yes d) l =
        ap (λ (u : Vector). u t)
        (ap (λ (D : Matrix). D (z + (p + a))) e ∙ put_here (z + (p + n)) (within f v sum old) B (z + (p + a)) (ap (λ (k : ℕ). z + (p + k)) d))
        ∙ within_in f v sum old t w
        ∙ ap₂ (λ (x y : Vector). add_t (x t) (y t)) (s.kept (z + p) (inl (omega arith)))
        (ap (λ (k : ℕ). B (z + k)) (sym d) ∙ sym (else (z + a) (λ g. omega arith)))
    at a t h w (no d) l =
        ap (λ (u : Vector). u t) (else (z + (p + a)) (λ g. d (omega arith))) ∙ s.sums a t h (omega arith) w
        ∙ ap (λ (u : Vector). add_t (A (z + p) t) (u t)) (sym (else (z + a) (λ g. omega arith)))

    by : (i : ℕ) → (i ≤ z + p) ⊎ (z + (p + (n + 1)) ≤ i) → C i ≡ A i
    by i (inl h) = else i (λ g. omega arith) ∙ s.kept i (inl h)
    by i (inr h) = else i (λ g. omega arith) ∙ s.kept i (inr (omega arith))

-- ---- a table, from one entry to three times as many

pub table_first : {A B : Matrix} (f v z : ℕ) → B ≡ put_row z zeros A → Table f v 1 z A B
table_first {A} {B} f v z e = record {
  entries = λ k t h w. at k t h;
  own = λ j. else (z + pow3 j) (λ g. omega (arith, pow3_some j));
  kept = λ i h. else i (off i h);
}
  where
    else : (i : ℕ) → (i ≡ z → ⊥) → B i ≡ A i
    else i g = ap (λ (D : Matrix). D i) e ∙ put_else z zeros A i g

    off : (i : ℕ) → (i < z) ⊎ (z + 1 ≤ i) → i ≡ z → ⊥
    off i (inl h) g = omega arith
    off i (inr h) g = omega arith

    at : (k t : ℕ) → k < 1 → B (z + k) t ≡ entry_of 4 (λ j. A (z + pow3 j)) k t
    at k t h =
        let d : k ≡ 0 = omega arith in
        ap (λ (u : Vector). u t) (ap (λ (D : Matrix). D (z + k)) e ∙ put_here z zeros A (z + k) (omega arith))
        ∙ sym (ap (λ (n : ℕ). entry_of 4 (λ j. A (z + pow3 j)) n t) d ∙ entry_none 4 (λ j. A (z + pow3 j)) t)

-- a row of the block is none of the sums
pow3_apart : (i j : ℕ) → (pow3 i ≤ pow3 j) ⊎ (3 * pow3 j ≤ pow3 i)
unfolding pow3
pow3_apart zero j = inl (omega (arith, pow3_some j))
pow3_apart (suc i) zero = inr (omega (arith, pow3_some i))
pow3_apart (suc i) (suc j) = by (pow3_apart i j)
  where
    by : (pow3 i ≤ pow3 j) ⊎ (3 * pow3 j ≤ pow3 i) → (3 * pow3 i ≤ 3 * pow3 j) ⊎ (3 * (3 * pow3 j) ≤ 3 * pow3 i)
    by (inl h) = inl (omega arith)
    by (inr h) = inr (omega arith)

pub table_more : {f v z : ℕ} {A B C : Matrix} (j : ℕ) → j < 4 → Table f v (pow3 j) z A B → Extended f v z (pow3 j) (2 * pow3 j) B C
    → Table f v (3 * pow3 j) z A C
table_more {f} {v} {z} {A} {B} {C} j l s g = record {
  entries = λ e t h w. below t w (suc e) e (omega arith) h;
  own = λ i. mine i (pow3_apart i j);
  kept = λ i h. by i h;
}
  where
    b : Matrix
    b i = A (z + pow3 i)

    mine : (i : ℕ) → (pow3 i ≤ pow3 j) ⊎ (3 * pow3 j ≤ pow3 i) → C (z + pow3 i) ≡ A (z + pow3 i)
    mine i (inl h) = g.kept (z + pow3 i) (inl (omega arith)) ∙ s.own i
    mine i (inr h) = g.kept (z + pow3 i) (inr (omega arith)) ∙ s.own i

    unit : (t : ℕ) → B (z + pow3 j) t ≡ entry_of 4 b (pow3 j) t
    unit t = ap (λ (u : Vector). u t) (s.own j) ∙ sym (entry_unit 4 b j t l)

    -- every entry before n, by the entries before it
    below : (t : ℕ) → (64 * f ≤ t) × (t < 64 * v) → (n e : ℕ) → e < n → e < 3 * pow3 j → C (z + e) t ≡ entry_of 4 b e t
    below t w zero e h k = absurd (omega arith)
    below t w (suc n) e h k = at (λ a. below t w n a) (dec_lt e (pow3 j)) (ℕ_discrete e (pow3 j))
      where
        at : ((a : ℕ) → a < n → a < 3 * pow3 j → C (z + a) t ≡ entry_of 4 b a t) → Dec (e < pow3 j) → Dec (e ≡ pow3 j) → C (z + e) t ≡ entry_of 4 b e t
        at ih (yes m) d = ap (λ (u : Vector). u t) (g.kept (z + e) (inl (omega arith))) ∙ s.entries e t m w
        at ih (no m) (yes d) = rw d (ap (λ (u : Vector). u t) (g.kept (z + pow3 j) (inl (omega arith))) ∙ unit t)
        at ih (no m) (no d) =
            let a = e - pow3 j in
            let q : e ≡ pow3 j + a = omega arith in
            ap (λ (i : ℕ). C (z + i) t) q ∙ g.sums a t (omega arith) (omega arith) w
            ∙ ap₂ add_t (unit t) (ih a (omega (arith, pow3_some j)) (omega arith))
            ∙ sym (ap (λ (i : ℕ). entry_of 4 b i t) q ∙ entry_sum 4 b j a t (omega arith))

    by : (i : ℕ) → (i < z) ⊎ (z + 3 * pow3 j ≤ i) → C i ≡ A i
    by i (inl h) = g.kept i (inl (omega arith)) ∙ s.kept i (inl h)
    by i (inr h) = g.kept i (inr (omega arith)) ∙ s.kept i (inr (omega arith))

-- all of it
pub table_made : {f v z : ℕ} {A B C D E F : Matrix} → B ≡ put_row z zeros A → Extended f v z 1 2 B C → Extended f v z 3 6 C D → Extended f v z 9 18 D E
    → Extended f v z 27 54 E F → Table f v 81 z A F
unfolding pow3
table_made {f} {v} {z} e p q s t =
    table_more 3 (omega arith) (table_more 2 (omega arith) (table_more 1 (omega arith) (table_more 0 (omega arith) (table_first f v z e) p) q) s) t

-- ---- the three tables

-- table h, made of rows that no table before it has changed, and not changed by those after it
record Made (f v r h : ℕ) (A D : Matrix) : Type 0 where
  entries : (e t : ℕ) → e < 81 → (64 * f ≤ t) × (t < 64 * v) → D (r + (81 * h + e)) t ≡ entry_of 4 (λ j. A (r + (81 * h + pow3 j))) e t
  own : (j : ℕ) → j < 4 → D (r + (81 * h + pow3 j)) ≡ A (r + (81 * h + pow3 j))

made_by : {f v r z : ℕ} {A B C D : Matrix} (h : ℕ) → z ≡ r + 81 * h → Table f v 81 z B C → ((k : ℕ) → B (z + k) ≡ A (z + k))
    → ((k : ℕ) → k < 81 → D (z + k) ≡ C (z + k)) → Made f v r h A D
made_by {f} {v} {r} {z} {A} {B} {C} {D} h g s before after = record {
  entries = λ e t l w.
      ap (λ (i : ℕ). D i t) (at e) ∙ ap (λ (u : Vector). u t) (after e l) ∙ s.entries e t l w
      ∙ entry_same 4 (λ j. B (z + pow3 j)) (λ j. A (r + (81 * h + pow3 j))) e t (λ j m. ap (λ (u : Vector). u t) (before (pow3 j) ∙ ap A (sym (at (pow3 j)))));
  own = λ j l. ap D (at (pow3 j)) ∙ after (pow3 j) (omega (arith, pow3_most j l)) ∙ s.own j ∙ before (pow3 j) ∙ ap A (sym (at (pow3 j)));
}
  where
    at : (k : ℕ) → r + (81 * h + k) ≡ z + k
    at k = omega arith

module _ {f v r : ℕ} {A B C D : Matrix} (s : Table f v 81 r A B) (t : Table f v 81 (r + 81) B C) (u : Table f v 81 (r + 162) C D) where
  made : (h : ℕ) → h < 3 → Made f v r h A D
  made zero l = made_by 0 (omega arith) s (λ k. refl) (λ k m. u.kept (r + k) (inl (omega arith)) ∙ t.kept (r + k) (inl (omega arith)))
  made (suc zero) l = made_by 1 (omega arith) t (λ k. s.kept ((r + 81) + k) (inr (omega arith))) (λ k m. u.kept ((r + 81) + k) (inl (omega arith)))
  made (suc (suc zero)) l =
      made_by 2 (omega arith) u (λ k. t.kept ((r + 162) + k) (inr (omega arith)) ∙ s.kept ((r + 162) + k) (inr (omega arith))) (λ k m. refl)
  made (suc (suc (suc h))) l = absurd (omega arith)

  pub tables_made : Tables f v r A D
  tables_made = record {
    tabled = record {
      entries = λ h e q l m w.
          (made h l).entries e q m w
          ∙ entry_same 4 (λ j. A (r + (81 * h + pow3 j))) (λ j. basis r D (4 * h + j)) e q
          (λ j g. ap (λ (x : Vector). x q) (sym (ap D (basis_table r h j g) ∙ (made h l).own j g)));
    };
    block = λ j l. by j l (j / 4) (j % 4) (omega arith, omega arith);
    kept = λ i h. beside i h;
  }
    where
      by : (j : ℕ) → j < 12 → (h k : ℕ) → (j ≡ 4 * h + k) × (k < 4) → basis r D j ≡ basis r A j
      by j l h k (e, g) =
          let d : basis_row r j ≡ r + (81 * h + pow3 k) = ap (basis_row r) e ∙ basis_table r h k g in
          ap D d ∙ (made h (omega arith)).own k g ∙ ap A (sym d)

      beside : (i : ℕ) → (i < r) ⊎ (r + 243 ≤ i) → D i ≡ A i
      beside i (inl h) = u.kept i (inl (omega arith)) ∙ t.kept i (inl (omega arith)) ∙ s.kept i (inl h)
      beside i (inr h) = u.kept i (inr (omega arith)) ∙ t.kept i (inr (omega arith)) ∙ s.kept i (inr (omega arith))
