-- One pivot more: its row comes to its place and joins the block (`next_done`); a block of them. Assumes nothing.
use mathlib.Core.Path.{◌≡◌, refl, sym, ap, ap₂, ◌∙◌, subst, fun_ext}
use mathlib.Core.Logic.{◌≢◌}
use mathlib.Core.Bool.{Bool, true, false, cond, true≢false}
use Rattle.std.specs.Prelude.{Some}
use Prim.Native.Nat.{ℕ, suc, ◌+◌, ◌-◌, ◌≤◌, ◌<◌}
use native.Mathlib.Decide.{ℕ_discrete}
use native.Mathlib.Omega.{arith}
use native.Mathlib.Numerals.{unary_clauses, add-one}
use borrow.Author.Tests.{eq-eqb, ne_eqb}
use Rattle.trits.specs.Trit.{Trit, t0, sub_t, mul_t, is_set}
use Rattle.matrix.specs.Linear.{Vector, Matrix}
use Rattle.matrix.specs.Steps.{swap_rows, scale_row, pivot_row, has_pivot}
use Rattle.matrix.specs.Blocks.{less_of, grown, basis_row, basis, from, pending, brought, pivot_taken, NextPivot, steps, Block}
use Rattle.matrix.proofs.Steps.{first_found, no_pivot, a_pivot}
use Rattle.matrix.proofs.Blocks.{pending_later, pivot_taken_none, block_has, block_more}
use Rattle.grid.specs.Steps.{put_row, clear_row}
use Rattle.grid.proofs.RowParts.{put_here, put_else}
use Rattle.matrix.proofs.BasisRows.{basis_past, basis_in, basis_less}
use Rattle.pivoting.specs.Steps.{FoundRow, JoinedRows, Ended}

-- ---- the block's rows are cleared at the new column

-- the row that joins is as it was
pub join_kept : {r k c j : ℕ} {A L : Matrix} → JoinedRows r k c j A L → j ≤ k → L (basis_row r k) ≡ A (basis_row r k)
join_kept {r} {k} g h = g.kept (basis_row r k) (λ l m z. omega (arith, basis_less r l k (omega arith), z))

pub join_turn : {r k c j : ℕ} {A L B : Matrix} → JoinedRows r k c j A L → j < k → B ≡ clear_row (basis_row r j) (basis_row r k) (c + k) L
    → JoinedRows r k c (j + 1) A B
join_turn {r} {k} {c} {j} {A} {L} {B} g h e = record {
  cleared = λ l m. row l m (ℕ_discrete l j);
  kept = λ i f. other i (f j (omega arith)) ∙ g.kept i (λ l m. f l (omega arith));
}
  where
    other : (i : ℕ) → i ≢ basis_row r j → B i ≡ L i
    other i f = ap (λ (M : Matrix). M i) e ∙ fun_ext (λ t. rw (ne_eqb i (basis_row r j) f))

    own : L (basis_row r j) ≡ A (basis_row r j)
    own = g.kept (basis_row r j) (λ l m z. omega (arith, basis_less r l j m, z))

    row : (l : ℕ) → l < j + 1 → Dec (l ≡ j) → B (basis_row r l) ≡ (λ t. sub_t (A (basis_row r l) t) (mul_t (A (basis_row r l) (c + k)) (A (basis_row r k) t)))
    row l m (yes z) =
        rw z
        (ap (λ (M : Matrix). M (basis_row r j)) e ∙ fun_ext (λ t. rw (eq-eqb (basis_row r j) (basis_row r j) refl)
        (ap₂ (λ (v u : Vector). sub_t (v t) (mul_t (v (c + k)) (u t))) own (join_kept g (omega arith)))))
    row l m (no f) =
        let n : l < j = omega (arith, f) in
        other (basis_row r l) (λ z. omega (arith, basis_less r l j n, z)) ∙ g.cleared l n

-- ---- the pivot's row comes to its place

module _ (at k c s : ℕ) (b A : Matrix) where
  pub taken_else : (i : ℕ) → i ≢ at + k → i ≢ s → pivot_taken at k c b s A i ≡ A i
  taken_else i f g =
      fun_ext (λ t. rw (ne_eqb i (at + k) f, ne_eqb i s g) (ap (λ (x : Bool). cond x (less_of k (from c) b (A s) t) (A i t)) (ne_eqb i s g)))

  moved_cell : swap_rows (at + k) s (brought k c b s A) (at + k) (c + k) ≡ less_of k (from c) b (A s) (c + k)
  moved_cell = rw (eq-eqb (at + k) (at + k) refl, eq-eqb s s refl)

  pub moved_set : {M : Matrix} → M ≡ swap_rows (at + k) s (brought k c b s A) → is_set (less_of k (from c) b (A s) (c + k)) ≡ true
      → is_set (M (at + k) (c + k)) ≡ true
  moved_set e z = ap (λ (M : Matrix). is_set (M (at + k) (c + k))) e ∙ ap is_set moved_cell ∙ z

  pub taken_by : {M₁ M₂ M₃ : Matrix} → M₁ ≡ brought k c b s A → M₂ ≡ swap_rows (at + k) s M₁ → M₃ ≡ scale_row (at + k) (M₂ (at + k) (c + k)) M₂
      → M₃ ≡ pivot_taken at k c b s A
  taken_by {M₁} {M₂} {M₃} e f g =
      g ∙ ap (λ (M : Matrix). scale_row (at + k) (M (at + k) (c + k)) M) (f ∙ ap (λ (M : Matrix). swap_rows (at + k) s M) e)
      ∙ ap (λ (x : Trit). scale_row (at + k) x (swap_rows (at + k) s (brought k c b s A))) moved_cell

-- ---- what the search chose

module _ (r at k c : ℕ) (A : Matrix) where
  abbrev later : Matrix
  later = pending at k c (basis r A) A

  pub none_next : pivot_row r (pending at k c (basis r A) A) (c + k) (at + k) ≡ r → NextPivot false r at k c A A
  none_next e = record {
    answer = (no_pivot r (at + k) (c + k) later e).0;
    none = λ z. refl;
    front = λ z. absurd (true≢false (sym z));
    above = λ i h l. refl;
    block = λ z. absurd (true≢false (sym z));
    kept = λ i h. refl;
  }

  module _ {i : ℕ} (found : FoundRow (Some i) r (pivot_row r (pending at k c (basis r A) A) (c + k) (at + k))) where
    pub chosen : (at + k ≤ i) × (i < r) × (is_set (less_of k (from c) (basis r A) (A i) (c + k)) ≡ true)
    chosen =
        let l = found.0 in
        let e = found.1 in
        let g = first_found later (c + k) (at + k) (r - (at + k)) in
        let a : at + k ≤ i = omega (arith, g.above, e) in (
          a,
          l,
          ap (λ (v : Vector). is_set (v (c + k))) (sym (pending_later at k c (basis r A) A i a))
              ∙ ap (λ (z : ℕ). is_set (later z (c + k))) e ∙ g.set (omega (arith, e, l)),
        )

    -- the row that joins the block is 0 where the chosen row and the block's rows are
    pub joins_none : {M₁ M₂ : Matrix} {d : ℕ} → M₁ ≡ pivot_taken at k c (basis r A) i A → d ≡ basis_row r k → M₂ ≡ put_row d (M₁ (at + k)) M₁ → (t : ℕ)
        → A i t ≡ t0 → ((n : ℕ) → n < k → basis r A n t ≡ t0) → M₂ (basis_row r k) t ≡ t0
    joins_none {M₁} {M₂} {d} a e' p t z y =
        ap (λ (M : Matrix). M (basis_row r k) t) p ∙ ap (λ (u : Vector). u t) (put_here d (M₁ (at + k)) M₁ (basis_row r k) (sym e'))
        ∙ ap (λ (M : Matrix). M (at + k) t) a ∙ pivot_taken_none at k c (basis r A) i A t z y

    -- the three matrices, one after another
    pub next_done : {M₁ M₂ M₃ : Matrix} {d : ℕ} → k < 12 → M₁ ≡ pivot_taken at k c (basis r A) i A → d ≡ basis_row r k → M₂ ≡ put_row d (M₁ (at + k)) M₁
        → JoinedRows r k c k M₂ M₃ → NextPivot true r at k c A M₃
    next_done {M₁} {M₂} {M₃} few a d p' j = record {
      answer = (a_pivot r (at + k) (c + k) later (subst (λ (z : ℕ). z < r) found.1 chosen.1)).0;
      none = λ z. absurd (true≢false z);
      front = λ z n l. last n l ∙ ap (λ (M : Matrix). M n) a ∙ ap (λ (s : ℕ). pivot_taken at k c (basis r A) s A n) found.1;
      above = λ n g l.
          last n l ∙ ap (λ (M : Matrix). M n) a ∙ taken_else at k c i (basis r A) A n (λ z. omega arith) (λ z. omega (arith, chosen.0, z));
      block = λ z n l. row n l (ℕ_discrete n k);
      kept = λ n l. past n l;
    }
      where
        p : M₂ ≡ put_row (basis_row r k) (M₁ (at + k)) M₁
        p = p' ∙ ap (λ (n : ℕ). put_row n (M₁ (at + k)) M₁) d

        mid : (n : ℕ) → n ≢ basis_row r k → M₂ n ≡ M₁ n
        mid n f = ap (λ (M : Matrix). M n) p ∙ put_else (basis_row r k) (M₁ (at + k)) M₁ n f

        last : (n : ℕ) → n < r → M₃ n ≡ M₁ n
        last n l = j.kept n (λ x m z. omega (arith, basis_past r x, z)) ∙ mid n (λ z. omega (arith, basis_past r k, z))

        old : (n : ℕ) → r ≤ n → M₁ n ≡ A n
        old n l = ap (λ (M : Matrix). M n) a ∙ taken_else at k c i (basis r A) A n (λ z. omega (arith, chosen, z)) (λ z. omega (arith, chosen.1, z))

        new : M₂ (basis_row r k) ≡ M₃ (at + k)
        new = ap (λ (M : Matrix). M (basis_row r k)) p ∙ put_here (basis_row r k) (M₁ (at + k)) M₁ (basis_row r k) refl ∙ sym
            (last (at + k) (omega (arith, chosen)))

        row : (n : ℕ) → n < suc k → Dec (n ≡ k) → M₃ (basis_row r n) ≡ grown k (from c) (basis r A) (M₃ (at + k)) n
        row n l (yes z) =
            rw z (join_kept j (omega arith) ∙ new ∙ fun_ext (λ t. sym (rw (eq-eqb k k refl))))
        row n l (no f) =
            let m : n < k = omega (arith, f) in
            let own = mid (basis_row r n) (λ z. omega (arith, basis_less r n k m, z)) ∙ old (basis_row r n) (basis_past r n) in
            j.cleared n m ∙ fun_ext (λ t. ap₂ (λ (v u : Vector). sub_t (v t) (mul_t (v (c + k)) (u t))) own new ∙ sym (rw (ne_eqb n k f)))

        past : (n : ℕ) → r + 243 ≤ n → M₃ n ≡ A n
        past n l =
            j.kept n (λ x m z. omega (arith, basis_in r x (omega arith), z)) ∙ mid n (λ z. omega (arith, basis_in r k few, z)) ∙ old n (omega arith)

-- ---- a block

module _ {r at c m k : ℕ} {A L : Matrix} (g : Block r at c m k A L) where
  -- no pivot in the column after the block
  module _ {t : Bool} {B : Matrix} (n : NextPivot t r at k c L B) (f : t ≡ false) where
    pub block_stops : Block r at c m k A B
    block_stops = subst (λ (M : Matrix). Block r at c m k A M) (sym (n.none f)) g

    pub block_ended : Ended r at c k A
    unfolding steps
    block_ended = record { none = none' }
      where
        none : has_pivot r (at + k) (c + k) (steps r at c k A) ≡ false
        none = sym (block_has g) ∙ sym n.answer ∙ f

        none' : k ≡ 0 → has_pivot r at c A ≡ false
        none' e = simp unary_clauses at (subst (λ (j : ℕ). has_pivot r (at + j) (c + j) (steps r at c j A) ≡ false) e none)

  pub block_goes : {t : Bool} {B : Matrix} → NextPivot t r at k c L B → t ≡ true → k < 12 → at + k < r → c + k < m → Block r at c m (k + 1) A B
  block_goes {t} {B} n f a b d =
      subst (λ (j : ℕ). Block r at c m j A B) (sym (add-one k)) (block_more g a b d (subst (λ (s : Bool). NextPivot s r at k c L B) f n))

pub some_ended : (r at c : ℕ) {k : ℕ} (A : Matrix) → 0 < k → Ended r at c k A
some_ended r at c A h = record { none = λ e. absurd (omega arith) }
