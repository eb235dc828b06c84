-- The last pass, block by block: what is still to be cleared gives the first rows of the result. Assumes nothing.
use mathlib.Core.Path.{◌≡◌, sym, ap, ap₂, ◌∙◌, subst, fun_ext}
use mathlib.Core.Logic.{◌⊎◌, inl, inr, ◌≢◌}
use mathlib.Core.Bool.{cond}
use mathlib.Core.List.{List}
use Prim.Native.Nat.{ℕ, zero, suc, ◌+◌, ◌-◌, ◌*◌, ◌/◌, ◌≤◌, ◌<◌}
use native.Mathlib.Decide.{dec_lt}
use native.Mathlib.Omega.{arith}
use borrow.Author.Tests.{lt-ltb, le-ltb, lt-leb, le-leb}
use lib.Dec.{ltb}
use lib.ListN.{get_or}
use Rattle.trits.specs.Trit.{Trit, t0, sub_t, mul_t}
use Rattle.trits.specs.Rows.{matrix_at}
use Rattle.trits.proofs.Products.{dot_zero}
use Rattle.trits.proofs.Arithmetic.{add_zero_r, mul-zero}
use Rattle.matrix.specs.Linear.{Vector, Matrix, range}
use Rattle.matrix.specs.Steps.{take_above, raised}
use Rattle.matrix.specs.Blocks.{less_of, basis_row, basis, from, Cleared}
use Rattle.matrix.proofs.Dots.{dot_right}
use Rattle.matrix.proofs.Counts.{range_at}
use Rattle.grid.specs.Steps.{Grid, taken_out}
use Rattle.grid.proofs.Cells.{cell_past, grid_to}
use Rattle.raising.specs.Steps.{risen, risen_from, Copied, AtEnds, Triangular}
use Rattle.raising.proofs.Risen.{rows_from, Stretch, stretch_of, stretch_left}

-- ---- the rows from b on, among themselves

pub among_none : (b e : ℕ) (A : Matrix) → A ≡ risen_from b (e - e) e A
unfolding risen
among_none b e A = fun_ext (λ i. fun_ext (λ t. by i t (dec_lt i b)))
  where
    none : risen (e - e) e A ≡ A
    none = let z : e - e ≡ 0 = omega arith in ap (λ (m : ℕ). risen m e A) z

    by : (i t : ℕ) → Dec (i < b) → A i t ≡ risen_from b (e - e) e A i t
    by i t (yes h) = rw (lt-ltb i b h)
    by i t (no h) = rw (le-ltb i b (omega arith)) (ap (λ (B : Matrix). B i t) (sym none))

-- the columns after j are cleared
module _ (b m j : ℕ) (A : Matrix) (h : b ≤ j) where
  abbrev M : Matrix
  M = risen_from b m (suc j) A

  abbrev D : Matrix
  D = risen m (suc j) A

  high : (i t : ℕ) → b ≤ i → M i t ≡ D i t
  high i t l = rw (le-ltb i b l)

  -- column j is cleared in the rows b .. j - 1
  among_next : taken_out b j j j M ≡ risen_from b (suc m) j A
  unfolding risen
  among_next = fun_ext (λ i. fun_ext (λ t. by i t (dec_lt i b) (dec_lt i j)))
    where
      by : (i t : ℕ) → Dec (i < b) → Dec (i < j) → taken_out b j j j M i t ≡ risen_from b (suc m) j A i t
      by i t (yes l) d = rw (lt-leb b i l, lt-ltb i b l)
      by i t (no f) (yes l) =
          let g : b ≤ i = omega arith in
          rw (le-leb b i g, le-ltb i b g, lt-ltb i j l)
          (ap (λ (x : Trit). sub_t (D i t) (mul_t (D i j) x)) (high j t h))
      by i t (no f) (no l) = let g : b ≤ i = omega arith in rw (le-leb b i g, le-ltb i b g, le-ltb i j (omega arith))

-- row j is 0 before the word of the column j, and past the words of a row
pub among_outside : {o t : List ℕ} {rows w b e i : ℕ} (A : Matrix) (j : ℕ) → Grid o t rows w (risen_from b (e - i) i A) → i ≡ suc j → i ≤ e → b ≤ j
    → Triangular e A → (q : ℕ) → (q < 64 * (j / 64)) ⊎ (64 * w ≤ q) → matrix_at w o t j q ≡ t0
among_outside {b = b} {e} {i} A j g z l h d q (inl n) =
    let f : e ≡ suc j + (e - i) = omega arith in
    ap (λ (B : Matrix). B j q) (g.cells ∙ ap (λ (n : ℕ). risen_from b (e - i) n A) z) ∙ high b (e - i) j A h j q h
    ∙ stretch_left (stretch_of (e - i) (suc j) A (subst (λ (n : ℕ). Triangular n A) f d)) j q (omega arith) (omega arith)
    ∙ d.none q j (omega arith) (omega arith)
among_outside {o} {t} {w = w} A j g z l h d q (inr n) = cell_past w o t j q n

pub among_turn : {o t o' t' : List ℕ} {rows w b e i : ℕ} (A : Matrix) (j : ℕ) → Grid o t rows w (risen_from b (e - i) i A) → i ≡ suc j → i ≤ e → b ≤ j
    → Grid o' t' rows w (taken_out b j j j (matrix_at w o t)) → Grid o' t' rows w (risen_from b (e - j) j A)
among_turn {b = b} {e} {i} A j g z l h d =
    grid_to d
    (ap (taken_out b j j j) (g.cells ∙ ap (λ (n : ℕ). risen_from b (e - i) n A) z)
    ∙ among_next b (e - i) j A h ∙ ap (λ (n : ℕ). risen_from b n j A) (omega arith))

-- ---- stretch after stretch

-- the columns of a stretch, and then those before it
raised_stretch : (ps : List ℕ) (m s : ℕ) (A : Matrix) → ((c : ℕ) → c < s + m → get_or ps c 0 ≡ c) → raised ps (s + m) A ≡ raised ps s (risen m s A)
unfolding raised risen
raised_stretch ps zero s A f = let z : s + 0 ≡ s = omega arith in ap (λ (n : ℕ). raised ps n A) z
raised_stretch ps (suc m) s A f =
    let z : s + suc m ≡ suc s + m = omega arith in
    ap (λ (n : ℕ). raised ps n A) z ∙ raised_stretch ps m (suc s) A (λ c h. f c (omega arith))
    ∙ ap (λ (q : ℕ). raised ps s (take_above s q (risen m (suc s) A))) (f s (omega arith))

-- at columns of which those of the pivots are some, the first r rows come from the first r rows
raised_agree : (P : ℕ → Type 0) (ps : List ℕ) (r c : ℕ) (A B : Matrix) → c ≤ r → ((j : ℕ) → j < c → P (get_or ps j 0))
    → ((i t : ℕ) → i < r → P t → A i t ≡ B i t) → (i t : ℕ) → i < r → P t → raised ps c A i t ≡ raised ps c B i t
unfolding raised
raised_agree P ps r zero A B h p f i t l m = f i t l m
raised_agree P ps r (suc c) A B h p f i t l m =
    raised_agree P ps r c (take_above c (get_or ps c 0) A) (take_above c (get_or ps c 0) B) (omega arith) (λ j k. p j (omega arith)) taken i t l m
  where
    q : ℕ
    q = get_or ps c 0

    taken : (i t : ℕ) → i < r → P t → take_above c q A i t ≡ take_above c q B i t
    taken i t l m =
        ap₂ (cond (ltb i c))
        (ap₂ sub_t (f i t l m) (ap₂ mul_t (f i q l (p c (omega arith))) (f c t (omega arith) m)))
        (f i t l m)

-- ---- one block

-- a block that is not the first has twelve rows
pub is_twelve : {b e : ℕ} → (b ≡ 0) ⊎ (e ≡ b + 12) → b ≢ 0 → e ≡ b + 12
is_twelve (inl z) f = absurd (f z)
is_twelve (inr z) f = z

module _ {M : Matrix} (r b e : ℕ) (A : Matrix) (m : M ≡ risen_from b (e - b) b A) (d : Triangular e A) (h : b ≤ e) (n : e ≤ r) where
  abbrev R : Matrix
  R = risen (e - b) b A

  stretch : Stretch (e - b) b A R
  stretch = let z : e ≡ b + (e - b) = omega arith in stretch_of (e - b) b A (subst (λ (i : ℕ). Triangular i A) z d)

  among_high : (i : ℕ) → b ≤ i → M i ≡ R i
  among_high i l = fun_ext (λ t. ap (λ (B : Matrix). B i t) m ∙ rw (le-ltb i b l))

  among_low : (i : ℕ) → i < b → M i ≡ A i
  among_low i l = fun_ext (λ t. ap (λ (B : Matrix). B i t) m ∙ rw (lt-ltb i b l))

  -- no row is above the block
  pub first_ends : b ≡ 0 → AtEnds r b R A M
  first_ends z = record {
    ends = λ i t l k. ap (λ (v : Vector). v t) (among_high i (omega arith));
    kept = λ i l. among_high i (omega arith) ∙ stretch.rest i (omega arith);
  }

  module _ {N : Matrix} (z : e ≡ b + 12) (c : Copied (r / 64) r 12 b M N) where
    -- from the word of column r on, the block's rows are those of the pass
    block_row : (j t : ℕ) → j < 12 → 64 * (r / 64) ≤ t → N (basis_row r j) t ≡ R (b + j) t
    block_row j t l k = c.block j t l k ∙ ap (λ (v : Vector). v t) (among_high (b + j) (omega arith))

    -- they are 0 before it, and past the words of a row
    pub block_outside : (w : ℕ) → ((i t : ℕ) → 64 * w ≤ t → N i t ≡ t0) → (j t : ℕ) → j < 12 → (t < 64 * (r / 64)) ⊎ (64 * w ≤ t)
        → N (basis_row r j) t ≡ t0
    block_outside w past j t f (inl g) = c.before j t f g
    block_outside w past j t f (inr g) = past (basis_row r j) t g

    pub block_ends : {C : Matrix} → Cleared r 12 b 0 b N C → AtEnds r b R A C
    block_ends {C} g = record {
      ends = λ i t l k. by i t l k (dec_lt i b) (dec_lt t (64 * (r / 64)));
      kept = λ i l. g.kept i (inr (omega arith)) (inr l) ∙ c.kept i (inr l) ∙ among_high i (omega arith) ∙ stretch.rest i (omega arith);
    }
      where
        above : (i t : ℕ) → i < r → i < b → C i t ≡ less_of 12 (from b) (basis r N) (A i) t
        above i t l f = ap (λ (v : Vector). v t) (g.cleared i (omega arith) f ∙ ap (less_of 12 (from b) (basis r N)) (c.kept i (inl l) ∙ among_low i f))

        by : (i t : ℕ) → i < r → (t < b) ⊎ (r ≤ t) → Dec (i < b) → Dec (t < 64 * (r / 64)) → C i t ≡ R i t
        by i t l k (yes f) (no u) =
            let s : 12 ≡ e - b = omega arith in
            above i t l f
            ∙ ap (sub_t (A i t)) (dot_right 12 (λ j. A i (b + j)) (λ j. N (basis_row r j) t) (λ j. R (b + j) t) (λ j x. block_row j t x (omega arith)))
            ∙ ap (λ (x : ℕ). less_of x (from b) (rows_from b R) (A i) t) s ∙ ap (λ (v : Vector). v t) (sym (stretch.less i f))
        by i t l (inl k) (yes f) (yes u) =
            above i t l f
            ∙ ap (sub_t (A i t))
            (dot_zero 12 (λ j. A i (b + j)) (λ j. N (basis_row r j) t) (λ j x. ap (mul_t (A i (b + j))) (c.before j t x u) ∙ mul-zero (A i (b + j))))
            ∙ add_zero_r (A i t) ∙ sym (stretch_left stretch i t f k)
        by i t l (inr k) (yes f) (yes u) = absurd (omega arith)
        by i t l k (no f) u = ap (λ (v : Vector). v t) (g.kept i (inr (omega arith)) (inl l) ∙ c.kept i (inl l) ∙ among_high i (omega arith))

-- ---- the pass

-- where it stands: the first e columns of B are still to be cleared
pub record Rising (r e : ℕ) (A B : Matrix) : Type 0 where
  pub few : e ≤ r
  pub todo : (i t : ℕ) → i < r → r ≤ t → raised (range r) r A i t ≡ raised (range r) e B i t
  pub triangular : Triangular e B
  pub kept : (i : ℕ) → r + 243 ≤ i → B i ≡ A i

pub rising_turn : {r e : ℕ} {A B C : Matrix} (b : ℕ) → Rising r e A B → b ≤ e → AtEnds r b (risen (e - b) b B) B C → Rising r b A C
rising_turn {r} {e} {A} {B} {C} b g h f = record {
  few = omega (arith, g.few);
  todo = λ i t l m.
      g.todo i t l m ∙ ap (λ (n : ℕ). raised (range r) n B i t) whole
      ∙ ap (λ (D : Matrix). D i t) (raised_stretch (range r) (e - b) b B (λ c k. range_at r c (omega (arith, g.few))))
      ∙ raised_agree (λ t. (t < b) ⊎ (r ≤ t)) (range r) r b (risen (e - b) b B) C (omega (arith, g.few))
      (λ j k. inl (omega (arith, range_at r j (omega (arith, g.few))))) (λ k q x y. sym (f.ends k q x y)) i t l (inr m);
  triangular = record {
    one = λ c l. same c c l l ∙ g.triangular.one c (omega arith);
    none = λ c i l m. same i c m (omega arith) ∙ g.triangular.none c i l (omega arith);
  };
  kept = λ i l. f.kept i l ∙ g.kept i l;
}
  where
    whole : e ≡ b + (e - b)
    whole = omega arith

    same : (i t : ℕ) → i < b → t < b → C i t ≡ B i t
    same i t l m =
        f.ends i t (omega (arith, g.few)) (inl m)
        ∙ stretch_left (stretch_of (e - b) b B (subst (λ (n : ℕ). Triangular n B) whole g.triangular)) i t l m

-- no column is left to be cleared
pub rising_done : {r : ℕ} {A B : Matrix} → Rising r 0 A B → AtEnds r 0 (raised (range r) r A) A B
unfolding raised
rising_done {r} {A} {B} g = record { ends = λ i t h. by i t h; kept = g.kept }
  where
    by : (i t : ℕ) → i < r → (t < 0) ⊎ (r ≤ t) → B i t ≡ raised (range r) r A i t
    by i t h (inl l) = absurd (omega arith)
    by i t h (inr l) = sym (g.todo i t h l)
