-- Row e, filled place by place: with what is supplied, with differences, with what stands by position. Assumes nothing.
use mathlib.Core.Path.{◌≡◌, refl, sym, ap, ap₂, ◌∙◌, subst, fun_ext}
use mathlib.Core.Bool.{Bool, true, false, cond, true≢false}
use mathlib.Core.List.{List, [], ◌∷◌, ◌++◌}
use Prim.Native.Nat.{ℕ, suc, ◌+◌, ◌-◌, ◌≤◌, ◌<◌}
use native.Mathlib.Decide.{ℕ_discrete}
use native.Mathlib.Numerals.{add-one}
use native.Mathlib.Omega.{arith}
use borrow.Author.Tests.{eq-eqb, ne_eqb, eqb-false}
use lib.Dec.{eqb}
use lib.ListN.{length, get_or, take, drop, length-drop, take-append-drop}
use lib.Seq.{take-suc, drop-cons, get_or-drop, length-take-le, take_all}
use Rattle.std.proofs.lemmas.List.{get_or-take, take_rest}
use Rattle.trits.specs.Trit.{Trit, sub_t, put_v}
use Rattle.trits.specs.Rows.{matrix_at}
use Rattle.matrix.specs.Linear.{Vector, Matrix, elem, fill}
use Rattle.matrix.specs.Orders.{Distinct, Order}
use Rattle.matrix.proofs.Places.{or_false_left, or_false_right, elem_here, fill_off}
use Rattle.matrix.proofs.Orders.{order_good, place_below}
use Rattle.matrix.proofs.Counts.{distinct_parts}
use Rattle.matrix.proofs.Field.{refuted}
use Rattle.grid.specs.Steps.{Rows, Grid, put_row}
use Rattle.grid.proofs.Cells.{grid_to}
use Rattle.grid.proofs.RowParts.{put_here, put_else}
use Rattle.scheme.specs.Draw.{forced_by}
use Rattle.draw_walk.proofs.Puts.{put_own}

-- ---- words filled place by place

put_swap : (w : Vector) (x p : ℕ) (a b : Trit) → (p ≡ x → ⊥) → put_v (put_v w p a) x b ≡ put_v (put_v w x b) p a
put_swap w x p a b f = fun_ext (λ q. by q (ℕ_discrete q x) (ℕ_discrete q p))
  where
    by : (q : ℕ) → Dec (q ≡ x) → Dec (q ≡ p) → put_v (put_v w p a) x b q ≡ put_v (put_v w x b) p a q
    by q (yes d) (yes g) = absurd (f (sym g ∙ d))
    by q (yes d) (no g) = rw (eq-eqb q x d, ne_eqb q p g)
    by q (no d) g = rw (ne_eqb q x d)

-- one more place, that is not among the others
pub fill_more : (ps : List ℕ) (p : ℕ) (v w : Vector) → elem p ps ≡ false → fill (ps ++ (p ∷ [])) v w ≡ put_v (fill ps v w) p (v (length ps))
unfolding fill
fill_more [] p v w h = refl
fill_more (x ∷ xs) p v w h =
    ap (λ (u : Vector). put_v u x (v 0)) (fill_more xs p (λ j. v (suc j)) w (or_false_right (eqb p x) (elem p xs) h))
    ∙ put_swap (fill xs (λ j. v (suc j)) w) x p (v (suc (length xs))) (v 0) (eqb-false p x (or_false_left (eqb p x) (elem p xs) h))

-- ---- places of an order

-- a place is not among those before it
pub before_place : (l : List ℕ) (i : ℕ) → Distinct l → i < length l → elem (get_or l i 0) (take i l) ≡ false
before_place l i d h =
    refuted (elem (get_or l i 0) (take i l)) (λ m. true≢false (sym there ∙ (distinct_parts (take i l) (drop i l) split).2 (get_or l i 0) m))
  where
    split : Distinct (take i l ++ drop i l)
    split = subst (λ (x : List ℕ). Distinct x) (sym (take-append-drop i l)) d

    there : elem (get_or l i 0) (drop i l) ≡ true
    there = rw (drop-cons l i 0 h) (elem_here (get_or l i 0) (drop (suc i) l))

distinct_last : (l : List ℕ) (a : ℕ) → Order (length l) l → Distinct (drop a l)
distinct_last l a o =
    (distinct_parts (take a l) (drop a l) (subst (λ (x : List ℕ). Distinct x) (sym (take-append-drop a l)) (order_good (length l) l o).0)).1

-- the first m places, as a loop over them has them
module _ (l : List ℕ) (m i : ℕ) (f : m ≤ length l) where
  pub first_in : i < length (take m l) → i < m
  first_in h = omega (arith, h, length-take-le m l f)

  pub first_below : Order (length l) l → i < length (take m l) → get_or (take m l) i 0 < length l
  first_below o h = let b = first_in h in omega (arith, get_or-take m l i 0 b, place_below l (length l) i o (omega (arith, b)))

  pub first_all : i ≤ length (take m l) → length (take m l) ≤ i → i ≡ m
  first_all h g = omega (arith, h, g, length-take-le m l f)

-- the part from position a on, as a loop over it has it
module _ (l : List ℕ) (a i : ℕ) where
  pub last_at : get_or (take (length l - a) (drop a l)) i 0 ≡ get_or (drop a l) i 0
  last_at = ap (λ (x : List ℕ). get_or x i 0) (take_rest l a)

  pub last_in : i < length (take (length l - a) (drop a l)) → a + i < length l
  last_in h = omega (arith, h, ap (λ (x : List ℕ). length x) (take_rest l a), length-drop a l)

  pub last_below : Order (length l) l → i < length (take (length l - a) (drop a l)) → get_or (take (length l - a) (drop a l)) i 0 < length l
  last_below o h = omega (arith, last_at, get_or-drop a l i 0, place_below l (length l) (a + i) o (last_in h))

-- ---- rows of a matrix of which row e is another

module _ (e : ℕ) (u : Vector) (A : Matrix) where
  pub put_again : (v : Vector) → put_row e v (put_row e u A) ≡ put_row e v A
  put_again v = fun_ext (λ i. fun_ext (λ q. by (eqb i e) (v q) (u q) (A i q)))
    where
      by : (b : Bool) (x y z : Trit) → cond b x (cond b y z) ≡ cond b x z
      by true x y z = refl
      by false x y z = refl

-- a turn that put one trit in row e
pub put_turn : {os ts o t : List ℕ} {n w : ℕ} (e q : ℕ) (A : Matrix) (u : Vector) (x : Matrix → Trit) → Grid os ts n w (put_row e u A)
    → Grid o t n w (put_row e (put_v (matrix_at w os ts e) q (x (matrix_at w os ts))) (matrix_at w os ts)) →
    Grid o t n w (put_row e (put_v u q (x (put_row e u A))) A)
put_turn e q A u x g h =
    grid_to h
    (ap (λ (B : Matrix). put_row e (put_v (B e) q (x B)) B) g.cells
    ∙ ap (λ (v : Vector). put_row e (put_v v q (x (put_row e u A))) (put_row e u A)) (put_here e u A e refl)
    ∙ put_again e u A (put_v u q (x (put_row e u A))))

-- ---- the loops: the first k places of a list are filled

module _ {rows w : ℕ} (D : List ℕ) (A : Matrix) (e k : ℕ) (val : Vector) where
  pub fill_start : {o t : List ℕ} → Rows o t rows w → matrix_at w o t ≡ A → k ≡ 0 → Grid o t rows w (put_row e (fill (take k D) val (A e)) A)
  unfolding fill
  fill_start h d f = record { rows = h; cells = d ∙ put_own e A ∙ ap (λ (k : ℕ). put_row e (fill (take k D) val (A e)) A) (sym f) }

  -- one place more takes x, which is the next value
  pub fill_turn : {os ts o t : List ℕ} {q : ℕ} (x : Matrix → Trit) → Distinct D → k < length D → q ≡ get_or D k 0
      → Grid os ts rows w (put_row e (fill (take k D) val (A e)) A)
      → Grid o t rows w (put_row e (put_v (matrix_at w os ts e) q (x (matrix_at w os ts))) (matrix_at w os ts))
      → x (put_row e (fill (take k D) val (A e)) A) ≡ val k → Grid o t rows w (put_row e (fill (take (suc k) D) val (A e)) A)
  fill_turn {q = q} x d h at g s y =
      let u : Vector = fill (take k D) val (A e) in
      let long : k ≡ length (take k D) = sym (length-take-le k D (omega arith)) in
      grid_to (put_turn e q A u x g s)
      (ap (λ (b : Trit). put_row e (put_v u q b) A) (y ∙ ap val long)
      ∙ ap (λ (p : ℕ). put_row e (put_v u p (val (length (take k D)))) A) at
      ∙ ap (λ (v : Vector). put_row e v A) (sym (fill_more (take k D) (get_or D k 0) val (A e) (before_place D k d h)))
      ∙ ap (λ (l : List ℕ). put_row e (fill l val (A e)) A) (sym (take-suc D k 0 h)))

-- the last part, from position a on
module _ {rows w : ℕ} (l : List ℕ) (A : Matrix) (a i e : ℕ) (val : Vector) where
  pub last_turn : {os ts o t : List ℕ} (x : ℕ → Matrix → Trit) → Order (length l) l → a + i < length l
      → Grid os ts rows w (put_row e (fill (take i (drop a l)) val (A e)) A)
      → Grid o t rows w (put_row e (put_v (matrix_at w os ts e) (get_or (take (length l - a) (drop a l)) i 0)
      (x (get_or (take (length l - a) (drop a l)) i 0) (matrix_at w os ts))) (matrix_at w os ts))
      → x (get_or (drop a l) i 0) (put_row e (fill (take i (drop a l)) val (A e)) A) ≡ val i
      → Grid o t rows w (put_row e (fill (take (i + 1) (drop a l)) val (A e)) A)
  last_turn x o h g s y =
      let q = get_or (take (length l - a) (drop a l)) i 0 in
      let at : q ≡ get_or (drop a l) i 0 = last_at l a i in
      let y' = ap (λ (p : ℕ). x p (put_row e (fill (take i (drop a l)) val (A e)) A)) at ∙ y in
      rw (add-one i) (fill_turn (drop a l) A e i val (x q) (distinct_last l a o) (omega (arith, length-drop a l)) at g s y')

  pub last_all : {o t : List ℕ} → i ≡ length l → Grid o t rows w (put_row e (fill (take (i - a) (drop a l)) val (A e)) A)
      → Grid o t rows w (put_row e (fill (drop a l) val (A e)) A)
  last_all f k = grid_to k (ap (λ (x : List ℕ). put_row e (fill x val (A e)) A) (take_all (i - a) (drop a l) (omega (arith, length-drop a l))))

-- the values of the last part, from its first place on: forced
abbrev pub forced_at : List ℕ → Matrix → ℕ → ℕ → Vector → Vector → Vector → ℕ → Vector
forced_at l A a ev b c y g j = forced_by b c (A ev) (get_or (drop a l) j 0) (y (g + j))

-- and differences
abbrev pub less_at : List ℕ → Matrix → ℕ → ℕ → ℕ → Vector
less_at l A a x e j = sub_t (A x (get_or (drop a l) j 0)) (A e (get_or (drop a l) j 0))

module _ (l : List ℕ) (A : Matrix) (a i e : ℕ) where
  pub forced_value : (ev : ℕ) (u b c y : Vector) (g : ℕ) → (ev ≡ e → ⊥)
      → forced_by b c (put_row e u A ev) (get_or (drop a l) i 0) (y (g + i)) ≡ forced_at l A a ev b c y g i
  forced_value ev u b c y g ne = ap (λ (v : Vector). forced_by b c v (get_or (drop a l) i 0) (y (g + i))) (put_else e u A ev ne)

  pub less_value : (x : ℕ) (val : Vector) → Order (length l) l → a + i < length l → (x ≡ e → ⊥)
      → sub_t (put_row e (fill (take i (drop a l)) val (A e)) A x (get_or (drop a l) i 0))
      (put_row e (fill (take i (drop a l)) val (A e)) A e (get_or (drop a l) i 0))
      ≡ less_at l A a x e i
  less_value x val o h ne =
      let u : Vector = fill (take i (drop a l)) val (A e) in
      let q = get_or (drop a l) i 0 in
      ap₂ (λ (v v' : Vector). sub_t (v q) (v' q)) (put_else e u A x ne) (put_here e u A e refl)
      ∙ ap (sub_t (A x q))
      (fill_off (take i (drop a l)) val (A e) q (before_place (drop a l) i (distinct_last l a o) (omega (arith, length-drop a l))))
