-- The halves of a word in two rows: trits put at secret places, the whole word placed, parted and joined, and one trit read. Assumes nothing.
use mathlib.Core.Path.{◌≡◌, refl, sym, ap, ap₂, ◌∙◌, subst, fun_ext}
use mathlib.Core.Logic.{◌⊎◌, inl, inr, ◌≢◌}
use mathlib.Core.Bool.{Bool, true, false, cond}
use mathlib.Core.List.{List}
use Prim.Native.Nat.{ℕ, ◌+◌, ◌-◌, ◌*◌, ◌≤◌, ◌<◌}
use native.Mathlib.Decide.{dec_lt, ℕ_discrete}
use native.Mathlib.Omega.{arith}
use borrow.Author.Tests.{eq-eqb, lt-ltb, le-ltb}
use lib.ListN.{length, get_or, take, drop, length-drop}
use lib.Seq.{get_or-drop, length-take-le}
use Rattle.std.proofs.lemmas.List.{get_or-take}
use Rattle.trits.specs.Trit.{Trit, t0, add_t, sub_t, mul_t, number, trit_of, zip_v, put_v, up_to}
use Rattle.trits.specs.Planes.{trit_at}
use Rattle.trits.specs.Rows.{matrix_at}
use Rattle.trits.proofs.Ends.{upto_in, upto_out, upto_same, upto_ended}
use Rattle.matrix.specs.Linear.{Vector, Matrix, zeros, elem}
use Rattle.matrix.specs.Orders.{Order}
use Rattle.matrix.proofs.Dots.{put_other}
use Rattle.matrix.proofs.Places.{fill_at, fill_off}
use Rattle.matrix.proofs.Greedy.{bool_cases}
use Rattle.matrix.proofs.Orders.{order_good, elem_index, place_below}
use Rattle.grid.specs.Steps.{Rows, Grid, put_row, join_product}
use Rattle.grid.proofs.Cells.{cell, grid_to}
use Rattle.grid.proofs.RowParts.{put_here, put_else}
use Rattle.grid.proofs.RowProducts.{product_at, product_else}
use Rattle.scheme.specs.Secret.{join}
use Rattle.scheme.specs.Draw.{placed}
use Rattle.scheme_laws.proofs.Pairs.{join_low}
use Rattle.draw_pairs.specs.Steps.{put_place, placed_rows, parted_rows, joined_rows}

-- ---- what is said of two rows

-- in B rows u and v have the trits x and y, and every other row but t is as in A
pub record Paired (u v t : ℕ) (A B : Matrix) (x y : Vector) : Type 0 where
  pub left : B u ≡ x
  pub right : B v ≡ y
  pub kept : (k : ℕ) → k ≢ u → k ≢ v → k ≢ t → B k ≡ A k

-- ---- a word placed

module _ (l N : ℕ) (x : Vector) (A : Matrix) where
  abbrev L : Vector
  L = up_to N x

  abbrev R : Vector
  R = up_to N (λ q. x (N + q))

  pub placed_left : placed_rows l N x A l ≡ up_to N x
  unfolding placed_rows
  placed_left = put_else (l + 1) R (put_row l L A) l (λ z. omega arith) ∙ put_here l L A l refl

  pub placed_right : placed_rows l N x A (l + 1) ≡ up_to N (λ q. x (N + q))
  unfolding placed_rows
  placed_right = put_here (l + 1) R (put_row l L A) (l + 1) refl

  pub placed_else : (k : ℕ) → (k ≡ l → ⊥) → (k ≡ l + 1 → ⊥) → placed_rows l N x A k ≡ A k
  unfolding placed_rows
  placed_else k f g = put_else (l + 1) R (put_row l L A) k g ∙ put_else l L A k f

-- matrices that have two rows alike, and the others
rows_alike : (u v : ℕ) (A B : Matrix) → A u ≡ B u → A v ≡ B v → ((k : ℕ) → (k ≡ u → ⊥) → (k ≡ v → ⊥) → A k ≡ B k) → A ≡ B
rows_alike u v A B a b c = fun_ext (λ k. by k (ℕ_discrete k u) (ℕ_discrete k v))
  where
    by : (k : ℕ) → Dec (k ≡ u) → Dec (k ≡ v) → A k ≡ B k
    by k (yes e) d = subst (λ (n : ℕ). A n ≡ B n) (sym e) a
    by k (no f) (yes e) = subst (λ (n : ℕ). A n ≡ B n) (sym e) b
    by k (no f) (no g) = c k f g

-- a trit put within the first N places
put_upto : (N q : ℕ) (x : Vector) (y : Trit) → q < N → put_v (up_to N x) q y ≡ up_to N (put_v x q y)
put_upto N q x y h = fun_ext (λ j. by j (ℕ_discrete j q) (dec_lt j N))
  where
    by : (j : ℕ) → Dec (j ≡ q) → Dec (j < N) → put_v (up_to N x) q y j ≡ up_to N (put_v x q y) j
    by j (yes e) d =
        ap (λ (b : Bool). cond b y (up_to N x j)) (eq-eqb j q e) ∙ sym (ap (λ (b : Bool). cond b y (x j)) (eq-eqb j q e))
        ∙ sym (upto_in (put_v x q y) N j (omega arith))
    by j (no f) (yes l) = put_other (up_to N x) q y j f ∙ upto_in x N j l ∙ sym (put_other x q y j f) ∙ sym (upto_in (put_v x q y) N j l)
    by j (no f) (no l) = put_other (up_to N x) q y j f ∙ upto_out x N j (omega arith) ∙ sym (upto_out (put_v x q y) N j (omega arith))

-- one more trit of the word
module _ (l N q : ℕ) (x : Vector) (y : Trit) (A : Matrix) where
  abbrev B : Matrix
  B = placed_rows l N x A

  low : q < N → put_row l (put_v (B l) q y) B ≡ placed_rows l N (put_v x q y) A
  low h =
      rows_alike l (l + 1) (put_row l (put_v (B l) q y) B) (placed_rows l N (put_v x q y) A)
      (put_here l (put_v (B l) q y) B l refl ∙ ap (λ (v : Vector). put_v v q y) (placed_left l N x A) ∙ put_upto N q x y h
      ∙ sym (placed_left l N (put_v x q y) A))
      (put_else l (put_v (B l) q y) B (l + 1) (λ z. omega arith) ∙ placed_right l N x A
      ∙ upto_same N (λ j. x (N + j)) (λ j. put_v x q y (N + j)) (λ j i. sym (put_other x q y (N + j) (λ z. omega arith)))
      ∙ sym (placed_right l N (put_v x q y) A))
      (λ k f g. put_else l (put_v (B l) q y) B k f ∙ placed_else l N x A k f g ∙ sym (placed_else l N (put_v x q y) A k f g))

  high : N ≤ q → q < N + N → put_row (l + 1) (put_v (B (l + 1)) (q - N) y) B ≡ placed_rows l N (put_v x q y) A
  high m h =
      rows_alike l (l + 1) (put_row (l + 1) (put_v (B (l + 1)) (q - N) y) B) (placed_rows l N (put_v x q y) A)
      (put_else (l + 1) (put_v (B (l + 1)) (q - N) y) B l (λ z. omega arith) ∙ placed_left l N x A
      ∙ upto_same N x (put_v x q y) (λ j i. sym (put_other x q y j (λ z. omega arith))) ∙ sym (placed_left l N (put_v x q y) A))
      (put_here (l + 1) (put_v (B (l + 1)) (q - N) y) B (l + 1) refl ∙ ap (λ (v : Vector). put_v v (q - N) y) (placed_right l N x A)
      ∙ put_upto N (q - N) (λ j. x (N + j)) y (omega arith) ∙ ap (up_to N) (fun_ext (λ j. shifted j (ℕ_discrete j (q - N))))
      ∙ sym (placed_right l N (put_v x q y) A))
      (λ k f g. put_else (l + 1) (put_v (B (l + 1)) (q - N) y) B k g ∙ placed_else l N x A k f g ∙ sym (placed_else l N (put_v x q y) A k f g))
    where
      shifted : (j : ℕ) → Dec (j ≡ q - N) → put_v (λ j. x (N + j)) (q - N) y j ≡ put_v x q y (N + j)
      shifted j (yes e) =
          ap (λ (b : Bool). cond b y (x (N + j))) (eq-eqb j (q - N) e) ∙ sym (ap (λ (b : Bool). cond b y (x (N + j))) (eq-eqb (N + j) q (omega arith)))
      shifted j (no f) = put_other (λ j. x (N + j)) (q - N) y j f ∙ sym (put_other x q y (N + j) (λ z. f (omega arith)))

  pub place_more : q < N + N → put_place l (l + 1) N q y (placed_rows l N x A) ≡ placed_rows l N (put_v x q y) A
  unfolding put_place
  place_more h = by (dec_lt q N)
    where
      by : Dec (q < N) → cond (lib.Dec.ltb q N) (put_row l (put_v (B l) q y) B) (put_row (l + 1) (put_v (B (l + 1)) (q - N) y) B)
          ≡ placed_rows l N (put_v x q y) A
      by (yes m) = ap (λ (b : Bool). cond b (put_row l (put_v (B l) q y) B) (put_row (l + 1) (put_v (B (l + 1)) (q - N) y) B)) (lt-ltb q N m) ∙ low m
      by (no f) =
          ap (λ (b : Bool). cond b (put_row l (put_v (B l) q y) B) (put_row (l + 1) (put_v (B (l + 1)) (q - N) y) B)) (le-ltb q N (omega arith))
          ∙ high (omega arith) h

-- ---- places of an order, as a loop over them has them

module _ (p : List ℕ) (n i : ℕ) where
  pub front_in : n ≤ length p → i < length (take n p) → i < n
  front_in f h = omega (arith, h, length-take-le n p f)

module _ (p : List ℕ) (a n i : ℕ) where
  pub part_in : a + n ≤ length p → i < length (take (a + n - a) (drop a p)) → i < n
  part_in f h = omega (arith, h, length-take-le (a + n - a) (drop a p) (omega (arith, length-drop a p, f)))

  pub part_at : i < n → get_or (take (a + n - a) (drop a p)) i 0 ≡ get_or p (a + i) 0
  part_at h = get_or-take (a + n - a) (drop a p) i 0 (omega (arith, h)) ∙ get_or-drop a p i 0

-- ---- the first i trits of y at the places of an order

pub order_below : (n : ℕ) (p : List ℕ) → Order n p → (i : ℕ) → i < n → get_or p i 0 < n
order_below n p o i h = place_below p n i o (omega (arith, o.size))

-- 0 past a start
past_start : (i : ℕ) (y : Vector) (j : ℕ) → i ≤ j → join i y zeros j ≡ t0
past_start i y j h = ap (λ (b : Bool). cond b (y j) t0) (le-ltb j i h)

module _ (n : ℕ) (p : List ℕ) (o : Order n p) (y : Vector) where
  at_place : (i j : ℕ) → j < n → placed p (join i y zeros) (get_or p j 0) ≡ join i y zeros j
  at_place i j h = fill_at p (join i y zeros) zeros j (order_good n p o).0 (omega (arith, o.size))

  pub placed_none : zeros ≡ placed p (join 0 y zeros)
  placed_none = fun_ext (λ q. by q (bool_cases (elem q p)))
    where
      by : (q : ℕ) → (elem q p ≡ true) ⊎ (elem q p ≡ false) → t0 ≡ placed p (join 0 y zeros) q
      by q (inl m) =
          let k = elem_index q p m in
          sym (ap (placed p (join 0 y zeros)) (sym k.2) ∙ at_place 0 k.0 (omega (arith, k.1, o.size)) ∙ past_start 0 y k.0 (omega arith))
      by q (inr m) = sym (fill_off p (join 0 y zeros) zeros q m)

  pub placed_more : (i : ℕ) → i < n → put_v (placed p (join i y zeros)) (get_or p i 0) (y i) ≡ placed p (join (i + 1) y zeros)
  placed_more i h = fun_ext (λ q. by q (ℕ_discrete q (get_or p i 0)) (bool_cases (elem q p)))
    where
      next : (j : ℕ) → (j ≡ i → ⊥) → Dec (j < i) → join i y zeros j ≡ join (i + 1) y zeros j
      next j f (yes l) = join_low i y zeros j l ∙ sym (join_low (i + 1) y zeros j (omega arith))
      next j f (no l) = let g : j ≢ i = f in past_start i y j (omega arith) ∙ sym (past_start (i + 1) y j (omega arith))

      by : (q : ℕ) → Dec (q ≡ get_or p i 0) → (elem q p ≡ true) ⊎ (elem q p ≡ false)
          → put_v (placed p (join i y zeros)) (get_or p i 0) (y i) q ≡ placed p (join (i + 1) y zeros) q
      by q (yes e) d =
          ap (λ (b : Bool). cond b (y i) (placed p (join i y zeros) q)) (eq-eqb q (get_or p i 0) e)
          ∙ sym (ap (placed p (join (i + 1) y zeros)) e ∙ at_place (i + 1) i h ∙ join_low (i + 1) y zeros i (omega arith))
      by q (no f) (inl m) =
          let k = elem_index q p m in
          let l : k.0 < n = omega (arith, k.1, o.size) in
          put_other (placed p (join i y zeros)) (get_or p i 0) (y i) q f
          ∙ ap (placed p (join i y zeros)) (sym k.2) ∙ at_place i k.0 l
          ∙ next k.0 (λ e. f (sym k.2 ∙ ap (λ (j : ℕ). get_or p j 0) e)) (dec_lt k.0 i)
          ∙ sym (ap (placed p (join (i + 1) y zeros)) (sym k.2) ∙ at_place (i + 1) k.0 l)
      by q (no f) (inr m) =
          put_other (placed p (join i y zeros)) (get_or p i 0) (y i) q f ∙ fill_off p (join i y zeros) zeros q m
          ∙ sym (fill_off p (join (i + 1) y zeros) zeros q m)

-- rows of 0 hold the halves of 0
pub placed_begun : (l N : ℕ) (A : Matrix) → A l ≡ zeros → A (l + 1) ≡ zeros → A ≡ placed_rows l N zeros A
placed_begun l N A a b =
    rows_alike l (l + 1) A (placed_rows l N zeros A) (a ∙ sym (placed_left l N zeros A ∙ ended)) (b ∙ sym (placed_right l N zeros A ∙ ended))
    (λ k f g. sym (placed_else l N zeros A k f g))
  where
    ended : up_to N zeros ≡ zeros
    ended = upto_ended zeros N (λ i h. refl)

-- ---- the grid after each function

module _ {o t : List ℕ} {r w : ℕ} (u v N q : ℕ) (x : Trit) (A : Matrix) where
  pub put_low : q < N → Grid o t r w (put_row u (put_v (A u) q x) A) → Grid o t r w (put_place u v N q x A)
  unfolding put_place
  put_low h g = grid_to g (sym (ap (λ (b : Bool). cond b (put_row u (put_v (A u) q x) A) (put_row v (put_v (A v) (q - N) x) A)) (lt-ltb q N h)))

  pub put_high : N ≤ q → Grid o t r w (put_row v (put_v (A v) (q - N) x) A) → Grid o t r w (put_place u v N q x A)
  unfolding put_place
  put_high h g = grid_to g (sym (ap (λ (b : Bool). cond b (put_row u (put_v (A u) q x) A) (put_row v (put_v (A v) (q - N) x) A)) (le-ltb q N h)))

module _ (l N : ℕ) (p : List ℕ) (o : Order (N + N) p) (y : Vector) (A : Matrix) where
  pub place_begun : {os ts : List ℕ} {r w : ℕ} → Rows os ts r w → matrix_at w os ts ≡ A → A l ≡ zeros → A (l + 1) ≡ zeros
      → Grid os ts r w (placed_rows l N (placed p (join 0 y zeros)) A)
  place_begun g e a b = record { rows = g; cells = e ∙ placed_begun l N A a b ∙ ap (λ (x : Vector). placed_rows l N x A) (placed_none (N + N) p o y) }

  pub place_turn : {os ts os' ts' : List ℕ} {r w : ℕ} (i x : ℕ) → i < N + N → Grid os ts r w (placed_rows l N (placed p (join i y zeros)) A) → trit_of x ≡ y i
      → Grid os' ts' r w (put_place l (l + 1) N (get_or p i 0) (trit_of x) (matrix_at w os ts))
      → Grid os' ts' r w (placed_rows l N (placed p (join (i + 1) y zeros)) A)
  place_turn i x h g e d =
      grid_to d
      (ap₂ (λ (t : Trit) (B : Matrix). put_place l (l + 1) N (get_or p i 0) t B) e g.cells
      ∙ place_more l N (get_or p i 0) (placed p (join i y zeros)) (y i) A (order_below (N + N) p o i h)
      ∙ ap (λ (x : Vector). placed_rows l N x A) (placed_more (N + N) p o y i h))

  pub place_done : {os ts : List ℕ} {r w : ℕ} (i m : ℕ) → i ≡ m → Grid os ts r w (placed_rows l N (placed p (join i y zeros)) A)
      → Grid os ts r w (placed_rows l N (placed p (join m y zeros)) A)
  place_done i m e g = grid_to g (ap (λ (k : ℕ). placed_rows l N (placed p (join k y zeros)) A) e)

module _ (w : ℕ) (o₀ t₀ : List ℕ) {o₁ t₁ o₂ t₂ : List ℕ} {r : ℕ} (b c : Vector) where
  pub parted_grid : (l : ℕ) → Grid o₁ t₁ r w (join_product sub_t (l + 1) l (l + 2) c (matrix_at w o₀ t₀))
      → Grid o₂ t₂ r w (join_product sub_t l (l + 1) (l + 2) b (matrix_at w o₁ t₁))
      → Grid o₂ t₂ r w (parted_rows l b c (matrix_at w o₀ t₀))
  unfolding parted_rows
  parted_grid l g h = grid_to h (ap (join_product sub_t l (l + 1) (l + 2) b) g.cells)

  pub joined_pair_grid : (u v t : ℕ) → Grid o₁ t₁ r w (join_product add_t u v t b (matrix_at w o₀ t₀))
      → Grid o₂ t₂ r w (join_product add_t v u t c (matrix_at w o₁ t₁))
      → Grid o₂ t₂ r w (joined_rows u v t b c (matrix_at w o₀ t₀))
  unfolding joined_rows
  joined_pair_grid u v t g h = grid_to h (ap (join_product add_t v u t c) g.cells)

-- ---- one trit read

module _ (w : ℕ) (o t : List ℕ) (u v N q x : ℕ) where
  pub read_low : q < N → N ≤ 64 * w → x ≡ number (trit_at o t (64 * (u * w) + q)) → x ≡ number (join N (matrix_at w o t u) (matrix_at w o t v) q)
  read_low h l e = e ∙ ap number (sym (join_low N (matrix_at w o t u) (matrix_at w o t v) q h ∙ cell w o t u q (omega arith)))

  pub read_high : N ≤ q → q < N + N → N ≤ 64 * w → x ≡ number (trit_at o t (64 * (v * w) + (q - N)))
      → x ≡ number (join N (matrix_at w o t u) (matrix_at w o t v) q)
  read_high h m l e =
      e ∙ ap number (sym (ap (λ (b : Bool). cond b (matrix_at w o t u q) (matrix_at w o t v (q - N))) (le-ltb q N h) ∙ cell w o t v (q - N) (omega arith)))

-- ---- rows parted and joined

module _ (l : ℕ) (b c : Vector) (A : Matrix) where
  abbrev C : Matrix
  C = join_product sub_t (l + 1) l (l + 2) c A

  pub parted_right : parted_rows l b c A (l + 1) ≡ zip_v sub_t (A (l + 1)) (zip_v mul_t (A l) c)
  unfolding parted_rows
  parted_right = product_else sub_t l (l + 1) (l + 2) b C (l + 1) (λ z. omega arith) (λ z. omega arith) ∙ product_at sub_t (l + 1) l (l + 2) c A

  pub parted_left : parted_rows l b c A l ≡ zip_v sub_t (A l) (zip_v mul_t (zip_v sub_t (A (l + 1)) (zip_v mul_t (A l) c)) b)
  unfolding parted_rows
  parted_left =
      product_at sub_t l (l + 1) (l + 2) b C
      ∙ ap₂ (λ (x y : Vector). zip_v sub_t x (zip_v mul_t y b)) (product_else sub_t (l + 1) l (l + 2) c A l (λ z. omega arith) (λ z. omega arith))
      (product_at sub_t (l + 1) l (l + 2) c A)

  pub parted_else : (k : ℕ) → (k ≡ l → ⊥) → (k ≡ l + 1 → ⊥) → (k ≡ l + 2 → ⊥) → parted_rows l b c A k ≡ A k
  unfolding parted_rows
  parted_else k f g h = product_else sub_t l (l + 1) (l + 2) b C k f h ∙ product_else sub_t (l + 1) l (l + 2) c A k g h

module _ (u v t : ℕ) (f : u ≡ v → ⊥) (g : u ≡ t → ⊥) (h : v ≡ t → ⊥) (b c : Vector) (A : Matrix) where
  abbrev D : Matrix
  D = join_product add_t u v t b A

  pub joined_left : joined_rows u v t b c A u ≡ zip_v add_t (A u) (zip_v mul_t (A v) b)
  unfolding joined_rows
  joined_left = product_else add_t v u t c D u f g ∙ product_at add_t u v t b A

  pub joined_right : joined_rows u v t b c A v ≡ zip_v add_t (A v) (zip_v mul_t (zip_v add_t (A u) (zip_v mul_t (A v) b)) c)
  unfolding joined_rows
  joined_right =
      product_at add_t v u t c D
      ∙ ap₂ (λ (x y : Vector). zip_v add_t x (zip_v mul_t y c)) (product_else add_t u v t b A v (λ z. f (sym z)) h) (product_at add_t u v t b A)

  pub joined_else : (k : ℕ) → (k ≡ u → ⊥) → (k ≡ v → ⊥) → (k ≡ t → ⊥) → joined_rows u v t b c A k ≡ A k
  unfolding joined_rows
  joined_else k x y z = product_else add_t v u t c D k y z ∙ product_else add_t u v t b A k x z
