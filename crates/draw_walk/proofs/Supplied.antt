-- The walk along the columns of the first part, one after another: what it takes, what it passes over, and the word that row e has so far. Assumes nothing.
use mathlib.Core.Path.{◌≡◌, refl, sym, ap, ap₂, ◌∙◌, subst, fun_ext}
use mathlib.Core.Bool.{Bool, true, false, cond, true≢false}
use mathlib.Core.Logic.{◌⊎◌, inl, inr}
use mathlib.Core.List.{List, [], ◌∷◌, ◌++◌, append-nil}
use Prim.Native.Nat.{ℕ, zero, suc, ◌+◌, ◌-◌, ◌≤◌, ◌<◌}
use native.Mathlib.Numerals.{add-one}
use native.Mathlib.Decide.{dec_lt, ℕ_discrete}
use native.Mathlib.Omega.{arith}
use borrow.Author.Tests.{lt-ltb, le-ltb}
use lib.Dec.{eqb}
use lib.ListN.{length, get_or, length-append}
use Rattle.trits.specs.Trit.{Trit, t0, sub_t, put_v}
use Rattle.trits.specs.Rows.{matrix_at}
use Rattle.trits.proofs.Arithmetic.{add_zero_r}
use Rattle.matrix.specs.Linear.{Vector, Matrix, zeros, elem, fill, range}
use Rattle.matrix.proofs.Dots.{put_same, put_other}
use Rattle.matrix.proofs.Places.{or_false_left, or_false_right, false_or_false, elem_past, fill_off}
use Rattle.matrix.proofs.Greedy.{bool_cases}
use Rattle.matrix.proofs.Counts.{range_length, range_next}
use Rattle.matrix.proofs.FirstPart.{range_below}
use Rattle.grid.specs.Steps.{Rows, Grid, put_row}
use Rattle.grid.proofs.Cells.{grid_to}
use Rattle.grid.proofs.RowParts.{put_here, put_else}
use Rattle.draw_walk.specs.Walks.{is_next, taken, passed, firsts_of}
use Rattle.draw_walk.proofs.Walked.{taken_append, passed_append, next_cong}
use Rattle.draw_walk.proofs.Puts.{put_own}
use Rattle.draw_walk.proofs.Filled.{fill_more, put_again}

-- ---- what the walk takes and passes over

module _ (r : ℕ) (A : Matrix) where
  -- each place is one or the other
  pub walk_length : (c : ℕ) (ps : List ℕ) → length (taken r A c ps) + length (passed r A c ps) ≡ length ps
  unfolding taken passed
  walk_length c [] = refl
  walk_length c (q ∷ ps) = by (walk_length (suc c) ps) (walk_length c ps) (is_next r A c q)
    where
      by : length (taken r A (suc c) ps) + length (passed r A (suc c) ps) ≡ length ps → length (taken r A c ps) + length (passed r A c ps) ≡ length ps
          → (b : Bool) → length (cond b (q ∷ taken r A (suc c) ps) (taken r A c ps)) + length (cond b (passed r A (suc c) ps) (q ∷ passed r A c ps)) ≡ suc
          (length ps)
      by f g true = omega arith
      by f g false = omega arith

  pub passed_out : (c : ℕ) (ps : List ℕ) (x : ℕ) → elem x ps ≡ false → elem x (passed r A c ps) ≡ false
  unfolding passed
  passed_out c [] x h = refl
  passed_out c (q ∷ ps) x h = by (passed_out (suc c) ps x (or_false_right (eqb x q) (elem x ps) h)) (passed_out c ps x (or_false_right (eqb x q) (elem x ps) h))
      (is_next r A c q)
    where
      by : elem x (passed r A (suc c) ps) ≡ false → elem x (passed r A c ps) ≡ false → (b : Bool)
          → elem x (cond b (passed r A (suc c) ps) (q ∷ passed r A c ps)) ≡ false
      by f g true = f
      by f g false = false_or_false (eqb x q) (elem x (passed r A c ps)) (or_false_left (eqb x q) (elem x ps) h) g

  pub passed_below : (m c p : ℕ) → elem p (passed r A c (range m)) ≡ true → p < m
  passed_below m c p k = by (dec_lt p m)
    where
      by : Dec (p < m) → p < m
      by (yes l) = l
      by (no f) = absurd (true≢false (sym k ∙ passed_out c (range m) p (elem_past m (range m) p (range_below m) (omega arith))))

  -- one more place
  module _ (ps : List ℕ) (q c : ℕ) (e : c ≡ length (taken r A 0 ps)) where
    one_taken : taken r A (0 + length (taken r A 0 ps)) (q ∷ []) ≡ cond (is_next r A c q) (q ∷ []) []
    unfolding taken
    one_taken = let z : 0 + length (taken r A 0 ps) ≡ c = omega arith in ap (λ (n : ℕ). taken r A n (q ∷ [])) z

    one_passed : passed r A (0 + length (taken r A 0 ps)) (q ∷ []) ≡ cond (is_next r A c q) [] (q ∷ [])
    unfolding passed
    one_passed = let z : 0 + length (taken r A 0 ps) ≡ c = omega arith in ap (λ (n : ℕ). passed r A n (q ∷ [])) z

    pub taken_yes : is_next r A c q ≡ true → taken r A 0 (ps ++ (q ∷ [])) ≡ taken r A 0 ps ++ (q ∷ [])
    taken_yes h = taken_append r A ps (q ∷ []) 0 ∙ ap (λ (l : List ℕ). taken r A 0 ps ++ l) (one_taken ∙ ap (λ (b : Bool). cond b (q ∷ []) []) h)

    pub taken_no : is_next r A c q ≡ false → taken r A 0 (ps ++ (q ∷ [])) ≡ taken r A 0 ps
    taken_no h =
        taken_append r A ps (q ∷ []) 0 ∙ ap (λ (l : List ℕ). taken r A 0 ps ++ l) (one_taken ∙ ap (λ (b : Bool). cond b (q ∷ []) []) h)
        ∙ append-nil (taken r A 0 ps)

    pub passed_yes : is_next r A c q ≡ true → passed r A 0 (ps ++ (q ∷ [])) ≡ passed r A 0 ps
    passed_yes h =
        passed_append r A ps (q ∷ []) 0 ∙ ap (λ (l : List ℕ). passed r A 0 ps ++ l) (one_passed ∙ ap (λ (b : Bool). cond b [] (q ∷ [])) h)
        ∙ append-nil (passed r A 0 ps)

    pub passed_no : is_next r A c q ≡ false → passed r A 0 (ps ++ (q ∷ [])) ≡ passed r A 0 ps ++ (q ∷ [])
    passed_no h = passed_append r A ps (q ∷ []) 0 ∙ ap (λ (l : List ℕ). passed r A 0 ps ++ l) (one_passed ∙ ap (λ (b : Bool). cond b [] (q ∷ [])) h)

    pub taken_count : {n : ℕ} → n ≡ cond (is_next r A c q) (suc c) c → n ≡ length (taken r A 0 (ps ++ (q ∷ [])))
    taken_count d = d ∙ by (bool_cases (is_next r A c q))
      where
        by : (is_next r A c q ≡ true) ⊎ (is_next r A c q ≡ false) → cond (is_next r A c q) (suc c) c ≡ length (taken r A 0 (ps ++ (q ∷ [])))
        by (inl h) = ap (λ (b : Bool). cond b (suc c) c) h ∙ ap suc e ∙ sym (add-one (length (taken r A 0 ps)))
            ∙ sym (length-append (taken r A 0 ps) (q ∷ [])) ∙ ap (λ (l : List ℕ). length l) (sym (taken_yes h))
        by (inr h) = ap (λ (b : Bool). cond b (suc c) c) h ∙ e ∙ ap (λ (l : List ℕ). length l) (sym (taken_no h))

-- ---- the walk in a matrix of which row e is being made

-- the places ps are walked, c of them are taken, and row e is u
pub record Walking (rows w r e : ℕ) (A : Matrix) (u : Vector) (ps : List ℕ) (c : ℕ) (o t : List ℕ) : Type 0 where
  pub grid : Grid o t rows w (put_row e u A)
  pub count : c ≡ length (taken r A 0 ps)

module _ {rows w r e : ℕ} {A : Matrix} {u : Vector} {ps : List ℕ} {c : ℕ} {os ts : List ℕ} (k : Walking rows w r e A u ps c os ts) (z : r ≤ e) where
  -- the matrix is read as it was
  pub walking_next : (q : ℕ) → is_next r (matrix_at w os ts) c q ≡ is_next r A c q
  walking_next q =
      ap (λ (B : Matrix). is_next r B c q) k.grid.cells ∙ next_cong r (put_row e u A) A c q (λ i l. put_else e u A i (λ d. omega arith))

  -- a turn: x is what row e is where the place is taken, y where it is passed over
  pub walking_turn : {n : ℕ} {o t : List ℕ} (q : ℕ) (x y : Matrix → Vector) (v : Vector) → n ≡ cond (is_next r (matrix_at w os ts) c q) (suc c) c
      → Grid o t rows w (put_row e (cond (is_next r (matrix_at w os ts) c q) (x (matrix_at w os ts)) (y (matrix_at w os ts))) (matrix_at w os ts))
      → (is_next r A c q ≡ true → x (put_row e u A) ≡ v) → (is_next r A c q ≡ false → y (put_row e u A) ≡ v) → Walking rows w r e A v (ps ++ (q ∷ [])) n o t
  walking_turn q x y v d g f h = record {
    grid = grid_to g
        (ap (λ (b : Bool). put_row e (cond b (x (matrix_at w os ts)) (y (matrix_at w os ts))) (matrix_at w os ts)) (walking_next q)
        ∙ ap (λ (B : Matrix). put_row e (cond (is_next r A c q) (x B) (y B)) B) k.grid.cells
        ∙ ap (λ (s : Vector). put_row e s (put_row e u A)) (by (bool_cases (is_next r A c q)))
        ∙ put_again e u A v);
    count = taken_count r A ps q c k.count (d ∙ ap (λ (b : Bool). cond b (suc c) c) (walking_next q));
  }
    where
      by : (is_next r A c q ≡ true) ⊎ (is_next r A c q ≡ false) → cond (is_next r A c q) (x (put_row e u A)) (y (put_row e u A)) ≡ v
      by (inl a) = ap (λ (b : Bool). cond b (x (put_row e u A)) (y (put_row e u A))) a ∙ f a
      by (inr a) = ap (λ (b : Bool). cond b (x (put_row e u A)) (y (put_row e u A))) a ∙ h a

-- ---- the loop: i positions are walked

-- more positions, as many passed over or more
passed_grows : (r : ℕ) (A : Matrix) (i m : ℕ) → i ≤ m → length (passed r A 0 (range i)) ≤ length (passed r A 0 (range m))
unfolding range
passed_grows r A i zero h = let e : i ≡ 0 = omega arith in rw e (omega arith)
passed_grows r A i (suc m) h = by (passed_grows r A i m) (ℕ_discrete i (suc m))
  where
    by : (i ≤ m → length (passed r A 0 (range i)) ≤ length (passed r A 0 (range m))) → Dec (i ≡ suc m)
        → length (passed r A 0 (range i)) ≤ length (passed r A 0 (range m ++ (m ∷ [])))
    by ih (yes e) = rw e (omega arith)
    by ih (no f) =
        let p = ap (λ (x : List ℕ). length x) (passed_append r A (range m) (m ∷ []) 0)
        ∙ length-append (passed r A 0 (range m)) (passed r A (0 + length (taken r A 0 (range m))) (m ∷ [])) in
        omega (arith, p, ih (omega (arith, f)))

-- one position more takes s off
firsts_more : (r : ℕ) (A : Matrix) (order : List ℕ) (i : ℕ) (v x u : Vector) (s : Trit)
    → fill (passed r A 0 (range (i + 1))) v zeros ≡ put_v (fill (passed r A 0 (range i)) v zeros) i s
    → put_v (firsts_of r A order i v x u) i (sub_t (x (get_or order i 0)) s) ≡ firsts_of r A order (i + 1) v x u
firsts_more r A order i v x u s e = fun_ext (λ j. by j (ℕ_discrete j i) (dec_lt j i))
  where
    S : Vector
    S = fill (passed r A 0 (range i)) v zeros

    by : (j : ℕ) → Dec (j ≡ i) → Dec (j < i) → put_v (firsts_of r A order i v x u) i (sub_t (x (get_or order i 0)) s) j ≡ firsts_of r A order (i + 1) v x u j
    by j (yes d) l =
        ap (put_v (firsts_of r A order i v x u) i (sub_t (x (get_or order i 0)) s)) d
        ∙ put_same (firsts_of r A order i v x u) i (sub_t (x (get_or order i 0)) s)
        ∙ sym (ap (firsts_of r A order (i + 1) v x u) d
        ∙ ap (λ (b : Bool). cond b (sub_t (x (get_or order i 0)) (fill (passed r A 0 (range (i + 1))) v zeros i)) (u i)) (lt-ltb i (i + 1) (omega arith))
        ∙ ap (λ (w : Vector). sub_t (x (get_or order i 0)) (w i)) e ∙ ap (sub_t (x (get_or order i 0))) (put_same S i s))
    by j (no f) (yes l) =
        put_other (firsts_of r A order i v x u) i (sub_t (x (get_or order i 0)) s) j f
        ∙ ap (λ (b : Bool). cond b (sub_t (x (get_or order j 0)) (S j)) (u j)) (lt-ltb j i l)
        ∙ sym (ap (λ (b : Bool). cond b (sub_t (x (get_or order j 0)) (fill (passed r A 0 (range (i + 1))) v zeros j)) (u j)) (lt-ltb j (i + 1) (omega arith))
        ∙ ap (λ (w : Vector). sub_t (x (get_or order j 0)) (w j)) e ∙ ap (sub_t (x (get_or order j 0))) (put_other S i s j f))
    by j (no f) (no l) =
        put_other (firsts_of r A order i v x u) i (sub_t (x (get_or order i 0)) s) j f
        ∙ ap (λ (b : Bool). cond b (sub_t (x (get_or order j 0)) (S j)) (u j)) (le-ltb j i (omega arith))
        ∙ sym (ap (λ (b : Bool). cond b (sub_t (x (get_or order j 0)) (fill (passed r A 0 (range (i + 1))) v zeros j)) (u j))
        (le-ltb j (i + 1) (omega (arith, f))))

-- nothing is walked yet
pub walking_none : {rows w r : ℕ} {o t : List ℕ} (e : ℕ) (order : List ℕ) (v x : Vector) → Rows o t rows w
    → Walking rows w r e (matrix_at w o t) (firsts_of r (matrix_at w o t) order 0 v x (matrix_at w o t e)) (range 0) 0 o t
unfolding taken range
walking_none {w = w} {r = r} {o = o} {t = t} e order v x g = record {
  grid = record {
    rows = g;
    cells = put_own e (matrix_at w o t) ∙ ap (λ (u : Vector). put_row e u (matrix_at w o t)) (fun_ext (λ j.
        sym (ap (λ (b : Bool). cond b (sub_t (x (get_or order j 0)) (fill (passed r (matrix_at w o t) 0 (range 0)) v zeros j)) (matrix_at w o t e j))
        (le-ltb j 0 (omega arith)))));
  };
  count = refl;
}

module _ {rows w r e : ℕ} (A : Matrix) (i : ℕ) {c : ℕ} {os ts : List ℕ} (z : r ≤ e) where
  module _ {u : Vector} (k : Walking rows w r e A u (range i) c os ts) where
    pub passed_count : i ≡ c + length (passed r A 0 (range i))
    passed_count = omega (arith, k.count, walk_length r A 0 (range i), range_length i)

    -- a position that is passed over finds a trit
    pub supply_room : (m N : ℕ) {j : ℕ} → i < m → length (passed r A 0 (range m)) ≤ N → j ≤ length (passed r A 0 (range i))
        → (is_next r (matrix_at w os ts) c i ≡ true) ⊎ (j < N)
    supply_room m N {j} a b d = by (bool_cases (is_next r A c i))
      where
        by : (is_next r A c i ≡ true) ⊎ (is_next r A c i ≡ false) → (is_next r (matrix_at w os ts) c i ≡ true) ⊎ (j < N)
        by (inl f) = inl (walking_next k z i ∙ f)
        by (inr f) =
            let p = ap (λ (x : List ℕ). length x) (ap (λ (x : List ℕ). passed r A 0 x) (range_next i) ∙ passed_no r A (range i) i c k.count f)
            ∙ length-append (passed r A 0 (range i)) (i ∷ []) in
            inr (omega (arith, d, passed_grows r A (i + 1) m (omega arith), p))

  -- the position i takes its place of row x, less the next trit or none
  pub supply_turn : {n : ℕ} {o₁ t₁ : List ℕ} (order : List ℕ) (v : Vector) (x : ℕ) → (x ≡ e → ⊥)
      → Walking rows w r e A (firsts_of r A order i v (A x) (A e)) (range i) c os ts
      → n ≡ cond (is_next r (matrix_at w os ts) c i) (suc c) c
      → Grid o₁ t₁ rows w (put_row e (cond (is_next r (matrix_at w os ts) c i) (put_v (matrix_at w os ts e) i (matrix_at w os ts x (get_or order i 0)))
      (put_v (matrix_at w os ts e) i (sub_t (matrix_at w os ts x (get_or order i 0)) (v (i - c))))) (matrix_at w os ts))
      → Walking rows w r e A (firsts_of r A order (i + 1) v (A x) (A e)) (range (i + 1)) n o₁ t₁
  supply_turn {n} {o₁} {t₁} order v x xe k d g =
      subst (λ (l : List ℕ). Walking rows w r e A (firsts_of r A order (i + 1) v (A x) (A e)) l n o₁ t₁) (sym (range_next i))
      (walking_turn k z i (λ B. put_v (B e) i (B x q)) (λ B. put_v (B e) i (sub_t (B x q) (v (i - c)))) (firsts_of r A order (i + 1) v (A x) (A e)) d g
      (λ f. ap₂ (λ (y y' : Vector). put_v y i (y' q)) (put_here e u A e refl) (put_else e u A x xe)
      ∙ ap (put_v u i) (sym (add_zero_r (A x q))) ∙ firsts_more r A order i v (A x) (A e) t0 (none f))
      (λ f. ap₂ (λ (y y' : Vector). put_v y i (sub_t (y' q) (v (i - c)))) (put_here e u A e refl) (put_else e u A x xe)
      ∙ firsts_more r A order i v (A x) (A e) (v (i - c)) (more f)))
    where
      q : ℕ
      q = get_or order i 0

      u : Vector
      u = firsts_of r A order i v (A x) (A e)

      out : elem i (passed r A 0 (range i)) ≡ false
      out = passed_out r A 0 (range i) i (elem_past i (range i) i (range_below i) (omega arith))

      none : is_next r A c i ≡ true → fill (passed r A 0 (range (i + 1))) v zeros ≡ put_v (fill (passed r A 0 (range i)) v zeros) i t0
      none f =
          ap (λ (l : List ℕ). fill l v zeros) (ap (passed r A 0) (range_next i) ∙ passed_yes r A (range i) i c k.count f)
          ∙ fun_ext (λ j. by j (ℕ_discrete j i))
        where
          S : Vector
          S = fill (passed r A 0 (range i)) v zeros

          by : (j : ℕ) → Dec (j ≡ i) → S j ≡ put_v S i t0 j
          by j (yes y) = ap S y ∙ fill_off (passed r A 0 (range i)) v zeros i out ∙ sym (ap (put_v S i t0) y ∙ put_same S i t0)
          by j (no y) = sym (put_other S i t0 j y)

      more : is_next r A c i ≡ false → fill (passed r A 0 (range (i + 1))) v zeros ≡ put_v (fill (passed r A 0 (range i)) v zeros) i (v (i - c))
      more f =
          let m : length (passed r A 0 (range i)) ≡ i - c = omega (arith, passed_count k) in
          ap (λ (l : List ℕ). fill l v zeros) (ap (passed r A 0) (range_next i) ∙ passed_no r A (range i) i c k.count f)
          ∙ fill_more (passed r A 0 (range i)) i v zeros out ∙ ap (λ (j : ℕ). put_v (fill (passed r A 0 (range i)) v zeros) i (v j)) m
