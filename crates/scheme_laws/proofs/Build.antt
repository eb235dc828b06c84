-- The build of a key ends with as many columns kept as there are rows; its loop by elimination, and the rows of R. Assumes nothing.
use mathlib.Core.Path.{◌≡◌, refl, sym, ap, ap₂, ◌∙◌, subst}
use mathlib.Core.Bool.{Bool, true, false}
use mathlib.Core.List.{List, [], ◌∷◌, ◌++◌}
use mathlib.Core.Option.{Option}
use Prim.Native.Nat.{ℕ, zero, suc, ◌+◌, ◌≤◌, ◌<◌}
use native.Mathlib.Omega.{arith}
use borrow.Author.Tests.{eqb-true, eqb-false, eq-eqb, ne_eqb, ltb-true, ltb-false}
use lib.Dec.{eqb, ltb}
use lib.ListN.{length, get_or, take, set, length-set}
use lib.Seq.{get_or-set_same, get_or-set_other, get_or-take, take-suc, take-set-le, length-take-le}
use Rattle.trits.specs.Trit.{t0, add_t, mul_t, is_set, dot_v}
use Rattle.trits.proofs.Arithmetic.{mul_comm, mul-zero}
use Rattle.matrix.specs.Linear.{Vector, Matrix, zeros, column, times, elem, fill, in_span, or_zeros}
use Rattle.matrix.specs.Orders.{Order}
use Rattle.matrix.specs.Passes.{Lowered, Reduced}
use Rattle.matrix.specs.Steps.{pivoted}
use Rattle.matrix.proofs.Dots.{dot_add, dot_mul, dot_zeros, dot_cong}
use Rattle.matrix.proofs.Dimension.{Reaches}
use Rattle.matrix.proofs.Places.{elem_append, elem_at, fill_at, times_places}
use Rattle.matrix.proofs.Search.{Spans, in_span_iff}
use Rattle.matrix.proofs.Greedy.{Kept, empty_kept, grow, unit_spans, kept_few, spans_many, spans_mono}
use Rattle.matrix.proofs.Orders.{order_good, elem_index, index_elem}
use Rattle.matrix.proofs.Solutions.{solve_exists}
use Rattle.matrix.proofs.Elimination.{start_lowered, stepped_lowered, test_in, test_out, reduced_column}
use Rattle.scheme.specs.Build.{swap, Arrangement, arrange, arranged, row_of_r}

-- ---- an exchange

module _ (ps : List ℕ) (j l : ℕ) (hj : j < length ps) (hl : l < length ps) where
  pub swap_length : length (swap j l ps) ≡ length ps
  swap_length = length-set (set ps j (get_or ps l 0)) l (get_or ps j 0) ∙ length-set ps j (get_or ps l 0)

  pub swap_second : get_or (swap j l ps) l 0 ≡ get_or ps j 0
  swap_second = get_or-set_same (set ps j (get_or ps l 0)) l (get_or ps j 0) 0 (rw (length-set ps j (get_or ps l 0)) hl)

  pub swap_first : (j ≡ l → ⊥) → get_or (swap j l ps) j 0 ≡ get_or ps l 0
  swap_first k = get_or-set_other (set ps j (get_or ps l 0)) l j (get_or ps j 0) 0 k ∙ get_or-set_same ps j (get_or ps l 0) 0 hj

  pub swap_other : (i : ℕ) → (i ≡ j → ⊥) → (i ≡ l → ⊥) → get_or (swap j l ps) i 0 ≡ get_or ps i 0
  swap_other i a b = get_or-set_other (set ps j (get_or ps l 0)) l i (get_or ps j 0) 0 b ∙ get_or-set_other ps j i (get_or ps l 0) 0 a

  pub swap_order : (n : ℕ) → Order n ps → Order n (swap j l ps)
  swap_order n o = record { size = swap_length ∙ o.size; every = λ q h. go q (elem_index q ps (o.every q h)) }
    where
      go : (q : ℕ) → (i : ℕ) × (i < length ps) × (get_or ps i 0 ≡ q) → elem q (swap j l ps) ≡ true
      go q (i, h, e) = at (eqb i j) refl (eqb i l) refl
        where
          at : (s : Bool) → eqb i j ≡ s → (t : Bool) → eqb i l ≡ t → elem q (swap j l ps) ≡ true
          at true a t b = index_elem q (swap j l ps) l (rw swap_length hl) (swap_second ∙ ap (λ x. get_or ps x 0) (sym (eqb-true i j a)) ∙ e)
          at false a true b =
              index_elem q (swap j l ps) j (rw swap_length hj)
              (swap_first (λ z. eqb-false i j a (eqb-true i l b ∙ sym z)) ∙ ap (λ x. get_or ps x 0) (sym (eqb-true i l b)) ∙ e)
          at false a false b = index_elem q (swap j l ps) i (rw swap_length h) (swap_other i (eqb-false i j a) (eqb-false i l b) ∙ e)

-- ---- the column rule

module _ (r n : ℕ) (H : Matrix) where
  -- places whose columns reach each column reach what any word is taken to
  pub spans_all : (ps : List ℕ) → ((q : ℕ) → q < n → Spans r n H ps (column H q)) → (w v : Vector) → ((i : ℕ) → i < r → times n H w i ≡ v i) → Spans r n H ps v
  unfolding dot_v
  spans_all ps s w v e = let t = upto n (omega arith) in (t.0, t.1, λ i h. t.2 i h ∙ e i h)
    where
      upto : (m : ℕ) → m ≤ n → Spans r n H ps (times m H w)
      upto zero h = (zeros, (λ q k. refl), λ i k. dot_zeros n (H i))
      upto (suc m) h =
          let t = upto m (omega arith) in
          let c = s m h in (
            (λ q. add_t (t.0 q) (mul_t (w m) (c.0 q))),
            (λ q k. ap₂ add_t (t.1 q k) (ap (mul_t (w m)) (c.1 q k) ∙ mul-zero (w m))),
            λ i k. dot_add n (H i) t.0 (λ q. mul_t (w m) (c.0 q))
                ∙ ap₂ add_t (t.2 i k) (dot_mul n (w m) (H i) c.0 ∙ ap (mul_t (w m)) (c.2 i k) ∙ mul_comm (w m) (H i m)),
          )

  -- r columns are kept, and stand first in the order
  pub record Arranged (a : Arrangement) : Type 0 where
    pub count : a.kept ≡ r
    pub order : Order n a.order
    pub kept : Kept r n H (take r a.order)
    pub fits : r ≤ n

  abbrev pub Rest : ℕ → ℕ → List ℕ → Type 0
  Rest f j ps = (i : ℕ) → j + f ≤ i → i < n → Spans r n H (take j ps) (column H (get_or ps i 0))

  -- no column is left to try
  pub ended : (j : ℕ) (ps : List ℕ) → Reaches r n H → Order n ps → Kept r n H (take j ps) → j ≤ n → Rest 0 j ps → j ≡ r
  ended j ps a o k h s = full
    where
      size : length (take j ps) ≡ j
      size = length-take-le j ps (omega (arith, o.size))

      each : (q : ℕ) → q < n → Spans r n H (take j ps) (column H q)
      each q l = at (elem_index q ps (o.every q l))
        where
          at : (i : ℕ) × (i < length ps) × (get_or ps i 0 ≡ q) → Spans r n H (take j ps) (column H q)
          at (i, b, e) = side (ltb i j) refl
            where
              side : (t : Bool) → ltb i j ≡ t → Spans r n H (take j ps) (column H q)
              side true t =
                  let m : elem (get_or (take j ps) i 0) (take j ps) ≡ true = elem_at (take j ps) i (omega (arith, size, ltb-true i j t)) in
                  unit_spans r n H (take j ps) q l (rw (get_or-take j ps i 0 (ltb-true i j t), e) at m)
              side false t = rw e at (s i (omega (arith, ltb-false i j t)) (omega (arith, o.size)))

      full : j ≡ r
      full = omega (
        arith,
        size,
        kept_few r n H (take j ps) k,
        spans_many r n H (take j ps) k.distinct k.below (λ v. spans_all (take j ps) each (a v).0 v (a v).1),
      )

  -- the column at j is kept
  pub next : (f j : ℕ) (ps : List ℕ) → Order n ps → Kept r n H (take j ps) → j + suc f ≤ n → Rest (suc f) j ps
      → in_span r n H (take j ps) (column H (get_or ps j 0)) ≡ false
      → Kept r n H (take (suc j) ps) × Rest f (suc j) ps
  next f j ps o k h s e =
      let shape = take-suc ps j 0 (omega (arith, o.size)) in (
        rw shape (grow r n H (take j ps) (get_or ps j 0) ((order_good n ps o).1 (get_or ps j 0) (elem_at ps j (omega (arith, o.size)))) k e),
        λ i l b. rw shape (spans_mono r n H (take j ps) (take j ps ++ (get_or ps j 0 ∷ [])) (column H (get_or ps i 0)) more (s i (omega arith) b)),
      )
    where
      more : (q : ℕ) → elem q (take j ps) ≡ true → elem q (take j ps ++ (get_or ps j 0 ∷ [])) ≡ true
      more q m = rw (elem_append, m)

  -- the column at j goes to the place l = j + f
  pub back : (f j : ℕ) (ps : List ℕ) → Order n ps → Kept r n H (take j ps) → j + suc f ≤ n → Rest (suc f) j ps
      → in_span r n H (take j ps) (column H (get_or ps j 0)) ≡ true
      → Order n (swap j (j + f) ps) × Kept r n H (take j (swap j (j + f) ps)) × Rest f j (swap j (j + f) ps)
  back f j ps o k h s e = (
    swap_order ps j (j + f) hj hl n o,
    (rw same k),
    λ i l b. rw same (at i l b (eqb i (j + f)) refl),
  )
    where
      hj : j < length ps
      hj = omega (arith, o.size)

      hl : j + f < length ps
      hl = omega (arith, o.size)

      same : take j (swap j (j + f) ps) ≡ take j ps
      same = take-set-le j (set ps j (get_or ps (j + f) 0)) (j + f) (get_or ps j 0) (omega arith) ∙ take-set-le j ps j (get_or ps (j + f) 0) (omega arith)

      at : (i : ℕ) → j + f ≤ i → i < n → (t : Bool) → eqb i (j + f) ≡ t → Spans r n H (take j ps) (column H (get_or (swap j (j + f) ps) i 0))
      at i l b true t = rw (eqb-true i (j + f) t, swap_second ps j (j + f) hj hl) ((in_span_iff r n H (take j ps) (column H (get_or ps j 0))).0 e)
      at i l b false t =
          let no_l = eqb-false i (j + f) t in
          rw (swap_other ps j (j + f) hj hl i (λ z. omega arith) no_l) (s i (omega arith) b)

  pub arrange_good : (f j : ℕ) (ps : List ℕ) → Reaches r n H → Order n ps → Kept r n H (take j ps) → j + f ≤ n → Rest f j ps → Arranged (arrange r n H f j ps)
  unfolding arrange
  arrange_good zero j ps a o k h s =
      let full = ended j ps a o k (omega arith) s in
      record { count = full; order = o; kept = subst (λ x. Kept r n H (take x ps)) full k; fits = omega (arith, full) }
  arrange_good (suc f) j ps a o k h s = go (arrange_good f) (eqb j r) refl (in_span r n H (take j ps) (column H (get_or ps j 0))) refl
    where
      go : ((j : ℕ) (ps : List ℕ) → Reaches r n H → Order n ps → Kept r n H (take j ps) → j + f ≤ n → Rest f j ps → Arranged (arrange r n H f j ps))
          → (t : Bool) → eqb j r ≡ t → (u : Bool) → in_span r n H (take j ps) (column H (get_or ps j 0)) ≡ u → Arranged (arrange r n H (suc f) j ps)
      go ih true e u d =
          rw (e, arrange) (record {
            count = eqb-true j r e;
            order = o;
            kept = subst (λ x. Kept r n H (take x ps)) (eqb-true j r e) k;
            fits = omega (arith, eqb-true j r e);
          })
      go ih false e true d = let b = back f j ps o k h s d in rw (e, d, arrange) (ih j (swap j (j + f) ps) a b.0 b.1 (omega arith) b.2)
      go ih false e false d = let b = next f j ps o k h s d in rw (e, d, arrange) (ih (suc j) ps a o b.0 (omega arith) b.1)

  pub arranged_good : (ps : List ℕ) → Reaches r n H → Order n ps → Arranged (arranged r n H ps)
  unfolding arranged
  arranged_good ps a o = arrange_good n 0 ps a o (empty_kept r n H) (omega arith) (λ i h l. absurd (omega arith))

-- ---- the rows of R

-- column i of R, after r kept columns
pub reduced_key : (r n : ℕ) (H A : Matrix) (p : List ℕ) → Kept r n H (take r p) → Reduced r n H A (take r p) → r ≤ length p → (i j : ℕ) → j < r
    → get_or p (r + i) 0 < n
    → row_of_r r n H p i j ≡ A j (get_or p (r + i) 0)
unfolding row_of_r
reduced_key r n H A p k d f i j h l =
    let full = length-take-le r p f in
    ap (λ o. or_zeros o (get_or p j 0)) (reduced_column r n H A (take r p) k d full (get_or p (r + i) 0) l)
    ∙ ap (fill (take r p) (column A (get_or p (r + i) 0)) zeros) (sym (get_or-take r p j 0 h))
    ∙ fill_at (take r p) (column A (get_or p (r + i) 0)) zeros j k.distinct (omega arith)

-- a column that is not kept is the kept columns times a row of R: the matrix in the order p is its kept part times (identity | R)
pub row_column : (m n : ℕ) (H : Matrix) (p : List ℕ) → Kept m n H (take m p) → m ≤ length p → (i x : ℕ) → x < m
    → dot_v (λ j. H x (get_or p j 0)) (row_of_r m n H p i) m ≡ H x (get_or p (m + i) 0)
unfolding row_of_r
row_column m n H p k f i x h =
    let full = length-take-le m p f in
    let t = solve_exists m n H (take m p) k full (column H (get_or p (m + i) 0)) zeros in
    ap (λ (o : Option Vector). dot_v (λ j. H x (get_or p j 0)) (λ j. or_zeros o (get_or p j 0)) m) t.1
    ∙ dot_cong m (λ j. H x (get_or p j 0)) (λ j. t.0 (get_or p j 0)) (λ j. H x (get_or (take m p) j 0)) (λ j. t.0 (get_or (take m p) j 0))
    (λ j l. ap (λ (q : ℕ). mul_t (H x q) (t.0 q)) (sym (get_or-take m p j 0 l)))
    ∙ ap (dot_v (λ j. H x (get_or (take m p) j 0)) (λ j. t.0 (get_or (take m p) j 0))) (sym full)
    ∙ sym (times_places n H (take m p) k.distinct k.below t.0 x t.2)
    ∙ t.3 x h

-- ---- the loop of the build, by elimination

module _ (r n : ℕ) (H : Matrix) (f j : ℕ) (order : List ℕ) where
  arrange_stop : j ≡ r → arrange r n H f j order ≡ record { kept = j; order = order }
  unfolding arrange
  arrange_stop e = go f
    where
      go : (f : ℕ) → arrange r n H f j order ≡ record { kept = j; order = order }
      go zero = refl
      go (suc f) = rw (eq-eqb j r e, arrange)

  arrange_back : (j ≡ r → ⊥) → in_span r n H (take j order) (column H (get_or order j 0)) ≡ true
      → arrange r n H (suc f) j order ≡ arrange r n H f j (swap j (j + f) order)
  unfolding arrange
  arrange_back m e = rw (ne_eqb j r m, e, arrange)

  arrange_next : (j ≡ r → ⊥) → in_span r n H (take j order) (column H (get_or order j 0)) ≡ false → arrange r n H (suc f) j order
      ≡ arrange r n H f (suc j) order
  unfolding arrange
  arrange_next m e = rw (ne_eqb j r m, e, arrange)

module _ (r n : ℕ) (H : Matrix) (start : List ℕ) where
  -- suc f columns, at the places j .. j + f of the order, are still to be tried; A is H after row operations
  pub record State (f j : ℕ) (order : List ℕ) (A : Matrix) : Type 0 where
    pub todo : arranged r n H start ≡ arrange r n H f j order
    pub order_ok : Order n order
    pub kept : Kept r n H (take j order)
    pub lowered : Lowered r n H A (take j order)
    pub room : j + f ≤ n
    pub rest : Rest r n H f j order

  pub begin : Order n start → State n 0 start H
  unfolding arranged
  begin o = record {
    todo = refl;
    order_ok = o;
    kept = empty_kept r n H;
    lowered = start_lowered r n H;
    room = omega arith;
    rest = λ i h l. absurd (omega arith);
  }

  module _ (f j : ℕ) (order : List ℕ) (A : Matrix) (t : State (suc f) j order A) (more : j ≡ r → ⊥) where
    size : length (take j order) ≡ j
    size = length-take-le j order (omega (arith, t.order_ok.size, t.room))

    low : get_or order j 0 < n
    low = (order_good n order t.order_ok).1 (get_or order j 0) (elem_at order j (omega (arith, t.order_ok.size, t.room)))

    -- the column at j is 0 in the rows from j on: it changes places with the column at j + f
    pub turned : ((i : ℕ) → j ≤ i → i < r → A i (get_or order j 0) ≡ t0) → State f j (swap j (j + f) order) A
    turned z =
        record {
          todo = t.todo ∙ step;
          order_ok = b.0;
          kept = b.1;
          lowered = subst (λ l. Lowered r n H A l) (sym same) t.lowered;
          room = omega (arith, t.room);
          rest = b.2;
        }
      where
        «in» : in_span r n H (take j order) (column H (get_or order j 0)) ≡ true
        «in» = test_in r n H A (take j order) t.kept t.lowered (get_or order j 0) low (λ i h l. z i (omega (arith, size)) l)

        step : arrange r n H (suc f) j order ≡ arrange r n H f j (swap j (j + f) order)
        step = arrange_back r n H f j order more «in»

        b : Order n (swap j (j + f) order) × Kept r n H (take j (swap j (j + f) order)) × Rest r n H f j (swap j (j + f) order)
        b = back r n H f j order t.order_ok t.kept t.room t.rest «in»

        same : take j (swap j (j + f) order) ≡ take j order
        same = take-set-le j (set order j (get_or order (j + f) 0)) (j + f) (get_or order j 0) (omega arith)
            ∙ take-set-le j order j (get_or order (j + f) 0) (omega arith)

    -- it has a trit in row a that is not 0: row a comes to j and the column is cleared below it
    pub taken : (a : ℕ) → j ≤ a → a < r → is_set (A a (get_or order j 0)) ≡ true → State f (suc j) order (pivoted j (get_or order j 0) a A)
    taken a la ha z =
        let b = next r n H f j order t.order_ok t.kept t.room t.rest out in
        record {
          todo = t.todo ∙ arrange_next r n H f j order more out;
          order_ok = t.order_ok;
          kept = b.0;
          lowered = cleared;
          room = omega (arith, t.room);
          rest = b.1;
        }
      where
        out : in_span r n H (take j order) (column H (get_or order j 0)) ≡ false
        out = test_out r n H A (take j order) t.kept t.lowered (get_or order j 0) low a (omega (arith, size)) ha z

        cleared : Lowered r n H (pivoted j (get_or order j 0) a A) (take (suc j) order)
        cleared =
            subst (λ l. Lowered r n H (pivoted j (get_or order j 0) a A) l) (sym (take-suc order j 0 (omega (arith, t.order_ok.size, t.room))))
            (subst (λ m. Lowered r n H (pivoted m (get_or order j 0) a A) (take j order ++ (get_or order j 0 ∷ []))) size
            (stepped_lowered r n H A (take j order) t.lowered (get_or order j 0) a (omega (arith, size)) ha z))

  -- a column is left to try as long as too few are kept
  pub left : Reaches r n H → (f j : ℕ) (order : List ℕ) (A : Matrix) → State f j order A → (j ≡ r → ⊥) → f ≡ 0 → ⊥
  left a zero j order A t more e = more (ended r n H j order a t.order_ok t.kept (omega (arith, t.room)) t.rest)
  left a (suc f) j order A t more e = omega arith

  -- the end: the order is the one that the definition gives
  pub finished : (f : ℕ) (order : List ℕ) (A : Matrix) → State f r order A → arranged r n H start ≡ record { kept = r; order = order }
  finished f order A t = t.todo ∙ arrange_stop r n H f r order refl
