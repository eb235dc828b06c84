-- The columns kept are independent and reach what all those tried reach; so the rank is full
-- exactly when everything is reached, in whatever order. Assumes nothing.
use mathlib.Core.Path.{◌≡◌, refl, sym, ap, ap₂, ◌∙◌}
use mathlib.Core.Bool.{Bool, true, false, ◌||◌, true≢false}
use mathlib.Core.Logic.{◌⊎◌, inl, inr, ◌↔◌}
use mathlib.Core.List.{List, [], ◌∷◌, ◌++◌, append_assoc, append-nil}
use Prim.Native.Nat.{ℕ, ◌≤◌, ◌<◌}
use native.Mathlib.Omega.{arith}
use borrow.Author.Tests.{eqb-true, eqb-false, ne_eqb}
use lib.Dec.{eqb}
use lib.ListN.{length, get_or}
use Rattle.trits.specs.Trit.{t0, t1, add_t, neg_t, mul_t, put_v, is_set}
use Rattle.trits.proofs.Arithmetic.{add_zero_r, mul_comm, mul-zero}
use Rattle.trits.proofs.Products.{dot_zero}
use Rattle.matrix.specs.Linear.{Vector, zeros, Matrix, column, times, elem, fill, in_span, keep, pivots, rank}
use Rattle.matrix.specs.Orders.{Distinct}
use Rattle.matrix.proofs.Field.{mul-one, square, solved, zero_or, refuted}
use Rattle.matrix.proofs.Dots.{put_same, put_other, dot_put, dot_add, dot_mul}
use Rattle.matrix.proofs.Dimension.{Injective, injective_few, injective_reaches, reaches_many}
use Rattle.matrix.proofs.Places.{Below, Supported, or_false_left, or_false_right, or_true_right, or_cases, false_or_false, elem_append, elem_here}
use Rattle.matrix.proofs.Places.{columns_at, times_places, times_fill, fill_at, fill_off}
use Rattle.matrix.proofs.Search.{Spans, in_span_iff}

pub bool_cases : (b : Bool) → (b ≡ true) ⊎ (b ≡ false)
bool_cases true = inl refl
bool_cases false = inr refl

pub times_remove : (n : ℕ) (H : Matrix) (w : Vector) (p i : ℕ) → p < n → times n H w i ≡ add_t (mul_t (H i p) (w p)) (times n H (put_v w p t0) i)
times_remove n H w p i h = dot_put n (H i) w p h

pub times_unit : (n : ℕ) (H : Matrix) (p i : ℕ) → p < n → times n H (put_v zeros p t1) i ≡ H i p
times_unit n H p i h =
    times_remove n H (put_v zeros p t1) p i h
    ∙ ap₂ add_t (ap (mul_t (H i p)) (put_same zeros p t1) ∙ mul-one (H i p))
    (dot_zero n (H i) (put_v (put_v zeros p t1) p t0) (λ q k. ap (mul_t (H i q)) (none q (eqb q p) refl) ∙ mul-zero (H i q)))
    ∙ add_zero_r (H i p)
  where
    none : (q : ℕ) (t : Bool) → eqb q p ≡ t → put_v (put_v zeros p t1) p t0 q ≡ t0
    none q true e = rw e
    none q false e = rw e

-- only the vector of zeros, of those that are 0 off the list, is taken to 0
abbrev pub Independent : ℕ → ℕ → Matrix → List ℕ → Type 0
Independent r n H ps = (w : Vector) → Supported ps w → ((i : ℕ) → i < r → times n H w i ≡ t0) → (q : ℕ) → w q ≡ t0

pub record Kept (r n : ℕ) (H : Matrix) (ps : List ℕ) : Type 0 where
  pub independent : Independent r n H ps
  pub distinct : Distinct ps
  pub below : Below n ps

distinct_snoc : (ps : List ℕ) (p : ℕ) → Distinct ps → elem p ps ≡ false → Distinct (ps ++ (p ∷ []))
distinct_snoc [] p d e = (refl, tt)
distinct_snoc (q ∷ ps) p d e = (
  elem_append q ps (p ∷ []) ∙ false_or_false (elem q ps) (elem q (p ∷ [])) d.0
      (false_or_false (eqb q p) false (ne_eqb q p (λ z. eqb-false p q (or_false_left (eqb p q) (elem p ps) e) (sym z))) refl),
  distinct_snoc ps p d.1 (or_false_right (eqb p q) (elem p ps) e),
)

module _ (r n : ℕ) (H : Matrix) where
  pub empty_kept : Kept r n H []
  empty_kept = record { independent = λ w z v q. z q refl; distinct = tt; below = λ q e. absurd (true≢false (sym e)) }

  pub unit_spans : (ps : List ℕ) (p : ℕ) → p < n → elem p ps ≡ true → Spans r n H ps (column H p)
  unit_spans ps p h e = (put_v zeros p t1, (λ q k. put_other zeros p t1 q (λ z. true≢false (sym e ∙ (rw z at k)))), λ i k. times_unit n H p i h)

  -- a vector over the kept places and one more
  over : (kept : List ℕ) (p : ℕ) (w : Vector) → Supported (kept ++ (p ∷ [])) w → Supported kept (put_v w p t0)
  over kept p w z q e = go (eqb q p) refl
    where
      go : (t : Bool) → eqb q p ≡ t → put_v w p t0 q ≡ t0
      go true k = rw k
      go false k = put_other w p t0 q (eqb-false q p k)
          ∙ z q (elem_append q kept (p ∷ []) ∙ false_or_false (elem q kept) (elem q (p ∷ [])) e (false_or_false (eqb q p) false k refl))

  pub grow : (kept : List ℕ) (p : ℕ) → p < n → Kept r n H kept → in_span r n H kept (column H p) ≡ false → Kept r n H (kept ++ (p ∷ []))
  grow kept p h k e =
      record {
        independent = λ w z v. go w z v (zero_or (w p));
        distinct = distinct_snoc kept p k.distinct (fresh (elem p kept) refl);
        below = λ q m. low q (or_cases (elem q kept) (elem q (p ∷ [])) (sym (elem_append q kept (p ∷ [])) ∙ m));
      }
    where
      outside : Spans r n H kept (column H p) → ⊥
      outside s = true≢false (sym ((in_span_iff r n H kept (column H p)).1 s) ∙ e)

      fresh : (t : Bool) → elem p kept ≡ t → elem p kept ≡ false
      fresh true m = absurd (outside (unit_spans kept p h m))
      fresh false m = m

      low : (q : ℕ) → (elem q kept ≡ true) ⊎ (elem q (p ∷ []) ≡ true) → q < n
      low q (inl m) = k.below q m
      low q (inr m) = last (or_cases (eqb q p) false m)
        where
          last : (eqb q p ≡ true) ⊎ (false ≡ true) → q < n
          last (inl m) = rw (eqb-true q p m) h
          last (inr m) = absurd (true≢false (sym m))

      go : (w : Vector) → Supported (kept ++ (p ∷ [])) w → ((i : ℕ) → i < r → times n H w i ≡ t0) → (w p ≡ t0) ⊎ (is_set (w p) ≡ true) → (q : ℕ) → w q ≡ t0
      go w z v (inl a) = k.independent w small v
        where
          small : Supported kept w
          small q m = at q m (eqb q p) refl
            where
              at : (q : ℕ) → elem q kept ≡ false → (t : Bool) → eqb q p ≡ t → w q ≡ t0
              at q m true b = rw (eqb-true q p b) a
              at q m false b = sym (put_other w p t0 q (eqb-false q p b)) ∙ over kept p w z q m
      go w z v (inr a) = absurd (outside (
        (λ q. mul_t (neg_t (w p)) (put_v w p t0 q)),
        (λ q m. ap (mul_t (neg_t (w p))) (over kept p w z q m) ∙ mul-zero (neg_t (w p))),
        λ i l. dot_mul n (neg_t (w p)) (H i) (put_v w p t0)
            ∙ solved (times n H (put_v w p t0) i) (w p) (H i p) (square (w p) a) (sym (times_remove n H w p i h) ∙ v i l),
      ))

  pub keep_in : (kept : List ℕ) (p : ℕ) (ps : List ℕ) → in_span r n H kept (column H p) ≡ true → keep r n H kept (p ∷ ps) ≡ keep r n H kept ps
  unfolding keep
  keep_in kept p ps e = rw (e, keep)

  pub keep_out : (kept : List ℕ) (p : ℕ) (ps : List ℕ) → in_span r n H kept (column H p) ≡ false → keep r n H kept (p ∷ ps) ≡ keep r n H (kept ++ (p ∷ [])) ps
  unfolding keep
  keep_out kept p ps e = rw (e, keep)

  pub keep_kept : (ps kept : List ℕ) → Below n ps → Kept r n H kept → Kept r n H (keep r n H kept ps)
  unfolding keep
  keep_kept [] kept b k = k
  keep_kept (p ∷ ps) kept b k = go (keep_kept ps) (bool_cases (in_span r n H kept (column H p)))
    where
      rest : Below n ps
      rest q e = b q (or_true_right (eqb q p) (elem q ps) e)

      go : ((kept : List ℕ) → Below n ps → Kept r n H kept → Kept r n H (keep r n H kept ps))
          → (in_span r n H kept (column H p) ≡ true) ⊎ (in_span r n H kept (column H p) ≡ false) → Kept r n H (keep r n H kept (p ∷ ps))
      go ih (inl e) = rw (keep_in kept p ps e) (ih kept rest k)
      go ih (inr e) = rw (keep_out kept p ps e) (ih (kept ++ (p ∷ [])) rest (grow kept p (b p (elem_here p ps)) k e))

  pub keep_elem : (ps kept : List ℕ) (q : ℕ) → elem q (keep r n H kept ps) ≡ true → elem q (kept ++ ps) ≡ true
  unfolding keep
  keep_elem [] kept q m = rw append-nil m
  keep_elem (p ∷ ps) kept q m = go (keep_elem ps) (bool_cases (in_span r n H kept (column H p)))
    where
      go : ((kept : List ℕ) (q : ℕ) → elem q (keep r n H kept ps) ≡ true → elem q (kept ++ ps) ≡ true)
          → (in_span r n H kept (column H p) ≡ true) ⊎ (in_span r n H kept (column H p) ≡ false) → elem q (kept ++ (p ∷ ps)) ≡ true
      go ih (inl e) =
          let k : elem q (kept ++ ps) ≡ true = ih kept q (rw (keep_in kept p ps e) at m) in
          elem_append q kept (p ∷ ps) ∙ more (elem q kept) (elem q ps) (eqb q p) (sym (elem_append q kept ps) ∙ k)
        where
          more : (a b c : Bool) → (a || b) ≡ true → (a || (c || b)) ≡ true
          more true b c h = refl
          more false b c h = or_true_right c b h
      go ih (inr e) = rw append_assoc at (ih (kept ++ (p ∷ [])) q (rw (keep_out kept p ps e) at m))

  -- what the places tried reach, the kept ones reach
  pub keep_reach : (ps kept : List ℕ) → Below n ps → (w : Vector) → Supported (kept ++ ps) w
      → (u : Vector) × Supported (keep r n H kept ps) u × ((i : ℕ) → i < r → times n H u i ≡ times n H w i)
  unfolding keep
  keep_reach [] kept b w z = (w, (rw append-nil at z), λ i h. refl)
  keep_reach (p ∷ ps) kept b w z = go (keep_reach ps) (bool_cases (in_span r n H kept (column H p)))
    where
      rest : Below n ps
      rest q e = b q (or_true_right (eqb q p) (elem q ps) e)

      go : ((kept : List ℕ) → Below n ps → (w : Vector) → Supported (kept ++ ps) w → (u : Vector) × Supported (keep r n H kept ps) u
          × ((i : ℕ) → i < r → times n H u i ≡ times n H w i))
          → (in_span r n H kept (column H p) ≡ true) ⊎ (in_span r n H kept (column H p) ≡ false)
          → (u : Vector) × Supported (keep r n H kept (p ∷ ps)) u × ((i : ℕ) → i < r → times n H u i ≡ times n H w i)
      go ih (inl e) =
          let s = (in_span_iff r n H kept (column H p)).0 e in
          let v : Vector = λ q. add_t (mul_t (w p) (s.0 q)) (put_v w p t0 q) in
          let t = ih kept rest v (small s) in (
            t.0,
            (rw (keep_in kept p ps e) t.1),
            λ i h. t.2 i h
                ∙ dot_add n (H i) (λ q. mul_t (w p) (s.0 q)) (put_v w p t0)
                ∙ ap (λ x. add_t x (times n H (put_v w p t0) i)) (dot_mul n (w p) (H i) s.0 ∙ ap (mul_t (w p)) (s.2 i h) ∙ mul_comm (w p) (H i p))
                ∙ sym (times_remove n H w p i (b p (elem_here p ps))),
          )
        where
          small : (s : Spans r n H kept (column H p)) → Supported (kept ++ ps) (λ q. add_t (mul_t (w p) (s.0 q)) (put_v w p t0 q))
          small s q m =
              let m' : (elem q kept || elem q ps) ≡ false = sym (elem_append q kept ps) ∙ m in
              ap₂ add_t (ap (mul_t (w p)) (s.1 q (or_false_left (elem q kept) (elem q ps) m')) ∙ mul-zero (w p)) (at q m' (eqb q p) refl)
            where
              at : (q : ℕ) → (elem q kept || elem q ps) ≡ false → (t : Bool) → eqb q p ≡ t → put_v w p t0 q ≡ t0
              at q m true k = rw k
              at q m false k =
                  put_other w p t0 q (eqb-false q p k)
                  ∙ z q (elem_append q kept (p ∷ ps) ∙ false_or_false (elem q kept) (elem q (p ∷ ps)) (or_false_left (elem q kept) (elem q ps) m)
                  (false_or_false (eqb q p) (elem q ps) k (or_false_right (elem q kept) (elem q ps) m)))
      go ih (inr e) =
          let t = ih (kept ++ (p ∷ [])) rest w (rw append_assoc z) in
          (t.0, (rw (keep_out kept p ps e) t.1), t.2)

  pub pivots_kept : (ps : List ℕ) → Below n ps → Kept r n H (pivots r n H ps)
  unfolding pivots
  pivots_kept ps b = keep_kept ps [] b empty_kept

  pub pivots_elem : (ps : List ℕ) (q : ℕ) → elem q (pivots r n H ps) ≡ true → elem q ps ≡ true
  unfolding pivots
  pivots_elem ps q m = keep_elem ps [] q m

  -- independent columns are the rows' number or fewer; if as many, they reach everything
  pub kept_injective : (ps : List ℕ) → Kept r n H ps → Injective r (length ps) (columns_at H ps)
  kept_injective ps k w v j h =
      sym (fill_at ps w zeros j k.distinct h)
      ∙ k.independent (fill ps w zeros) (λ q e. fill_off ps w zeros q e) (λ i l. times_fill n H ps k.distinct k.below w i ∙ v i l) (get_or ps j 0)

  pub kept_few : (ps : List ℕ) → Kept r n H ps → length ps ≤ r
  kept_few ps k = injective_few r (length ps) (columns_at H ps) (kept_injective ps k)

  pub kept_spans : (ps : List ℕ) → Kept r n H ps → length ps ≡ r → (v : Vector) → Spans r n H ps v
  kept_spans ps k e v =
      let a : Injective r r (columns_at H ps) = rw e at (kept_injective ps k) in
      let s = injective_reaches r (columns_at H ps) a v in (
        fill ps s.0 zeros,
        (λ q m. fill_off ps s.0 zeros q m),
        λ i h. times_fill n H ps k.distinct k.below s.0 i ∙ rw e (s.1 i h),
      )

  pub spans_many : (ps : List ℕ) → Distinct ps → Below n ps → ((v : Vector) → Spans r n H ps v) → r ≤ length ps
  spans_many ps d b s =
      reaches_many r (length ps) (columns_at H ps) (λ v. ((λ j. (s v).0 (get_or ps j 0)), λ i h. sym (times_places n H ps d b (s v).0 i (s v).1) ∙ (s v).2 i h))

  -- more places reach more
  pub spans_mono : (ps qs : List ℕ) (v : Vector) → ((q : ℕ) → elem q ps ≡ true → elem q qs ≡ true) → Spans r n H ps v → Spans r n H qs v
  spans_mono ps qs v f s = (s.0, (λ q m. s.1 q (refuted (elem q ps) (λ e. true≢false (sym (f q e) ∙ m)))), s.2)

  -- the rank is full exactly when everything is reached; the right side does not speak of an order
  pub rank_iff : (ps : List ℕ) → Below n ps → (rank r n H ps ≡ r) ↔ ((v : Vector) → Spans r n H ps v)
  unfolding rank pivots
  rank_iff ps b = (
    (λ e v. spans_mono (pivots r n H ps) ps v (pivots_elem ps) (kept_spans (pivots r n H ps) (pivots_kept ps b) e v)),
    λ s. go (pivots_kept ps b) (λ v. let t = keep_reach ps [] b (s v).0 (s v).1 in (t.0, t.1, λ i h. t.2 i h ∙ (s v).2 i h)),
  )
    where
      go : Kept r n H (pivots r n H ps) → ((v : Vector) → Spans r n H (pivots r n H ps) v) → length (pivots r n H ps) ≡ r
      go k s = omega (arith, kept_few (pivots r n H ps) k, spans_many (pivots r n H ps) k.distinct k.below s)
