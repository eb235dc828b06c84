-- The two passes of elimination: the first brings the kept columns to 1 on the diagonal and 0 below, the last to the
-- identity; the rows span what they spanned, and show what is in the span of the kept columns. Assumes nothing.
use mathlib.Core.Path.{◌≡◌, refl, sym, ap, ap₂, ◌∙◌}
use mathlib.Core.Bool.{Bool, true, false, cond}
use mathlib.Core.Logic.{◌⊎◌, inl, inr, ◌↔◌}
use mathlib.Core.List.{List, [], ◌∷◌, ◌++◌}
use mathlib.Core.Option.{Option, some}
use Prim.Native.Nat.{ℕ, zero, suc, ◌≤◌, ◌<◌}
use native.Mathlib.Decide.{ℕ_discrete, dec_lt}
use native.Mathlib.Omega.{arith}
use borrow.Author.Tests.{eqb-true, eqb-false, lt-ltb, le-ltb, ltb-true, ltb-false}
use lib.Dec.{eqb, ltb}
use lib.ListN.{length, get_or, length-append, get_or-append}
use lib.Seq.{get_or-append_seam}
use Rattle.trits.specs.Trit.{Trit, t0, t1, sub_t, mul_t, put_v, is_set}
use Rattle.trits.proofs.Arithmetic.{add_zero_r, add_neg, mul-zero}
use Rattle.trits.proofs.Products.{dot_zero}
use Rattle.matrix.specs.Linear.{Vector, zeros, Matrix, column, times, fill, solve, or_zeros, in_span}
use Rattle.matrix.specs.Passes.{SameSpan, Lowered, Reduced}
use Rattle.matrix.specs.Steps.{swap_rows, scale_row, take_above, pivoted, raised}
use Rattle.matrix.proofs.Field.{mul-one, set_not}
use Rattle.matrix.proofs.Dots.{put_same, put_other, dot_left, dot_unit}
use Rattle.matrix.proofs.Places.{columns_at, times_places, times_fill, fill_at, fill_off}
use Rattle.matrix.proofs.Search.{Spans, in_span_iff}
use Rattle.matrix.proofs.Greedy.{Kept, bool_cases, times_unit, kept_few}
use Rattle.matrix.proofs.Solutions.{solve_is}
use Rattle.matrix.proofs.Steps.{pivoted_above, pivoted_one, pivoted_below}
use Rattle.matrix.proofs.RowSpan.{Same, Alike, span_refl, span_trans, span_swap, span_scale, span_below, span_above, span_alike}

-- ---- a reduced matrix

module _ (r n : ℕ) (H A : Matrix) (ps : List ℕ) (k : Kept r n H ps) (d : Reduced r n H A ps) where
  alike : Alike r n H A
  alike = span_alike r n H A d.span

  -- a vector over the kept places, times A: its own trits, then zeros
  reduced_low : (a : Vector) (i : ℕ) → i < r → i < length ps → times (length ps) (columns_at A ps) a i ≡ a i
  reduced_low a i h l =
      dot_left (length ps) (columns_at A ps i) (λ c. put_v zeros c t1 i) a (λ c b. d.unit c i b h) ∙ dot_unit (length ps) i a l

  reduced_high : (a : Vector) (i : ℕ) → i < r → length ps ≤ i → times (length ps) (columns_at A ps) a i ≡ t0
  reduced_high a i h l =
      dot_zero (length ps) (columns_at A ps i) a (λ c b. ap (λ x. mul_t x (a c)) (d.unit c i b h ∙ put_other zeros c t1 i (λ z. omega arith)))

  column_fill : (q : ℕ) → q < n → ((i : ℕ) → length ps ≤ i → i < r → A i q ≡ t0) → Same r n A (fill ps (column A q) zeros) (put_v zeros q t1)
  column_fill q h z i l = times_fill n A ps k.distinct k.below (column A q) i ∙ go (ltb i (length ps)) refl ∙ sym (times_unit n A q i h)
    where
      go : (t : Bool) → ltb i (length ps) ≡ t → times (length ps) (columns_at A ps) (column A q) i ≡ A i q
      go true e = reduced_low (column A q) i l (ltb-true i (length ps) e)
      go false e = let b = ltb-false i (length ps) e in reduced_high (column A q) i l b ∙ sym (z i b l)

  -- the test for a column: is it 0 in the rows past the unit columns
  pub reduced_span : (q : ℕ) → q < n → Spans r n H ps (column H q) ↔ ((i : ℕ) → length ps ≤ i → i < r → A i q ≡ t0)
  reduced_span q h = (
    (λ s i l b.
        sym (times_unit n A q i h)
        ∙ sym ((alike s.0 (put_v zeros q t1)).0 (λ i l. s.2 i l ∙ sym (times_unit n H q i h)) i b)
        ∙ times_places n A ps k.distinct k.below s.0 i s.1
        ∙ reduced_high (λ j. s.0 (get_or ps j 0)) i b l),
    λ z. (
      fill ps (column A q) zeros,
      (λ t m. fill_off ps (column A q) zeros t m),
      λ i l. (alike (fill ps (column A q) zeros) (put_v zeros q t1)).1 (column_fill q h z) i l ∙ times_unit n H q i h,
    ),
  )

  -- the coefficients of a column in the kept ones stand in the reduced column
  pub reduced_column : length ps ≡ r → (q : ℕ) → q < n → solve r n H (column H q) ps zeros ≡ some (fill ps (column A q) zeros)
  reduced_column full q h =
      solve_is r n H ps k (column H q) (fill ps (column A q) zeros) zeros (λ t m. fill_off ps (column A q) zeros t m)
      (λ i l. (alike (fill ps (column A q) zeros) (put_v zeros q t1)).1 (column_fill q h (λ i a b. absurd (omega arith))) i l ∙ times_unit n H q i h)

-- the identity at the kept places and the span of the rows leave one matrix, however it is reached
pub reduced_one : (r n : ℕ) (H A B : Matrix) (ps : List ℕ) → Kept r n H ps → Reduced r n H A ps → Reduced r n H B ps → length ps ≡ r
    → (c q : ℕ) → c < r → q < n → A c q ≡ B c q
reduced_one r n H A B ps k a b full c q h l =
    sym (fill_at ps (column A q) zeros c k.distinct (omega arith))
    ∙ ap (λ (o : Option Vector). or_zeros o (get_or ps c 0)) (sym (reduced_column r n H A ps k a full q l) ∙ reduced_column r n H B ps k b full q l)
    ∙ fill_at ps (column B q) zeros c k.distinct (omega arith)

-- ---- the last pass

module _ (ps : List ℕ) where
  -- the rows from c on stay
  pub raise_rest : (c : ℕ) (A : Matrix) (i t : ℕ) → c ≤ i → raised ps c A i t ≡ A i t
  unfolding raised
  raise_rest zero A i t h = refl
  raise_rest (suc c) A i t h = raise_rest c (take_above c (get_or ps c 0) A) i t (omega arith) ∙ rw (le-ltb i c (omega arith))

  pub raise_span : (r n c : ℕ) (A : Matrix) → c ≤ r → SameSpan r n A (raised ps c A)
  unfolding raised
  raise_span r n zero A h = span_refl r n A
  raise_span r n (suc c) A h =
      let B : Matrix = take_above c (get_or ps c 0) A in
      span_trans r n A B (raised ps c B) (span_above r n c (get_or ps c 0) A h) (raise_span r n c B (omega arith))

  -- where it stands: the kept columns from c on are unit columns, those before have 1 on the diagonal and 0 below
  record Raising (r c : ℕ) (A : Matrix) : Type 0 where
    unit : (d i : ℕ) → c ≤ d → d < length ps → i < r → A i (get_or ps d 0) ≡ put_v zeros d t1 i
    one : (d : ℕ) → d < c → A d (get_or ps d 0) ≡ t1
    none : (d i : ℕ) → d < c → d < i → i < r → A i (get_or ps d 0) ≡ t0

  module _ (r c : ℕ) (A : Matrix) (h : c < r) (l : c < length ps) (s : Raising r (suc c) A) where
    abbrev next : Matrix
    next = take_above c (get_or ps c 0) A

    -- a column that is 0 in row c stays
    above_keep : (i t : ℕ) → A c t ≡ t0 → take_above c (get_or ps c 0) A i t ≡ A i t
    above_keep i t z = by (ltb i c)
      where
        by : (b : Bool) → cond b (sub_t (A i t) (mul_t (A i (get_or ps c 0)) (A c t))) (A i t) ≡ A i t
        by true = ap (λ (x : Trit). sub_t (A i t) (mul_t (A i (get_or ps c 0)) x)) z ∙ ap (sub_t (A i t)) (mul-zero (A i (get_or ps c 0))) ∙ add_zero_r (A i t)
        by false = refl

    -- the column of row c becomes a unit column
    above_unit : (i : ℕ) → i < r → Dec (i < c) → Dec (i ≡ c) → take_above c (get_or ps c 0) A i (get_or ps c 0) ≡ put_v zeros c t1 i
    above_unit i m (yes b) e =
        rw (lt-ltb i c b, s.one c (omega arith), mul-one (A i (get_or ps c 0)))
        (add_neg (A i (get_or ps c 0)) ∙ sym (put_other zeros c t1 i (λ z. omega arith)))
    above_unit i m (no b) (yes e) = rw (e, le-ltb c c (omega arith)) (s.one c (omega arith) ∙ sym (put_same zeros c t1))
    above_unit i m (no b) (no f) =
        rw (le-ltb i c (omega arith))
        (s.none c i (omega arith) (omega (arith, f)) m ∙ sym (put_other zeros c t1 i f))

    raising_next : Raising r c next
    raising_next = record {
      unit = λ d i g k m. units d i g k m (ℕ_discrete d c);
      one = λ d g. above_keep d (get_or ps d 0) (s.none d c (omega arith) g h) ∙ s.one d (omega arith);
      none = λ d i g k m. above_keep i (get_or ps d 0) (s.none d c (omega arith) g h) ∙ s.none d i (omega arith) k m;
    }
      where
        units : (d i : ℕ) → c ≤ d → d < length ps → i < r → Dec (d ≡ c) → take_above c (get_or ps c 0) A i (get_or ps d 0) ≡ put_v zeros d t1 i
        units d i g k m (yes e) = rw e (above_unit i m (dec_lt i c) (ℕ_discrete i c))
        units d i g k m (no f) =
            above_keep i (get_or ps d 0) (s.unit d c (omega (arith, f)) k h ∙ put_other zeros d t1 c (λ z. f (sym z)))
            ∙ s.unit d i (omega (arith, f)) k m

  raise_unit : (r c : ℕ) (A : Matrix) → c ≤ r → c ≤ length ps → Raising r c A → Raising r 0 (raised ps c A)
  unfolding raised
  raise_unit r zero A h l s = s
  raise_unit r (suc c) A h l s = raise_unit r c (take_above c (get_or ps c 0) A) (omega arith) (omega arith) (raising_next r c A h l s)

-- 1 on the diagonal and 0 below become the identity
pub raise_reduced : (r n : ℕ) (H A : Matrix) (ps : List ℕ) → Lowered r n H A ps → length ps ≤ r → Reduced r n H (raised ps (length ps) A) ps
raise_reduced r n H A ps d f = record {
  span = span_trans r n H A (raised ps (length ps) A) d.span (raise_span ps r n (length ps) A f);
  unit = λ c i h l. (raise_unit ps r (length ps) A f (omega arith) (record {
    unit = λ c i h l m. absurd (omega arith);
    one = d.one;
    none = d.none;
  })).unit c i (omega arith) h l;
}

-- ---- the first pass

-- nothing is kept at first
pub start_lowered : (r n : ℕ) (H : Matrix) → Lowered r n H H []
start_lowered r n H = record { span = span_refl r n H; one = λ c h. absurd (omega arith); none = λ c i h l m. absurd (omega arith) }

-- one step: the pivot's row a comes to the place of the next kept row, and the column at q is cleared below it
module _ (r n : ℕ) (H A : Matrix) (ps : List ℕ) (d : Lowered r n H A ps) (q a : ℕ) (la : length ps ≤ a) (ha : a < r) (z : is_set (A a q) ≡ true) where
  -- the pivot's row at its place, and scaled
  abbrev scaled : Matrix
  scaled = scale_row (length ps) (A a q) (swap_rows (length ps) a A)

  abbrev stepped : Matrix
  stepped = pivoted (length ps) q a A

  -- below the diagonal of the columns kept before there is 0
  scaled_zero : (c i : ℕ) → c < length ps → c < i → i < r → scaled i (get_or ps c 0) ≡ t0
  scaled_zero c i h l m = go (eqb i (length ps)) refl (eqb i a) refl
    where
      none_at : (x : ℕ) → c < x → x < r → A x (get_or ps c 0) ≡ t0
      none_at x b e = d.none c x h b e

      go : (s : Bool) → eqb i (length ps) ≡ s → (t : Bool) → eqb i a ≡ t → scaled i (get_or ps c 0) ≡ t0
      go true e t f = rw e (ap (mul_t (A a q)) (none_at a (omega arith) ha) ∙ mul-zero (A a q))
      go false e true f = rw (e, f) (none_at (length ps) (omega arith) (omega arith))
      go false e false f = rw (e, f) (none_at i l m)

  pub stepped_lowered : Lowered r n H stepped (ps ++ (q ∷ []))
  stepped_lowered =
      record {
        span = span_trans r n H A stepped d.span
            (span_trans r n A (swap_rows (length ps) a A) stepped (span_swap (length ps) a r n A (omega arith) ha)
            (span_trans r n (swap_rows (length ps) a A) scaled stepped (span_scale r n (length ps) (A a q) (swap_rows (length ps) a A) z)
            (span_below r n (length ps) q scaled (omega arith))));
        one = λ c h. ones c (eqb c (length ps)) refl (omega (arith, h, length-append ps (q ∷ [])));
        none = λ c i h l m. nones c i l m (eqb c (length ps)) refl (omega (arith, h, length-append ps (q ∷ [])));
      }
    where
      last : (c : ℕ) → eqb c (length ps) ≡ true → get_or (ps ++ (q ∷ [])) c 0 ≡ q
      last c e = ap (λ x. get_or (ps ++ (q ∷ [])) x 0) (eqb-true c (length ps) e) ∙ get_or-append_seam ps q [] 0

      ones : (c : ℕ) (t : Bool) → eqb c (length ps) ≡ t → c ≤ length ps → stepped c (get_or (ps ++ (q ∷ [])) c 0) ≡ t1
      ones c true e h =
          ap₂ stepped (eqb-true c (length ps) e) (last c e) ∙ pivoted_one (length ps) q a A z
      ones c false e h =
          let b : c < length ps = omega (arith, eqb-false c (length ps) e) in
          ap (stepped c) (get_or-append ps (q ∷ []) 0 c b) ∙ pivoted_above (length ps) q a A c (get_or ps c 0) la b ∙ d.one c b

      nones : (c i : ℕ) → c < i → i < r → (t : Bool) → eqb c (length ps) ≡ t → c ≤ length ps → stepped i (get_or (ps ++ (q ∷ [])) c 0) ≡ t0
      nones c i l m true e h =
          ap (stepped i) (last c e) ∙ pivoted_below (length ps) q a A z i (omega (arith, eqb-true c (length ps) e))
      nones c i l m false e h =
          let b : c < length ps = omega (arith, eqb-false c (length ps) e) in
          ap (stepped i) (get_or-append ps (q ∷ []) 0 c b) ∙ by b (ltb (length ps) i)
        where
          by : c < length ps → (t : Bool)
              → cond t (sub_t (scaled i (get_or ps c 0)) (mul_t (scaled i q) (scaled (length ps) (get_or ps c 0)))) (scaled i (get_or ps c 0)) ≡ t0
          by b true =
              ap₂ (λ (x y : Trit). sub_t x (mul_t (scaled i q) y)) (scaled_zero c i b l m) (scaled_zero c (length ps) b b (omega arith))
              ∙ ap (sub_t t0) (mul-zero (scaled i q))
          by b false = scaled_zero c i b l m

-- the test for the span, in a matrix after the first pass: is the column 0 in the rows past the kept ones
module _ (r n : ℕ) (H A : Matrix) (ps : List ℕ) (k : Kept r n H ps) (d : Lowered r n H A ps) (q : ℕ) (h : q < n) where
  few : length ps ≤ r
  few = kept_few r n H ps k

  lowered_span : Spans r n H ps (column H q) ↔ ((i : ℕ) → length ps ≤ i → i < r → A i q ≡ t0)
  lowered_span =
      let s = reduced_span r n H (raised ps (length ps) A) ps k (raise_reduced r n H A ps d few) q h in (
        (λ t i l m. sym (raise_rest ps (length ps) A i q l) ∙ s.0 t i l m),
        λ z. s.1 (λ i l m. raise_rest ps (length ps) A i q l ∙ z i l m),
      )

  pub test_in : ((i : ℕ) → length ps ≤ i → i < r → A i q ≡ t0) → in_span r n H ps (column H q) ≡ true
  test_in z = (in_span_iff r n H ps (column H q)).1 (lowered_span.1 z)

  pub test_out : (a : ℕ) → length ps ≤ a → a < r → is_set (A a q) ≡ true → in_span r n H ps (column H q) ≡ false
  test_out a la ha z = go (bool_cases (in_span r n H ps (column H q)))
    where
      go : (in_span r n H ps (column H q) ≡ true) ⊎ (in_span r n H ps (column H q) ≡ false) → in_span r n H ps (column H q) ≡ false
      go (inl e) = absurd (set_not z (lowered_span.0 ((in_span_iff r n H ps (column H q)).0 e) a la ha))
      go (inr e) = e
