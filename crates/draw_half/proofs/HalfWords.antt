-- The word of one half: what is solved for by position, and placed back, is the word of the definition. Assumes nothing.
use mathlib.Core.Path.{◌≡◌, refl, sym, ap, ap₂, ◌∙◌}
use mathlib.Core.Bool.{Bool, true, false, cond, true≢false}
use mathlib.Core.List.{List, ◌++◌, map}
use Prim.Native.Nat.{ℕ, zero, suc, ◌+◌, ◌-◌, ◌≤◌, ◌<◌}
use native.Mathlib.Decide.{dec_lt}
use native.Mathlib.Omega.{arith}
use borrow.Author.Tests.{eq-eqb, ne_eqb, eqb-true, lt-ltb, le-ltb}
use lib.Dec.{eqb, ltb}
use lib.ListN.{length, get_or, take, drop, length-map, length-drop, take-append-drop}
use lib.Seq.{length-take-le, get_or-drop}
use Rattle.trits.specs.Trit.{t0, t1, sub_t, put_v, dot_v, zip_v, up_to}
use Rattle.trits.proofs.Ends.{upto_out}
use Rattle.matrix.specs.Linear.{Vector, Matrix, zeros, times, solve, or_zeros, elem, pivots, rank, without, fill, range}
use Rattle.matrix.specs.Orders.{Order}
use Rattle.matrix.specs.Steps.{eliminated, first_set, backed}
use Rattle.matrix.proofs.Dots.{put_same, put_other}
use Rattle.matrix.proofs.Places.{elem_past, fill_at, fill_off}
use Rattle.matrix.proofs.Greedy.{pivots_kept, pivots_elem}
use Rattle.matrix.proofs.Orders.{order_good, elem_index}
use Rattle.matrix.proofs.Counts.{without_out}
use Rattle.matrix.proofs.Field.{refuted}
use Rattle.matrix.proofs.Kept.{eliminated_lowered}
use Rattle.matrix.proofs.Values.{back_solves}
use Rattle.matrix.proofs.FirstPart.{Image, map_range, range_below}
use Rattle.matrix.proofs.KnownPart.{order_apart, last_not_first, Carries, backed_alike, fill_holds}
use Rattle.matrix.proofs.Fills.{fill_either, fill_append, fill_map, without_append, without_apart}
use Rattle.grid.specs.Steps.{put_row}
use Rattle.grid.proofs.RowParts.{put_here, put_else}
use Rattle.scheme.specs.declared.sizes.Sizes.{Sizes}
use Rattle.scheme.specs.Sizes.{half, ru, rv, gap_u, gap_v}
use Rattle.scheme.specs.Secret.{Secret}
use Rattle.scheme.specs.Draw.{Choices, pivots_v, supplied_v, draw_v, pivots_u, supplied_u, draw_u, forced_by}
use Rattle.scheme_laws.proofs.Draws.{parts, first_below, last_in}
use Rattle.draw_walk.specs.Walks.{passed, pivot_place, firsts_of, lasts_of}
use Rattle.draw_walk.proofs.Walked.{walk_taken, walk_passed, passed_image}
use Rattle.draw_walk.proofs.Filled.{put_again}
use Rattle.draw_walk.proofs.Supplied.{walk_length, passed_below}
use Rattle.draw_half.specs.Steps.{Ends, word_v, word_u, half_word, LoweredFirst, marked, solved_first, completed, Solved, SolvedWhere}

-- ---- the words are those of a draw

pub word_draw_v : (z : Sizes) (s : Secret) (x : Vector) (ch : Choices) → word_v (rv z) (half z) s.hv ch.order_v (gap_v z) ch.trits_v x ≡ draw_v z s x ch
unfolding word_v draw_v pivots_v supplied_v
word_draw_v z s x ch = refl

pub word_draw_u : (z : Sizes) (s : Secret) (x e_v : Vector) (ch : Choices)
    → word_u (ru z) (half z) s.hu s.b s.c ch.order_u (gap_u z) ch.values_u e_v x ≡ draw_u z s x e_v ch
unfolding word_u draw_u pivots_u supplied_u
word_draw_u z s x e_v ch = refl

-- a row that holds the places below n alone
pub upto_ends : (n : ℕ) (x : Vector) → Ends n (up_to n x)
upto_ends n x = record { past = λ q h. upto_out x n q h }

-- ---- the answer

module _ {count k r : ℕ} (e : count ≡ k) where
  pub lacks_rank : (count ≡ r → ⊥) → false ≡ eqb k r
  lacks_rank f = sym (ne_eqb k r (λ z. f (e ∙ z)))

  pub has_rank : count ≡ r → true ≡ eqb k r
  has_rank f = sym (eq-eqb k r (sym e ∙ f))

pub not_solved : {r t e : ℕ} {A B : Matrix} {v : Vector} → SolvedWhere false r t e A B v
not_solved = record { solved = λ z. absurd (true≢false (sym z)) }

pub is_solved : {r t e : ℕ} {A B : Matrix} {v : Vector} → Solved r t e A B v → SolvedWhere true r t e A B v
is_solved h = record { solved = λ z. h }

-- ---- the first part is solved by position

-- the first c rows are all that is read
same_rows : (n : ℕ) (A B : Matrix) (ps : List ℕ) (c : ℕ) (u : Vector) → ((i : ℕ) → i < c → A i ≡ B i)
    → backed n A (pivot_place A ps) c u ≡ backed n B (pivot_place B ps) c u
unfolding backed
same_rows n A B ps zero u e = refl
same_rows n A B ps (suc c) u e =
    same_rows n A B ps c (put_v u (pivot_place A ps c) (sub_t (u (pivot_place A ps c)) (times n A u c))) (λ i h. e i (omega arith))
    ∙ ap (λ (v : Vector). backed n B (pivot_place B ps) c (put_v u (first_set v (drop c ps)) (sub_t (u (first_set v (drop c ps))) (dot_v v u n))))
    (e c (omega arith))

-- the five matrices, one after another
module _ (M : Matrix) (N r : ℕ) (order : List ℕ) (m : ℕ) (v : Vector) (x t e : ℕ) (rt : r ≤ t) (xe : x ≡ e → ⊥) (te : t ≡ e → ⊥)
    (xt : x ≡ t → ⊥) where
  abbrev begins : Vector
  begins = marked m (length order) (firsts_of r M order m v (M x) (M t))

  abbrev ends : Vector
  ends = solved_first N r order m v x t M

  abbrev filled : Vector
  filled = fill (take m order) (solved_first N r order m v x t M) (M e)

  pub is_complete : {M₁ M₂ M₃ M₄ M₅ : Matrix} → M₁ ≡ put_row t (firsts_of r M order m v (M x) (M t)) M → M₂ ≡ put_row t (marked m (length order) (M₁ t)) M₁
      → M₃ ≡ put_row t (backed N M₂ (pivot_place M₂ (range m)) r (M₂ t)) M₂ → M₄ ≡ put_row e (fill (take m order) (M₃ t) (M₃ e)) M₃
      → M₅ ≡ put_row e (zip_v sub_t (M₄ x) (M₄ e)) M₄ → M₅ ≡ completed N r order m v x t e M
  is_complete {M₁} {M₂} {M₃} {M₄} {M₅} a b c d f =
      f
      ∙ ap₂ (λ (y z : Vector). put_row e (zip_v sub_t y z) M₄)
      (ap (λ (B : Matrix). B x) four ∙ put_else e filled (put_row t ends M) x xe ∙ put_else t ends M x xt)
      (ap (λ (B : Matrix). B e) four ∙ put_here e filled (put_row t ends M) e refl)
      ∙ ap (put_row e (zip_v sub_t (M x) filled)) four ∙ put_again e filled (put_row t ends M) (zip_v sub_t (M x) filled)
    where
      two : M₂ ≡ put_row t begins M
      two =
          b ∙ ap (λ (B : Matrix). put_row t (marked m (length order) (B t)) B) a
          ∙ ap (λ (u : Vector). put_row t (marked m (length order) u) (put_row t (firsts_of r M order m v (M x) (M t)) M))
          (put_here t (firsts_of r M order m v (M x) (M t)) M t refl)
          ∙ put_again t (firsts_of r M order m v (M x) (M t)) M begins

      solved : backed N M₂ (pivot_place M₂ (range m)) r (M₂ t) ≡ ends
      solved =
          ap (backed N M₂ (pivot_place M₂ (range m)) r) (ap (λ (B : Matrix). B t) two ∙ put_here t begins M t refl)
          ∙ same_rows N M₂ M (range m) r begins (λ i h. ap (λ (B : Matrix). B i) two ∙ put_else t begins M i (λ z. omega arith))

      three : M₃ ≡ put_row t ends M
      three = c ∙ ap₂ (λ (u : Vector) (B : Matrix). put_row t u B) solved two ∙ put_again t begins M ends

      four : M₄ ≡ put_row e filled (put_row t ends M)
      four =
          d ∙ ap (λ (B : Matrix). put_row e (fill (take m order) (B t) (B e)) B) three
          ∙ ap₂ (λ (y z : Vector). put_row e (fill (take m order) y z) (put_row t ends M)) (put_here t ends M t refl) (put_else t ends M e (λ z. te (sym z)))

-- ---- what is supplied

module _ (r : ℕ) (H : Matrix) (order : List ℕ) (o : Order (length order) order) (m : ℕ) (front : m ≤ length order) where
  abbrev n : ℕ
  n = length order

  abbrev piv : List ℕ
  piv = pivots r (length order) H (take m order)

  abbrev F : Matrix
  F = eliminated r H (take m order)

  module _ (full : rank r (length order) H (take m order) ≡ r) where
    full_pivots : length piv ≡ r
    unfolding rank
    full_pivots = full

    -- the places of the first part that are no pivot
    other_count : length (without piv (take m order)) ≡ m - r
    other_count =
        let t = ap (λ (l : List ℕ). length l) (walk_taken r n H (take m order) (first_below n m order o)) in
        let p = ap (λ (l : List ℕ). length l) (walk_passed r n H (take m order) (first_below n m order o) (parts n m order o).0) in
        omega (arith, t, p, walk_length r F 0 (take m order), full_pivots, length-take-le m order front)

    -- V: the whole order's places that are no pivot are those of the first part, and the last part
    pub supplied_v_here : (g : ℕ) (v : Vector) → m ≡ r + g
        → fill (without piv (take m order)) v (fill (drop m order) (λ j. v (g + j)) zeros) ≡ fill (without piv order) v zeros
    supplied_v_here g v e =
        let count : g ≡ length (without piv (take m order)) = omega (arith, other_count) in
        ap (λ (k : ℕ). fill (without piv (take m order)) v (fill (drop m order) (λ j. v (k + j)) zeros)) count
        ∙ sym (fill_append (without piv (take m order)) (drop m order) v zeros)
        ∙ ap (λ (l : List ℕ). fill l v zeros) (ap (λ (l : List ℕ). without piv (take m order) ++ l) (sym (without_apart piv (drop m order) apart))
        ∙ sym (without_append piv (take m order) (drop m order)) ∙ ap (without piv) (take-append-drop m order))
      where
        apart : (q : ℕ) → elem q (drop m order) ≡ true → elem q piv ≡ false
        apart q k = refuted (elem q piv) (λ i. true≢false (sym k ∙ (parts n m order o).2 q (pivots_elem r n H (take m order) q i)))

  -- U: the two parts may be filled in either order
  pub supplied_u_here : (u f : Vector) → fill (without piv (take m order)) u (fill (drop m order) f zeros)
      ≡ fill (drop m order) f (fill (without piv (take m order)) u zeros)
  supplied_u_here u f =
      sym (fill_either (without piv (take m order)) (drop m order) u f zeros (λ q k. (parts n m order o).2 q (without_out piv (take m order) q k).0))

-- ---- one half

-- row e of the last part is 0 past the places
pub made_ends : (A : Matrix) {A₁ : Matrix} (order : List ℕ) → Order (length order) order → (m x e : ℕ)
    → ((q : ℕ) → elem q (drop m order) ≡ false → A e q ≡ t0) → A₁ ≡ put_row e (lasts_of (drop m order) (A x) (A e)) A → Ends (length order) (A₁ e)
made_ends A {A₁} order o m x e last a = record {
  past = λ q h.
      let out = elem_past (length order) (drop m order) q (λ p k. (order_good (length order) order o).1 p (last_in (length order) m order o p k)) h in
      ap (λ (M : Matrix). M e q) a ∙ ap (λ (v : Vector). v q) (put_here e (lasts_of (drop m order) (A x) (A e)) A e refl)
      ∙ fill_off (drop m order) (λ j. sub_t (A x (get_or (drop m order) j 0)) (A e (get_or (drop m order) j 0))) (A e) q out ∙ last q out;
}

module _ (r : ℕ) (H A : Matrix) (order : List ℕ) (o : Order (length order) order) (m N : ℕ) (front : m ≤ length order) (fits : length order ≤ N) (x t e : ℕ)
    (rx : r + 243 ≤ x) (rt : r + 243 ≤ t) (re : r + 243 ≤ e) (xe : x ≡ e → ⊥) (te : t ≡ e → ⊥) (ends : Ends (length order) (A x)) (none : A t ≡ zeros)
    (last : (q : ℕ) → elem q (drop m order) ≡ false → A e q ≡ t0) where
  abbrev at : ℕ → ℕ
  at j = get_or order j 0

  abbrev z : Vector
  z = lasts_of (drop m order) (A x) (A e)

  -- no place of the first part is in the last, nor one past the places
  first_not_last : (j : ℕ) → j < m → elem (get_or order j 0) (drop m order) ≡ false
  first_not_last j h =
      refuted (elem (at j) (drop m order)) (λ k.
      let i = elem_index (at j) (drop m order) k in
      order_apart order o j (m + i.0) (omega arith) (omega (arith, i.1, length-drop m order)) (λ y. omega arith)
      (sym (sym (get_or-drop m order i.0 0) ∙ i.2)))

  past_not_last : (q : ℕ) → length order ≤ q → elem q (drop m order) ≡ false
  past_not_last q h = elem_past (length order) (drop m order) q (λ p k. (order_good (length order) order o).1 p (last_in (length order) m order o p k)) h

  first_zero : (j : ℕ) → j < m → z (get_or order j 0) ≡ t0
  first_zero j h = fill_off (drop m order) _ (A e) (at j) (first_not_last j h) ∙ last (at j) (first_not_last j h)

  past_zero : (q : ℕ) → length order ≤ q → z q ≡ t0
  past_zero q h = fill_off (drop m order) _ (A e) q (past_not_last q h) ∙ last q (past_not_last q h)

  last_value : (j : ℕ) → m ≤ j → j < length order → z (get_or order j 0) ≡ sub_t (A x (get_or order j 0)) (A e (get_or order j 0))
  last_value j h l =
      let D = drop m order in
      let val : Vector = λ i. sub_t (A x (get_or D i 0)) (A e (get_or D i 0)) in
      let k : m + (j - m) ≡ j = omega arith in
      let same : get_or D (j - m) 0 ≡ at j = get_or-drop m order (j - m) 0 ∙ ap at k in
      ap (fill D val (A e)) (sym same) ∙ fill_at D val (A e) (j - m) (parts (length order) m order o).1 (omega (arith, length-drop m order))
      ∙ ap (λ (q : ℕ). sub_t (A x q) (A e q)) same

  module _ {A₁ B : Matrix} (v : Vector) (a : A₁ ≡ put_row e (lasts_of (drop m order) (A x) (A e)) A) (low : LoweredFirst r m order H (A₁ e) A₁ B)
      (full : rank r (length order) H (take m order) ≡ r) where
    row_kept : (k : ℕ) → r + 243 ≤ k → (k ≡ e → ⊥) → B k ≡ A k
    row_kept k h f = low.kept k h ∙ ap (λ (M : Matrix). M k) a ∙ put_else e z A k f

    row_e : A₁ e ≡ z
    row_e = ap (λ (M : Matrix). M e) a ∙ put_here e z A e refl

    passed_first : without (piv r H order o m front) (take m order) ≡ map (λ j. get_or order j 0) (passed r B 0 (range m))
    passed_first =
        sym (walk_passed r (length order) H (take m order) (first_below (length order) m order o) (parts (length order) m order o).0)
        ∙ ap (passed r (eliminated r H (take m order)) 0) (sym (map_range order m front))
        ∙ passed_image r m (λ j. get_or order j 0) B (eliminated r H (take m order)) low.columns (range m) (range_below m) 0

    -- there are trits enough
    pub first_room : (M : ℕ) → m - r ≤ M → length (passed r B 0 (range m)) ≤ M
    first_room M h =
        omega (
          arith,
          other_count r H order o m front full,
          ap (λ (l : List ℕ). length l) passed_first,
          length-map (passed r B 0 (range m)) (λ j. get_or order j 0),
        )

    abbrev S : Vector
    S = fill (without (pivots r (length order) H (take m order)) (take m order)) v (A e)

    abbrev start : Vector
    start = marked m (length order) (firsts_of r B order m v (A x) zeros)

    -- what stands by position before the pivots are solved
    unmarked : (j : ℕ) → (j ≡ m → ⊥) → start j ≡ firsts_of r B order m v (A x) zeros j
    unmarked j f = by (ltb m (length order))
      where
        by : (b : Bool) → cond b (put_v (firsts_of r B order m v (A x) zeros) m t1) (firsts_of r B order m v (A x) zeros) j
            ≡ firsts_of r B order m v (A x) zeros j
        by true = put_other (firsts_of r B order m v (A x) zeros) m t1 j f
        by false = refl

    past_first : (j : ℕ) → m ≤ j → firsts_of r B order m v (A x) zeros j ≡ t0
    past_first j h = ap (λ (b : Bool). cond b (sub_t (A x (at j)) (fill (passed r B 0 (range m)) v zeros j)) t0) (le-ltb j m h)

    first_supplied : (j : ℕ) → j < m → S (get_or order j 0) ≡ fill (passed r B 0 (range m)) v zeros j
    first_supplied j h =
        ap (λ (l : List ℕ). fill l v (A e) (at j)) passed_first
        ∙ fill_map at (passed r B 0 (range m)) v (A e) j
        (λ p k f. order_apart order o p j (omega (arith, passed_below r B m 0 p k)) (omega arith) f) (last (at j) (first_not_last j h))

    holds : Carries order o m N front fits z start (zip_v sub_t (A x) S)
    holds = record {
      first = λ j h. unmarked j (λ y. omega arith)
          ∙ ap (λ (b : Bool). cond b (sub_t (A x (at j)) (fill (passed r B 0 (range m)) v zeros j)) t0) (lt-ltb j m h)
          ∙ ap (sub_t (A x (at j))) (sym (first_supplied j h));
      last = λ j h l. ap (sub_t (A x (at j))) (fill_off (without (pivots r (length order) H (take m order)) (take m order)) v (A e) (at j) (not_first j h l))
          ∙ sym (last_value j h l);
      one = λ h. ap (λ (b : Bool).
          cond b (put_v (firsts_of r B order m v (A x) zeros) m t1) (firsts_of r B order m v (A x) zeros) m) (lt-ltb m (length order) h)
          ∙ put_same (firsts_of r B order m v (A x) zeros) m t1;
      rest = λ j h l. rest j h l (dec_lt m (length order));
      past = λ q h. ap₂ sub_t (ends.past q h) (fill_off (without (pivots r (length order) H (take m order)) (take m order)) v (A e) q (past_out q h)
          ∙ last q (past_not_last q h));
    }
      where
        not_first : (j : ℕ) → m ≤ j → j < length order → elem (get_or order j 0) (without (pivots r (length order) H (take m order)) (take m order)) ≡ false
        not_first j h l =
            refuted (elem (at j) (without (pivots r (length order) H (take m order)) (take m order))) (λ k.
            true≢false (sym (without_out (pivots r (length order) H (take m order)) (take m order) (at j) k).0 ∙ last_not_first order o m j h l))

        past_out : (q : ℕ) → length order ≤ q → elem q (without (pivots r (length order) H (take m order)) (take m order)) ≡ false
        past_out q h =
            elem_past (length order) (without (pivots r (length order) H (take m order)) (take m order)) q
            (λ p k. first_below (length order) m order o p (without_out (pivots r (length order) H (take m order)) (take m order) p k).0) h

        rest : (j : ℕ) → m ≤ j → (m < length order → m < j) → Dec (m < length order) → start j ≡ t0
        rest j h l (yes k) = unmarked j (λ y. omega (arith, l k)) ∙ past_first j h
        rest j h l (no f) =
            ap (λ (b : Bool). cond b (put_v (firsts_of r B order m v (A x) zeros) m t1) (firsts_of r B order m v (A x) zeros) j)
            (le-ltb m (length order) (omega arith))
            ∙ past_first j h

    word : zip_v sub_t (A x) (fill (take m order) (backed N B (pivot_place B (range m)) r start) z) ≡ half_word r (length order) H order m v (A e) (A x)
    unfolding half_word
    word =
        ap (zip_v sub_t (A x)) (fill_holds order o m N front fits z (backed N B (pivot_place B (range m)) r start)
        (backed (length order) F' (λ c. get_or piv' c 0) r (zip_v sub_t (A x) S)) past_zero
        (backed_alike order o m N front fits z r B F' image first_zero (pivot_place B (range m)) (λ c. get_or piv' c 0) (low.pivot full) r (omega arith) start
        (zip_v sub_t (A x) S) holds))
        ∙ sym (ap or_zeros (back_solves r (length order) H F' piv' (pivots_kept r (length order) H (take m order) below)
        (eliminated_lowered r (length order) H (take m order) below) (full_pivots r H order o m front full) (A x) S))
      where
        F' : Matrix
        F' = eliminated r H (take m order)

        piv' : List ℕ
        piv' = pivots r (length order) H (take m order)

        below : (q : ℕ) → elem q (take m order) ≡ true → q < length order
        below = first_below (length order) m order o

        image : Image r (length order) m (λ j. get_or order j 0) (lasts_of (drop m order) (A x) (A e)) B (eliminated r H (take m order))
        image = record {
          columns = low.columns;
          known = λ l i h. low.known l i h ∙ ap (λ (u : Vector). times (length order) (eliminated r H (take m order)) u i) row_e;
        }

    -- the last matrix
    pub half_done : {C : Matrix} → C ≡ completed N r order m v x t e B → Solved r t e A C (half_word r (length order) H order m v (A e) (A x))
    half_done {C} c = record {
      word = ap (λ (M : Matrix). M e) c ∙ put_here e _ (put_row t (solved_first N r order m v x t B) B) e refl
          ∙ ap₂ (λ (y s : Vector). zip_v sub_t y (fill (take m order) (backed N B (pivot_place B (range m)) r (marked m (length order) s)) (B e)))
          (row_kept x rx xe) (ap₂ (λ (y s : Vector). firsts_of r B order m v y s) (row_kept x rx xe) (row_kept t rt te ∙ none))
          ∙ ap (λ (u : Vector). zip_v sub_t (A x) (fill (take m order) (backed N B (pivot_place B (range m)) r start) u))
          (low.kept e re ∙ row_e) ∙ word;
      kept = λ k h f y. ap (λ (M : Matrix). M k) c ∙ put_else e _ (put_row t (solved_first N r order m v x t B) B) k f
          ∙ put_else t (solved_first N r order m v x t B) B k y ∙ row_kept k h f;
    }

-- ---- the rows before it

-- rows t and e were made, and then the half was solved
module _ (A : Matrix) (t e : ℕ) (y u : Vector) {A₁ A₂ : Matrix} (te : t ≡ e → ⊥) (a : A₁ ≡ put_row t y A) (b : A₂ ≡ put_row e u A₁) where
  pub row_before : (k : ℕ) → (k ≡ e → ⊥) → (k ≡ t → ⊥) → A₂ k ≡ A k
  row_before k f h = ap (λ (M : Matrix). M k) b ∙ put_else e u A₁ k f ∙ ap (λ (M : Matrix). M k) a ∙ put_else t y A k h

  pub row_t : A₂ t ≡ y
  row_t = ap (λ (M : Matrix). M t) b ∙ put_else e u A₁ t te ∙ ap (λ (M : Matrix). M t) a ∙ put_here t y A t refl

  pub row_made : A₂ e ≡ u
  row_made = ap (λ (M : Matrix). M e) b ∙ put_here e u A₁ e refl

  solved_before : {r : ℕ} {B : Matrix} {v w : Vector} {s : Bool} → SolvedWhere s r t e A₂ B v → (s ≡ true → v ≡ w) → SolvedWhere s r t e A B w
  solved_before g d = record {
    solved = λ z. record {
      word = (g.solved z).word ∙ d z;
      kept = λ k h f y. (g.solved z).kept k h f y ∙ row_before k f y;
    };
  }

-- a row that is as another ends where it does
pub ends_row : {n : ℕ} {u v : Vector} → v ≡ u → Ends n u → Ends n v
ends_row e k = record { past = λ q h. ap (λ (w : Vector). w q) e ∙ k.past q h }

-- row e, which was 0, is 0 off the places that were filled
pub last_alone : (A : Matrix) (t e : ℕ) (ps : List ℕ) (v : Vector) {A₁ A₂ : Matrix} → (t ≡ e → ⊥) → A e ≡ zeros → A₁ ≡ put_row t zeros A
    → A₂ ≡ put_row e (fill ps v (A₁ e)) A₁ → (q : ℕ) → elem q ps ≡ false → A₂ e q ≡ t0
last_alone A t e ps v {A₁} te z a b q h =
    ap (λ (u : Vector). u q) (row_made A t e zeros (fill ps v (A₁ e)) te a b) ∙ fill_off ps v (A₁ e) q h
    ∙ ap (λ (u : Vector). u q) (ap (λ (M : Matrix). M e) a ∙ put_else t zeros A e (λ y. te (sym y)) ∙ z)

-- both halves: row t is made 0, and the last part put in row e
module _ (r g : ℕ) (H A : Matrix) (order : List ℕ) (o : Order (length order) order) (front : r + g ≤ length order) (x t e : ℕ) (xe : x ≡ e → ⊥)
    (te : t ≡ e → ⊥) (xt : x ≡ t → ⊥) (none : A e ≡ zeros) where
  -- what row e and row x hold
  module _ (f : Vector) {A₁ A₂ : Matrix} (a : A₁ ≡ put_row t zeros A) (b : A₂ ≡ put_row e (fill (drop (r + g) order) f (A₁ e)) A₁) where
    last_row : A₂ e ≡ fill (drop (r + g) order) f zeros
    last_row =
        row_made A t e zeros (fill (drop (r + g) order) f (A₁ e)) te a b
        ∙ ap (fill (drop (r + g) order) f) (ap (λ (M : Matrix). M e) a ∙ put_else t zeros A e (λ y. te (sym y)) ∙ none)

    half_of : (v : Vector) → half_word r (length order) H order (r + g) v (A₂ e) (A₂ x)
        ≡ half_word r (length order) H order (r + g) v (fill (drop (r + g) order) f zeros) (A x)
    half_of v =
        ap₂ (half_word r (length order) H order (r + g) v) last_row (row_before A t e zeros (fill (drop (r + g) order) f (A₁ e)) te a b x xe xt)

  pub solved_v : (v : Vector) {A₁ A₂ B : Matrix} {s : Bool} → A₁ ≡ put_row t zeros A → A₂ ≡ put_row e (fill (drop (r + g) order) (λ j. v (g + j)) (A₁ e)) A₁
      → s ≡ eqb (rank r (length order) H (take (r + g) order)) r
      → SolvedWhere s r t e A₂ B (half_word r (length order) H order (r + g) v (A₂ e) (A₂ x))
      → SolvedWhere s r t e A B (word_v r (length order) H order g v (A x))
  unfolding half_word word_v
  solved_v v {A₁} a b c k =
      solved_before A t e zeros (fill (drop (r + g) order) (λ j. v (g + j)) (A₁ e)) te a b k
      (λ y. half_of (λ j. v (g + j)) a b v
      ∙ ap (λ (w : Vector). or_zeros (solve r (length order) H (times (length order) H (A x)) (pivots r (length order) H (take (r + g) order)) w))
      (supplied_v_here r H order o (r + g) front (eqb-true (rank r (length order) H (take (r + g) order)) r (sym c ∙ y)) g v refl))

  pub solved_u : (b c u : Vector) (ev : ℕ) → (ev ≡ t → ⊥) → {A₁ A₂ B : Matrix} {s : Bool} → A₁ ≡ put_row t zeros A
      → A₂ ≡ put_row e (fill (drop (r + g) order) (λ j. forced_by b c (A₁ ev) (get_or (drop (r + g) order) j 0) (u (g + j))) (A₁ e)) A₁
      → SolvedWhere s r t e A₂ B (half_word r (length order) H order (r + g) u (A₂ e) (A₂ x))
      → SolvedWhere s r t e A B (word_u r (length order) H b c order g u (A ev) (A x))
  unfolding half_word word_u
  solved_u b c u ev ne {A₁} a d k =
      solved_before A t e zeros (fill (drop (r + g) order) (forces A₁) (A₁ e)) te a d k
      (λ y. half_of (forces A₁) a d u
      ∙ ap (λ (w : Vector). or_zeros (solve r (length order) H (times (length order) H (A x)) (pivots r (length order) H (take (r + g) order)) w))
      (supplied_u_here r H order o (r + g) front u (forces A₁)
      ∙ ap (λ (w : Vector). fill (drop (r + g) order) (λ j. forced_by b c w (get_or (drop (r + g) order) j 0) (u (g + j)))
      (fill (without (pivots r (length order) H (take (r + g) order)) (take (r + g) order)) u zeros))
      (ap (λ (M : Matrix). M ev) a ∙ put_else t zeros A ev ne)))
    where
      forces : Matrix → Vector
      forces M j = forced_by b c (M ev) (get_or (drop (r + g) order) j 0) (u (g + j))
