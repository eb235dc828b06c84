-- Rank and span: the kept columns reach what all those tried reach, they are the rows' number or fewer, and their number depends on no order. Assumes nothing.
use mathlib.Core.Path.{◌≡◌, refl, sym, ap, ◌∙◌}
use mathlib.Core.Bool.{Bool, true, false, true≢false}
use mathlib.Core.Logic.{◌↔◌}
use mathlib.Core.List.{List, []}
use mathlib.Core.Option.{Option}
use Prim.Native.Nat.{ℕ, ◌≤◌, ◌<◌}
use native.Mathlib.Omega.{arith}
use native.Mathlib.Decide.{dec_lt}
use borrow.Author.Tests.{leb-true, leb-false}
use lib.Dec.{leb}
use lib.ListN.{length, get_or}
use Rattle.trits.specs.Trit.{t0, mul_t, dot_v, up_to}
use Rattle.trits.proofs.Ends.{upto_in, upto_out}
use Rattle.trits.proofs.Arithmetic.{mul-zero}
use Rattle.trits.proofs.Products.{dot_zero}
use Rattle.matrix.specs.Linear.{Vector, Matrix, zeros, column, times, elem, solve, or_zeros, pivots, rank, range}
use Rattle.matrix.proofs.Field.{set_not}
use Rattle.matrix.proofs.Dots.{dot_left, dot_right, dot_swap}
use Rattle.matrix.proofs.Dimension.{Reaches, dependent}
use Rattle.matrix.proofs.Places.{Below, columns_at, times_places, elem_at}
use Rattle.matrix.proofs.Search.{Spans, solve_sound, solve_complete}
use Rattle.matrix.proofs.Greedy.{Kept, pivots_kept, pivots_elem, unit_spans, keep_reach, kept_injective, kept_few, rank_iff}
use Rattle.matrix.proofs.Orders.{order_good}
use Rattle.matrix.proofs.Counts.{Within, range_order}

module _ (r n : ℕ) (H : Matrix) where
  -- what the places tried reach, the pivots reach
  pub pivots_reach : (ps : List ℕ) → Below n ps → (v : Vector) → Spans r n H ps v → Spans r n H (pivots r n H ps) v
  unfolding pivots
  pivots_reach ps b v s = let t = keep_reach r n H ps [] b s.0 s.1 in (t.0, t.1, λ i h. t.2 i h ∙ s.2 i h)

  -- at most r columns are independent
  pub rank_most : (ps : List ℕ) → Below n ps → rank r n H ps ≤ r
  unfolding rank
  rank_most ps b = kept_few r n H (pivots r n H ps) (pivots_kept r n H ps b)

  -- independent columns that others reach are no more than those
  pub exchange : (ps qs : List ℕ) → Kept r n H ps → Kept r n H qs → ((p : ℕ) → elem p ps ≡ true → Spans r n H qs (column H p)) → length ps ≤ length qs
  exchange ps qs k l s = go (leb (length ps) (length qs)) refl
    where
      X : Matrix
      X j i = or_zeros (solve r n H (column H (get_or ps i 0)) qs zeros) (get_or qs j 0)

      reached : (x i : ℕ) → x < r → i < length ps → dot_v (columns_at H qs x) (λ j. X j i) (length qs) ≡ columns_at H ps x i
      reached x i h b =
          let t = s (get_or ps i 0) (elem_at ps i b) in
          let u = solve_complete r n H (column H (get_or ps i 0)) qs zeros t.0 t.1 t.2 in
          let w = solve_sound r n H (column H (get_or ps i 0)) qs zeros u.0 u.1 in
          ap (λ (o : Option Vector). dot_v (columns_at H qs x) (λ j. or_zeros o (get_or qs j 0)) (length qs)) u.1
          ∙ sym (times_places n H qs l.distinct l.below u.0 x w.0) ∙ w.1 x h

      go : (t : Bool) → leb (length ps) (length qs) ≡ t → length ps ≤ length qs
      go true e = leb-true (length ps) (length qs) e
      go false e =
          let d = dependent (length ps) (length qs) X (leb-false (length ps) (length qs) e) in
          absurd (set_not d.nonzero (kept_injective r n H ps k d.w (λ x h.
          dot_left (length ps) (columns_at H ps x) (λ i. dot_v (columns_at H qs x) (λ j. X j i) (length qs)) d.w (λ i b. sym (reached x i h b))
          ∙ sym (dot_swap (length qs) (length ps) (columns_at H qs x) d.w X)
          ∙ dot_zero (length qs) (columns_at H qs x) (times (length ps) X d.w)
          (λ j b. ap (mul_t (columns_at H qs x j)) (d.vanishes j b) ∙ mul-zero (columns_at H qs x j)))
          d.place d.below))

  -- more places, no smaller rank
  pub rank_mono : (ps qs : List ℕ) → Below n ps → Below n qs → Within ps qs → rank r n H ps ≤ rank r n H qs
  unfolding rank
  rank_mono ps qs b c w =
      exchange (pivots r n H ps) (pivots r n H qs) (pivots_kept r n H ps b) (pivots_kept r n H qs c)
      (λ p m. let e = w p (pivots_elem r n H ps p m) in pivots_reach qs c (column H p) (unit_spans r n H qs p (c p e) e))

  -- the rank depends on the places alone, not on their order
  pub rank_order : (ps qs : List ℕ) → Below n ps → Below n qs → Within ps qs → Within qs ps → rank r n H ps ≡ rank r n H qs
  rank_order ps qs b c v w = omega (arith, rank_mono ps qs b c v, rank_mono qs ps c b w)

  -- full rank of all columns: everything is reached, and the other way round
  pub full_reaches : (rank r n H (range n) ≡ r) ↔ Reaches r n H
  full_reaches = (
    (λ e v. let s = (rank_iff r n H (range n) all).0 e v in (s.0, s.2)),
    λ s. (rank_iff r n H (range n) all).1 (λ v. below v (s v)),
  )
    where
      all : Below n (range n)
      all = (order_good n (range n) (range_order n)).1

      below : (v : Vector) → (w : Vector) × ((i : ℕ) → i < r → times n H w i ≡ v i) → Spans r n H (range n) v
      below v t = (
        up_to n t.0,
        (λ q m. by q m (dec_lt q n)),
        λ i h. dot_right n (H i) (up_to n t.0) t.0 (upto_in t.0 n) ∙ t.1 i h,
      )
        where
          by : (q : ℕ) → elem q (range n) ≡ false → Dec (q < n) → up_to n t.0 q ≡ t0
          by q m (yes l) = absurd (true≢false (sym ((range_order n).every q l) ∙ m))
          by q m (no l) = upto_out t.0 n q (omega arith)
