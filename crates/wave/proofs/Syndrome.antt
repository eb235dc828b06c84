-- The syndrome under a built key says what the secret matrix says. Assumes nothing.
use mathlib.Core.Path.{◌≡◌, sym, ap, ap₂, ◌∙◌}
use mathlib.Core.Logic.{◌↔◌}
use mathlib.Core.List.{List}
use Prim.Native.Nat.{ℕ, ◌+◌, ◌<◌}
use native.Mathlib.Omega.{arith}
use lib.ListN.{length, get_or, take}
use lib.Seq.{get_or-take, length-take-le}
use Rattle.trits.specs.Trit.{Trit, t2, add_t, mul_t, dot_v}
use Rattle.trits.proofs.Arithmetic.{add_zero_r, add_neg}
use Rattle.trits.proofs.Products.{dot_zero}
use Rattle.matrix.specs.Linear.{Vector, Matrix, zeros, times}
use Rattle.matrix.proofs.Field.{sub_zero_eq}
use Rattle.matrix.proofs.Dots.{dot_left, dot_right, dot_comm, dot_add, dot_mul, dot_swap, dot_split}
use Rattle.matrix.proofs.Dimension.{Injective}
use Rattle.matrix.proofs.Places.{columns_at, fill_at}
use Rattle.matrix.proofs.Greedy.{kept_injective}
use Rattle.matrix.proofs.Orders.{order_good, dot_order}
use Rattle.verdict.specs.Verdict.{Key, times_key, syndrome, HasSyndrome}
use Rattle.scheme.specs.Secret.{join}
use Rattle.scheme.specs.Build.{Arrangement, row_of_r}
use Rattle.scheme.specs.Draw.{placed}
use Rattle.scheme_laws.proofs.Pairs.{join_low, join_high}
use Rattle.scheme_laws.proofs.Build.{Arranged, row_column}

module _ (m k n : ℕ) (H : Matrix) (a : Arrangement) (size : m + k ≡ n) (g : Arranged m n H a) where
  abbrev p : List ℕ
  p = a.order

  placed_times : (e : Vector) (x : ℕ) → times n H (placed p e) x ≡ dot_v (columns_at H p x) e n
  placed_times e x =
      dot_order n p (H x) (placed p e) g.order
      ∙ dot_right n (columns_at H p x) (λ i. placed p e (get_or p i 0)) e
      (λ i l. fill_at p e zeros i (order_good n p g.order).0 (omega (arith, g.order.size)))

  -- a word goes where its syndrome goes by the kept columns
  pub syndrome_times : (e : Vector) (x : ℕ) → x < m → times n H (placed p e) x ≡ times m (columns_at H p) (syndrome m k (row_of_r m n H p) e) x
  unfolding syndrome times_key
  syndrome_times e x h =
      placed_times e x
      ∙ ap (dot_v c e) (sym size)
      ∙ dot_split m k c e
      ∙ ap (add_t (dot_v c e m))
      (dot_left k (λ i. c (m + i)) (λ i. dot_v c (R i) m) t (λ i l. sym (row_column m n H p g.kept (omega (arith, g.order.size, g.fits)) i x h))
      ∙ sym (dot_swap m k c t (λ j i. R i j))
      ∙ dot_right m c (λ j. dot_v (λ i. R i j) t k) (λ j. dot_v t (λ i. R i j) k) (λ j l. dot_comm k (λ i. R i j) t))
      ∙ sym (dot_add m c e (λ j. dot_v t (λ i. R i j) k))
    where
      R : Key
      R = row_of_r m n H p

      c : Vector
      c = columns_at H p x

      t : Vector
      t i = e (m + i)

  kept_first : Injective m m (columns_at H p)
  kept_first w v j h =
      kept_injective m n H (take m p) g.kept w (λ x l. ap (dot_v (columns_at H (take m p) x) w) first
      ∙ dot_left m (columns_at H (take m p) x) (columns_at H p x) w (λ j o. ap (H x) (get_or-take m p j 0 o)) ∙ v x l) j (rw first h)
    where
      first : length (take m p) ≡ m
      first = length-take-le m p (omega (arith, g.order.size, g.fits))

  -- (y, 0...0) has the syndrome y
  start_times : (y : Vector) (x : ℕ) → x < m → times n H (placed p (join m y zeros)) x ≡ times m (columns_at H p) y x
  unfolding syndrome times_key
  start_times y x h = syndrome_times (join m y zeros) x h ∙ dot_right m (columns_at H p x) (syndrome m k (row_of_r m n H p) (join m y zeros)) y plain
    where
      plain : (j : ℕ) → j < m → add_t (join m y zeros j) (dot_v (λ i. join m y zeros (m + i)) (λ i. row_of_r m n H p i j) k) ≡ y j
      plain j l =
          ap₂ add_t (join_low m y zeros j l) (dot_zero k (λ i. join m y zeros (m + i)) (λ i. row_of_r m n H p i j)
          (λ i o. ap (λ (x : Trit). mul_t x (row_of_r m n H p i j)) (join_high m y zeros i)))
          ∙ add_zero_r (y j)

  -- a word has the syndrome y exactly when the secret matrix takes it where it takes (y, 0...0)
  pub syndrome_iff : (y e : Vector)
      → HasSyndrome m k (row_of_r m n H p) e y ↔ ((x : ℕ) → x < m → times n H (placed p e) x ≡ times n H (placed p (join m y zeros)) x)
  syndrome_iff y e = (
    (λ c x h. syndrome_times e x h ∙ dot_right m (columns_at H p x) S y c ∙ sym (start_times y x h)),
    λ c j h. sub_zero_eq (S j) (y j)
        (kept_first (λ j. add_t (S j) (mul_t t2 (y j)))
        (λ x l. dot_add m (columns_at H p x) S (λ j. mul_t t2 (y j))
        ∙ ap₂ add_t (sym (syndrome_times e x l) ∙ c x l ∙ start_times y x l) (dot_mul m t2 (columns_at H p x) y)
        ∙ add_neg (times m (columns_at H p) y x)) j h),
  )
    where
      S : Vector
      S = syndrome m k (row_of_r m n H p) e
