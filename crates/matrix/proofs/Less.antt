-- A row less a combination of other rows, which clears a stretch of columns at once: it is what the steps make of it one after another. Assumes nothing.
use mathlib.Core.Path.{◌≡◌, refl, sym, ap, ap₂, ◌∙◌}
use Prim.Native.Nat.{ℕ, suc, ◌<◌}
use native.Mathlib.Omega.{arith}
use native.Mathlib.Decide.{ℕ_discrete}
use borrow.Author.Tests.{eq-eqb, ne_eqb}
use lib.Dec.{T}
use Rattle.trits.specs.Trit.{Trit, t0, t1, add_t, sub_t, mul_t, put_v, dot_v}
use Rattle.trits.proofs.Products.{dot_zero}
use Rattle.trits.proofs.Arithmetic.{at, every, eq_t, add_zero_r, add_neg, mul_comm, mul-zero}
use Rattle.matrix.specs.Linear.{Vector, zeros, Matrix}
use Rattle.matrix.specs.Blocks.{less_of, grown, UnitAt}
use Rattle.matrix.proofs.Field.{law4, mul-one}
use Rattle.matrix.proofs.Dots.{dot_comm, dot_left, dot_less, dot_unit, put_same, put_other}

-- an equation in five trits
law5 : (f g : Trit → Trit → Trit → Trit → Trit → Trit) → T (every (λ b. every (λ a. every (λ x. every (λ y. every (λ z. eq_t (f b a x y z) (g b a x y z)))))))
    → (b a x y z : Trit) → f b a x y z ≡ g b a x y z
law5 f g h b = law4 (f b) (g b) (at (λ b. every (λ a. every (λ x. every (λ y. every (λ z. eq_t (f b a x y z) (g b a x y z)))))) h b)

module _ (k : ℕ) (q : ℕ → ℕ) (b : Matrix) where
  -- the next step of the elimination, on a row that the rows so far were taken from
  pub less_more : (p v : Vector) (t : ℕ) → less_of (suc k) q (grown k q b p) v t ≡ sub_t (less_of k q b v t) (mul_t (less_of k q b v (q k)) (p t))
  unfolding dot_v
  less_more p v t =
      ap₂ (λ (x y : Trit). sub_t (v t) (add_t x (mul_t (v (q k)) y))) old (rw (eq-eqb k k refl))
      ∙ law5 (λ a s x y m. sub_t a (add_t (sub_t s (mul_t x y)) (mul_t m x))) (λ a s x y m. sub_t (sub_t a s) (mul_t (sub_t m y) x)) tt (v t)
      (dot_v (λ j. v (q j)) (λ j. b j t) k) (p t) (dot_v (λ j. v (q j)) (λ j. b j (q k)) k) (v (q k))
    where
      u : Vector
      u j = v (q j)

      old : dot_v u (λ j. grown k q b p j t) k ≡ sub_t (dot_v u (λ j. b j t) k) (mul_t (p t) (dot_v u (λ j. b j (q k)) k))
      old =
          dot_comm k u (λ j. grown k q b p j t)
          ∙ dot_left k (λ j. grown k q b p j t) (λ j. sub_t (b j t) (mul_t (p t) (b j (q k)))) u
          (λ j h. rw (ne_eqb j k (λ z. omega arith)) (ap (sub_t (b j t)) (mul_comm (b j (q k)) (p t))))
          ∙ dot_less k (p t) (λ j. b j t) (λ j. b j (q k)) u
          ∙ ap₂ (λ (x y : Trit). sub_t x (mul_t (p t) y)) (dot_comm k (λ j. b j t) u) (dot_comm k (λ j. b j (q k)) u)

  -- where v and the rows are 0, it is
  pub less_none : (v : Vector) (t : ℕ) → v t ≡ t0 → ((j : ℕ) → j < k → b j t ≡ t0) → less_of k q b v t ≡ t0
  less_none v t z y = ap₂ sub_t z (dot_zero k (λ j. v (q j)) (λ j. b j t) (λ j h. ap (mul_t (v (q j))) (y j h) ∙ mul-zero (v (q j))))

  module _ (e : UnitAt k q b) where
    -- the columns are cleared
    pub less_zero : (v : Vector) (l : ℕ) → l < k → less_of k q b v (q l) ≡ t0
    less_zero v l h =
        ap (sub_t (v (q l)))
        (dot_comm k (λ j. v (q j)) (λ j. b j (q l))
        ∙ dot_left k (λ j. b j (q l)) (λ j. put_v zeros j t1 l) (λ j. v (q j)) (λ j g. e j l g h ∙ swapped j)
        ∙ dot_unit k l (λ j. v (q j)) h)
        ∙ add_neg (v (q l))
      where
        swapped : (j : ℕ) → put_v zeros l t1 j ≡ put_v zeros j t1 l
        swapped j = by (ℕ_discrete j l)
          where
            by : Dec (j ≡ l) → put_v zeros l t1 j ≡ put_v zeros j t1 l
            by (yes z) = rw z
            by (no f) = put_other zeros l t1 j f ∙ sym (put_other zeros j t1 l (λ z. f (sym z)))

    -- once is enough
    pub less_twice : (v : Vector) (t : ℕ) → less_of k q b (less_of k q b v) t ≡ less_of k q b v t
    less_twice v t =
        ap (sub_t (less_of k q b v t)) (dot_zero k (λ j. less_of k q b v (q j)) (λ j. b j t) (λ j h. ap (λ (x : Trit). mul_t x (b j t)) (less_zero v j h)))
        ∙ add_zero_r (less_of k q b v t)

    -- a row that is 0 at the columns and 1 at the next makes them one more
    pub unit_more : (p : Vector) → p (q k) ≡ t1 → ((l : ℕ) → l < k → p (q l) ≡ t0) → UnitAt (suc k) q (grown k q b p)
    unit_more p one none j l h g = by (ℕ_discrete j k) (ℕ_discrete l k)
      where
        by : Dec (j ≡ k) → Dec (l ≡ k) → grown k q b p j (q l) ≡ put_v zeros l t1 j
        by (yes z) (yes y) = rw (eq-eqb j k z) (ap (λ (n : ℕ). p (q n)) y ∙ one ∙ sym (put_same zeros l t1) ∙ ap (put_v zeros l t1) (y ∙ sym z))
        by (yes z) (no f) = rw (eq-eqb j k z) (none l (omega arith) ∙ sym (put_other zeros l t1 j (λ y. f (sym y ∙ z))))
        by (no f) (yes y) =
            rw (ne_eqb j k f)
            (ap₂ (λ (x z : Trit). sub_t x (mul_t (b j (q k)) z)) (ap (λ (n : ℕ). b j (q n)) y) (ap (λ (n : ℕ). p (q n)) y ∙ one)
            ∙ ap (sub_t (b j (q k))) (mul-one (b j (q k))) ∙ add_neg (b j (q k)) ∙ sym (put_other zeros l t1 j (λ z. f (z ∙ y))))
        by (no f) (no n) =
            rw (ne_eqb j k f)
            (ap (λ (z : Trit). sub_t (b j (q l)) (mul_t (b j (q k)) z)) (none l (omega arith)) ∙ ap (sub_t (b j (q l))) (mul-zero (b j (q k)))
            ∙ add_zero_r (b j (q l)) ∙ e j l (omega arith) (omega arith))
