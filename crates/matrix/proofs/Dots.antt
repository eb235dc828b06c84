-- Laws of the product of two vectors (`dot_v`) over the places below n. Assumes nothing.
use mathlib.Core.Path.{◌≡◌, refl, sym, ap, ap₂, ◌∙◌, fun_ext}
use mathlib.Core.Bool.{Bool, true, false}
use Prim.Native.Nat.{ℕ, zero, suc, ◌+◌, ◌-◌, ◌≤◌, ◌<◌}
use native.Mathlib.Nat.{add-zero, add-suc}
use native.Mathlib.Omega.{arith}
use borrow.Author.Tests.{eqb-true, eqb-false, eq-eqb, ne_eqb}
use lib.Dec.{eqb}
use Rattle.trits.specs.Trit.{Trit, t0, t1, add_t, sub_t, mul_t, put_v, up_to, dot_v}
use Rattle.trits.proofs.Arithmetic.{add_zero_r, add_comm, add_assoc, mul_comm, mul-add, mul-zero}
use Rattle.trits.proofs.Products.{dot_zero}
use Rattle.trits.proofs.Ends.{upto_in}
use Rattle.matrix.specs.Linear.{Vector, Matrix, zeros, times}
use Rattle.matrix.proofs.Field.{add_left_comm, mul_left_comm, ring}

pub put_same : (w : Vector) (p : ℕ) (x : Trit) → put_v w p x p ≡ x
put_same w p x = rw (eq-eqb p p refl)

pub put_other : (w : Vector) (p : ℕ) (x : Trit) (q : ℕ) → (q ≡ p → ⊥) → put_v w p x q ≡ w q
put_other w p x q h = rw (ne_eqb q p h)

pub dot_cong : (n : ℕ) (u v u' v' : Vector) → ((i : ℕ) → i < n → mul_t (u i) (v i) ≡ mul_t (u' i) (v' i)) → dot_v u v n ≡ dot_v u' v' n
unfolding dot_v
dot_cong zero u v u' v' h = refl
dot_cong (suc n) u v u' v' h = ap₂ add_t (dot_cong n u v u' v' (λ i k. h i (omega arith))) (h n (omega arith))

-- one factor alone changes
pub dot_left : (n : ℕ) (u u' v : Vector) → ((i : ℕ) → i < n → u i ≡ u' i) → dot_v u v n ≡ dot_v u' v n
dot_left n u u' v h = dot_cong n u v u' v (λ i k. ap (λ (x : Trit). mul_t x (v i)) (h i k))

pub dot_right : (n : ℕ) (u v v' : Vector) → ((i : ℕ) → i < n → v i ≡ v' i) → dot_v u v n ≡ dot_v u v' n
dot_right n u v v' h = dot_cong n u v u v' (λ i k. ap (mul_t (u i)) (h i k))

-- no trit past the places counts
pub times_upto : (n : ℕ) (H : Matrix) (x : Vector) → times n H (up_to n x) ≡ times n H x
times_upto n H x = fun_ext (λ i. dot_right n (H i) (up_to n x) x (λ q h. upto_in x n q h))

pub dot_comm : (n : ℕ) (u v : Vector) → dot_v u v n ≡ dot_v v u n
dot_comm n u v = dot_cong n u v v u (λ i h. mul_comm (u i) (v i))

pub dot_zeros : (n : ℕ) (u : Vector) → dot_v u zeros n ≡ t0
dot_zeros n u = dot_zero n u zeros (λ i h. mul-zero (u i))

pub dot_add : (n : ℕ) (u v w : Vector) → dot_v u (λ i. add_t (v i) (w i)) n ≡ add_t (dot_v u v n) (dot_v u w n)
unfolding dot_v
dot_add zero u v w = refl
dot_add (suc n) u v w =
    ap₂ add_t (dot_add n u v w) (mul-add (u n) (v n) (w n)) ∙ four (dot_v u v n) (dot_v u w n) (mul_t (u n) (v n)) (mul_t (u n) (w n))
  where
    four : (a b c d : Trit) → add_t (add_t a b) (add_t c d) ≡ add_t (add_t a c) (add_t b d)
    four a b c d = add_assoc a b (add_t c d) ∙ ap (add_t a) (add_left_comm b c d) ∙ sym (add_assoc a c (add_t b d))

pub dot_mul : (n : ℕ) (x : Trit) (u v : Vector) → dot_v u (λ i. mul_t x (v i)) n ≡ mul_t x (dot_v u v n)
unfolding dot_v
dot_mul zero x u v = sym (mul-zero x)
dot_mul (suc n) x u v = rw (dot_mul n x u v, mul_left_comm (u n) x (v n)) (sym (mul-add x (dot_v u v n) (mul_t (u n) (v n))))

-- a product with the products of rows is a product with the products of columns
pub dot_swap : (m r : ℕ) (a u : Vector) (B : Matrix) → dot_v a (λ j. dot_v (B j) u r) m ≡ dot_v (λ k. dot_v a (λ j. B j k) m) u r
unfolding dot_v
dot_swap m zero a u B = dot_zeros m a
dot_swap m (suc r) a u B =
    dot_add m a (λ j. dot_v (B j) u r) (λ j. mul_t (B j r) (u r))
    ∙ ap₂ add_t (dot_swap m r a u B)
    (dot_right m a (λ j. mul_t (B j r) (u r)) (λ j. mul_t (u r) (B j r)) (λ j h. mul_comm (B j r) (u r))
    ∙ dot_mul m (u r) a (λ j. B j r) ∙ mul_comm (u r) (dot_v a (λ j. B j r) m))

pub dot_first : (n : ℕ) (u v : Vector) → dot_v u v (suc n) ≡ add_t (mul_t (u 0) (v 0)) (dot_v (λ i. u (suc i)) (λ i. v (suc i)) n)
unfolding dot_v
dot_first zero u v = sym (add_zero_r (mul_t (u 0) (v 0)))
dot_first (suc n) u v =
    ap (λ (x : Trit). add_t x (mul_t (u (suc n)) (v (suc n)))) (dot_first n u v)
    ∙ add_assoc (mul_t (u 0) (v 0)) (dot_v (λ i. u (suc i)) (λ i. v (suc i)) n) (mul_t (u (suc n)) (v (suc n)))

pub dot_split : (m n : ℕ) (u v : Vector) → dot_v u v (m + n) ≡ add_t (dot_v u v m) (dot_v (λ i. u (m + i)) (λ i. v (m + i)) n)
unfolding dot_v
dot_split m zero u v = rw add-zero (sym (add_zero_r (dot_v u v m)))
dot_split m (suc n) u v =
    rw (add-suc, dot_split m n u v) (add_assoc (dot_v u v m) (dot_v (λ i. u (m + i)) (λ i. v (m + i)) n) (mul_t (u (m + n)) (v (m + n))))

-- places from n on that are 0 do not count
pub dot_past : (n m : ℕ) (u v : Vector) → n ≤ m → ((i : ℕ) → n ≤ i → v i ≡ t0) → dot_v u v m ≡ dot_v u v n
dot_past n m u v h z =
    let e : m ≡ n + (m - n) = omega arith in
    ap (dot_v u v) e ∙ dot_split n (m - n) u v
    ∙ ap (add_t (dot_v u v n)) (dot_zero (m - n) (λ i. u (n + i)) (λ i. v (n + i))
    (λ i l. ap (mul_t (u (n + i))) (z (n + i) (omega arith)) ∙ mul-zero (u (n + i))))
    ∙ add_zero_r (dot_v u v n)

-- the place q apart
pub dot_put : (n : ℕ) (u v : Vector) (q : ℕ) → q < n → dot_v u v n ≡ add_t (mul_t (u q) (v q)) (dot_v u (put_v v q t0) n)
unfolding dot_v
dot_put zero u v q h = absurd (omega arith)
dot_put (suc n) u v q h = go (dot_put n u v q) (eqb q n) refl
  where
    go : (q < n → dot_v u v n ≡ add_t (mul_t (u q) (v q)) (dot_v u (put_v v q t0) n)) → (t : Bool) → eqb q n ≡ t
        → add_t (dot_v u v n) (mul_t (u n) (v n)) ≡ add_t (mul_t (u q) (v q)) (add_t (dot_v u (put_v v q t0) n) (mul_t (u n) (put_v v q t0 n)))
    go ih true e =
        let same : q ≡ n = eqb-true q n e in
        let left : dot_v u (put_v v q t0) n ≡ dot_v u v n = dot_right n u (put_v v q t0) v (λ i k. put_other v q t0 i (λ z. omega arith)) in
        let last : put_v v q t0 n ≡ t0 = rw (← same) (put_same v q t0) in
        rw (left, last, same, mul-zero, add_zero_r) (add_comm (dot_v u v n) (mul_t (u n) (v n)))
    go ih false e =
        let other : put_v v q t0 n ≡ v n = put_other v q t0 n (λ z. eqb-false q n e (sym z)) in
        let less : q < n = omega (arith, eqb-false q n e) in
        rw (other, ih less) (add_assoc (mul_t (u q) (v q)) (dot_v u (put_v v q t0) n) (mul_t (u n) (v n)))

-- a unit vector picks one place
pub dot_unit : (r i : ℕ) (u : Vector) → i < r → dot_v (λ j. put_v zeros j t1 i) u r ≡ u i
dot_unit r i u h =
    dot_put r (λ j. put_v zeros j t1 i) u i h
    ∙ ap₂ add_t (ap (λ (x : Trit). mul_t x (u i)) (put_same zeros i t1)) (dot_zero r (λ j. put_v zeros j t1 i) (put_v u i t0) (λ j k. off j (eqb j i) refl))
    ∙ add_zero_r (u i)
  where
    off : (j : ℕ) (t : Bool) → eqb j i ≡ t → mul_t (put_v zeros j t1 i) (put_v u i t0 j) ≡ t0
    off j true e = rw e (mul-zero (put_v zeros j t1 i))
    off j false e = ap (λ (x : Trit). mul_t x (put_v u i t0 j)) (put_other zeros j t1 i (λ z. eqb-false j i e (sym z)))

-- a row less a multiple of another
pub dot_less : (n : ℕ) (x : Trit) (f g u : Vector) → dot_v (λ p. sub_t (f p) (mul_t x (g p))) u n ≡ sub_t (dot_v f u n) (mul_t x (dot_v g u n))
unfolding dot_v
dot_less zero x f g u = rw mul-zero
dot_less (suc n) x f g u = rw (dot_less n x f g u) (regroup (dot_v f u n) (dot_v g u n) (f n) (g n) x (u n))
  where
    regroup : (s t f g x u : Trit) → add_t (sub_t s (mul_t x t)) (mul_t (sub_t f (mul_t x g)) u) ≡ sub_t (add_t s (mul_t f u)) (mul_t x (add_t t (mul_t g u)))
    regroup s t f g x u = simp ring
