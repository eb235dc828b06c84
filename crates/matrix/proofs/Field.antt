-- More laws of trits, each by one computed test over all values (`law1` to `law4`), and of tests. Assumes nothing.
use mathlib.Core.Path.{◌≡◌, refl, sym, ap, ◌∙◌}
use mathlib.Core.Bool.{Bool, true, false, not, ◌||◌, true≢false}
use mathlib.Core.Logic.{◌⊎◌, inl, inr}
use native.Mathlib.Omega.{arith}
use lib.Dec.{T}
use Rattle.trits.specs.Trit.{Trit, number, t0, t1, t2, add_t, neg_t, mul_t, sub_t, is_set}
use Rattle.trits.proofs.Arithmetic.{at, every, eq_t, law1, law2, law3, add_zero_r, add_comm, add_assoc, mul_comm, mul_assoc, mul-add, mul-zero}

-- an equation in four trits
pub law4 : (f g : Trit → Trit → Trit → Trit → Trit) → T (every (λ a. every (λ x. every (λ y. every (λ z. eq_t (f a x y z) (g a x y z))))))
    → (a x y z : Trit)
    → f a x y z ≡ g a x y z
law4 f g h a = law3 (f a) (g a) (at (λ a. every (λ x. every (λ y. every (λ z. eq_t (f a x y z) (g a x y z))))) h a)

-- a test of four trits
pub test4 : (p : Trit → Trit → Trit → Trit → Bool) → T (every (λ a. every (λ x. every (λ y. every (λ z. p a x y z)))))
    → (a x y z : Trit) → T (p a x y z)
test4 p h a x y z =
    at (p a x y) (at (λ y. every (p a x y)) (at (λ x. every (λ y. every (p a x y))) (at (λ a. every (λ x. every (λ y. every (p a x y)))) h a) x) y) z

-- a test that says: where a holds, b holds
pub implied : (a b : Bool) → T (not a || b) → a ≡ true → b ≡ true
implied true true h e = refl
implied true false h e = absurd h
implied false b h e = absurd (true≢false (sym e))

pub not-true : (b : Bool) → not b ≡ true → b ≡ false
not-true true e = absurd (true≢false (sym e))
not-true false e = refl

pub not-false : (b : Bool) → not b ≡ false → b ≡ true
not-false true e = refl
not-false false e = absurd (true≢false e)

-- a test that cannot be passed
pub refuted : (b : Bool) → (b ≡ true → ⊥) → b ≡ false
refuted true f = absurd (f refl)
refuted false f = refl

pub add_left_comm : (x y z : Trit) → add_t x (add_t y z) ≡ add_t y (add_t x z)
add_left_comm = law3 (λ x y z. add_t x (add_t y z)) (λ x y z. add_t y (add_t x z)) tt

pub neg_neg : (x : Trit) → neg_t (neg_t x) ≡ x
neg_neg = law1 (λ x. neg_t (neg_t x)) (λ x. x) tt

pub neg_add : (x y : Trit) → neg_t (add_t x y) ≡ add_t (neg_t x) (neg_t y)
neg_add = law2 (λ x y. neg_t (add_t x y)) (λ x y. add_t (neg_t x) (neg_t y)) tt

pub mul-one : (x : Trit) → mul_t x t1 ≡ x
mul-one = law1 (λ x. mul_t x t1) (λ x. x) tt

pub mul_left_comm : (x y z : Trit) → mul_t x (mul_t y z) ≡ mul_t y (mul_t x z)
mul_left_comm = law3 (λ x y z. mul_t x (mul_t y z)) (λ x y z. mul_t y (mul_t x z)) tt

pub add-mul : (x y z : Trit) → mul_t (add_t x y) z ≡ add_t (mul_t x z) (mul_t y z)
add-mul = law3 (λ x y z. mul_t (add_t x y) z) (λ x y z. add_t (mul_t x z) (mul_t y z)) tt

pub mul_neg : (x y : Trit) → mul_t x (neg_t y) ≡ neg_t (mul_t x y)
mul_neg = law2 (λ x y. mul_t x (neg_t y)) (λ x y. neg_t (mul_t x y)) tt

pub neg_mul : (x y : Trit) → mul_t (neg_t x) y ≡ neg_t (mul_t x y)
neg_mul = law2 (λ x y. mul_t (neg_t x) y) (λ x y. neg_t (mul_t x y)) tt

-- what is taken away and put back
pub sub_add : (x y : Trit) → add_t (sub_t x y) y ≡ x
sub_add = law2 (λ x y. add_t (sub_t x y) y) (λ x y. x) tt

pub add_sub : (x y : Trit) → add_t y (sub_t x y) ≡ x
add_sub = law2 (λ x y. add_t y (sub_t x y)) (λ x y. x) tt

-- a trit is 0 or not
pub zero_or : (x : Trit) → (x ≡ t0) ⊎ (is_set x ≡ true)
zero_or t0 = inl refl
zero_or t1 = inr refl
zero_or t2 = inr refl

pub set_not : {x : Trit} → is_set x ≡ true → x ≡ t0 → ⊥
set_not h e = true≢false (sym h ∙ ap is_set e)

-- a trit that is not 0 is its own inverse
pub square : (x : Trit) → is_set x ≡ true → mul_t x x ≡ t1
square t0 h = absurd (true≢false (sym h))
square t1 h = refl
square t2 h = refl

pub sub_zero_eq : (x y : Trit) → sub_t x y ≡ t0 → x ≡ y
sub_zero_eq x y h = sym (sub_add x y) ∙ ap (λ (z : Trit). add_t z y) h

-- ---- the number of a trit, as it is read

pub number_set : (x : Trit) → (number x ≡ 0 → ⊥) → is_set x ≡ true
number_set t0 f = absurd (f refl)
number_set t1 f = refl
number_set t2 f = refl

pub number_unset : (x : Trit) → number x ≡ 0 → is_set x ≡ false
number_unset t0 e = refl
number_unset t1 e = absurd (omega arith)
number_unset t2 e = absurd (omega arith)

pub number_one : (x : Trit) → number x ≡ 1 → x ≡ t1
number_one t0 e = absurd (omega arith)
number_one t1 e = refl
number_one t2 e = absurd (omega arith)

pub number_two : (x : Trit) → number x ≡ 2 → x ≡ t2
number_two t0 e = absurd (omega arith)
number_two t1 e = absurd (omega arith)
number_two t2 e = refl

pub number_unit : (x : Trit) → is_set x ≡ true → (number x ≡ 2 → ⊥) → x ≡ t1
number_unit t0 e f = absurd (true≢false (sym e))
number_unit t1 e f = refl
number_unit t2 e f = absurd (f refl)

-- ---- sums of products

-- from y x + s = 0, where x is not 0, y
pub solved : (s x y : Trit) → mul_t x x ≡ t1 → add_t (mul_t y x) s ≡ t0 → mul_t (neg_t x) s ≡ y
solved s x y e h =
    sym (add_zero_r (mul_t (neg_t x) s)) ∙ ap (add_t (mul_t (neg_t x) s)) (sym (mul-zero x) ∙ ap (mul_t x) (sym h))
    ∙ law3 (λ s x y. add_t (mul_t (neg_t x) s) (mul_t x (add_t (mul_t y x) s))) (λ s x y. mul_t (mul_t x x) y) tt s x y
    ∙ ap (λ (z : Trit). mul_t z y) e

-- the laws that bring a sum of products to a normal form
pub ruleset ring = (
  add_zero_r,
  add_comm,
  add_assoc,
  add_left_comm,
  mul-zero,
  mul-one,
  mul_comm,
  mul_assoc,
  mul_left_comm,
  mul-add,
  add-mul,
  mul_neg,
  neg_mul,
  neg_add,
  neg_neg,
)
