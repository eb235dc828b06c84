-- The trit that a search reads, by numbers. Assumes nothing.
use mathlib.Core.Path.{◌≡◌, refl, sym, ap, ap₂, ◌∙◌}
use mathlib.Core.Bool.{Bool, true, false}
use Prim.Native.Nat.{ℕ, zero, suc, ◌+◌, ◌*◌, ◌%◌, ◌≤◌, ◌<◌}
use native.Mathlib.Numerals.{add-one}
use native.Mathlib.Omega.{arith}
use borrow.Author.Tests.{eqb-true}
use lib.Dec.{T, eqb}
use Rattle.trits.specs.Trit.{Trit, add_t, sub_t, mul_t, number, dot_v}
use Rattle.trits.proofs.Arithmetic.{at, every, law3, add_zero_r, number_lt}
use Rattle.matrix.specs.Linear.{Vector, Matrix}
use Rattle.matrix.specs.Blocks.{less_of}

true_of : (b : Bool) → T b → b ≡ true
true_of true h = refl
true_of false h = absurd h

-- x - a·b
less_table : (x a b : Trit) → (number x + 2 * (number a * number b)) % 3 ≡ number (sub_t x (mul_t a b))
less_table x a b = eqb-true _ _ (true_of _ (at (test x a) (at (λ a. every (test x a)) (at (λ x. every (λ a. every (test x a))) tt x) a) b))
  where
    test : Trit → Trit → Trit → Bool
    test x a b = eqb ((number x + 2 * (number a * number b)) % 3) (number (sub_t x (mul_t a b)))

-- two trits' numbers, multiplied
pub product_most : {m n : ℕ} (a b : Trit) → m ≡ number a → n ≡ number b → m * n ≤ 4
product_most {m} {n} a b e f = by n (omega (arith, number_lt a, e)) (omega (arith, number_lt b, f))
  where
    by : (k : ℕ) → m < 3 → k < 3 → m * k ≤ 4
    by zero h l = omega arith
    by (suc zero) h l = omega arith
    by (suc (suc zero)) h l = omega arith
    by (suc (suc (suc k))) h l = absurd (omega arith)

module _ (q : ℕ → ℕ) (b : Matrix) (v : Vector) (p : ℕ) where
  pub now_none : {x : ℕ} → x ≡ number (v p) → x ≡ number (less_of 0 q b v p)
  unfolding dot_v
  now_none e = e ∙ ap number (sym (add_zero_r (v p)))

  -- one row of the block more
  pub now_turn : {x m n : ℕ} (j : ℕ) → x ≡ number (less_of j q b v p) → m ≡ number (v (q j)) → n ≡ number (b j p)
      → (x + 2 * (m * n)) % 3 ≡ number (less_of (j + 1) q b v p)
  unfolding dot_v
  now_turn {x} {m} {n} j e f g =
      ap₂ (λ (x y : ℕ). (x + 2 * y) % 3) e (ap₂ (λ (x y : ℕ). x * y) f g) ∙ less_table (less_of j q b v p) (v (q j)) (b j p)
      ∙ ap number (law3 (λ x s y. sub_t (sub_t x s) y) (λ x s y. sub_t x (add_t s y)) tt (v p) (dot_v (λ l. v (q l)) (λ l. b l p) j) (mul_t (v (q j)) (b j p)))
      ∙ ap (λ (k : ℕ). number (less_of k q b v p)) (sym (add-one j))
