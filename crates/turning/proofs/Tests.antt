-- Laws of the numbers below a bound by one computed test each. Assumes nothing.
use mathlib.Core.Path.{◌≡◌, sym, subst}
use mathlib.Core.Bool.{Bool, true, false, ◌&&◌}
use Prim.Native.Nat.{ℕ, zero, suc, ◌<◌}
use native.Mathlib.Nat.{not-suc-le-zero}
use native.Mathlib.Decide.{ℕ_discrete}
use native.Mathlib.Omega.{arith}
use lib.Dec.{T, eqb, ltb, eqb→eq, ltb→lt}

-- the test holds of every number below n
abbrev pub below : ℕ → (ℕ → Bool) → Bool
below zero p = true
below (suc n) p = p n && below n p

both : (a b : Bool) → T (a && b) → T a × T b
both true b h = (tt, h)
both false b h = absurd h

by : (n : ℕ) (p : ℕ → Bool) → T (p n) → (i : ℕ) → (i < n → T (p i)) → i < suc n → Dec (i ≡ n) → T (p i)
by n p h i g l (yes e) = subst (λ (k : ℕ). T (p k)) (sym e) h
by n p h i g l (no f) = g (omega arith)

pub at : (n : ℕ) (p : ℕ → Bool) → T (below n p) → (i : ℕ) → i < n → T (p i)
at zero p h i l = absurd (not-suc-le-zero l)
at (suc n) p h i l = by n p (both (p n) (below n p) h).0 i (at n p (both (p n) (below n p) h).1 i) l (ℕ_discrete i n)

pub equal_at : (n : ℕ) (f g : ℕ → ℕ) → T (below n (λ i. eqb (f i) (g i))) → (i : ℕ) → i < n → f i ≡ g i
equal_at n f g h i l = eqb→eq (f i) (g i) (at n (λ k. eqb (f k) (g k)) h i l)

pub less_at_law : (n : ℕ) (f g : ℕ → ℕ) → T (below n (λ i. ltb (f i) (g i))) → (i : ℕ) → i < n → f i < g i
less_at_law n f g h i l = ltb→lt (f i) (g i) (at n (λ k. ltb (f k) (g k)) h i l)

pub equal_at_two : (n : ℕ) (f g : ℕ → ℕ → ℕ) → T (below n (λ i. below n (λ k. eqb (f i k) (g i k)))) → (i k : ℕ) → i < n → k < n → f i k ≡ g i k
equal_at_two n f g h i k l r = equal_at n (f i) (g i) (at n (λ x. below n (λ y. eqb (f x y) (g x y))) h i l) k r

pub less_at_two : (n : ℕ) (f g : ℕ → ℕ → ℕ) → T (below n (λ i. below n (λ k. ltb (f i k) (g i k)))) → (i k : ℕ) → i < n → k < n → f i k < g i k
less_at_two n f g h i k l r = less_at_law n (f i) (g i) (at n (λ x. below n (λ y. ltb (f x y) (g x y))) h i l) k r
