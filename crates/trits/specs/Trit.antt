-- Trits and vectors of trits (the paper's first lines). Assumes nothing.
use Rattle.std.specs.Prelude.{ℕ, zero, suc, ◌+◌, ◌-◌, ◌*◌, Bool, true, false, ◌&&◌, ◌||◌, cond, eqb, leb, ltb}
use Rattle.trits.specs.declared.Counts.{Counts}

-- ---- a trit is 0, 1 or 2

pub data Trit : Type 0 where
  t0 : Trit
  t1 : Trit
  t2 : Trit

-- ---- arithmetic is modulo 3

abbrev pub add_t : Trit → Trit → Trit
add_t t0 y = y
add_t t1 t0 = t1
add_t t1 t1 = t2
add_t t1 t2 = t0
add_t t2 t0 = t2
add_t t2 t1 = t0
add_t t2 t2 = t1

abbrev pub neg_t : Trit → Trit
neg_t t0 = t0
neg_t t1 = t2
neg_t t2 = t1

abbrev pub sub_t : Trit → Trit → Trit
sub_t x y = add_t x (neg_t y)

abbrev pub mul_t : Trit → Trit → Trit
mul_t t0 y = t0
mul_t t1 y = y
mul_t t2 y = neg_t y

-- ---- trits and numbers

-- the number that a trit is
abbrev pub number : Trit → ℕ
number t0 = 0
number t1 = 1
number t2 = 2

-- the trit that a number is modulo 3
abbrev pub trit_of : ℕ → Trit
trit_of zero = t0
trit_of (suc zero) = t1
trit_of (suc (suc zero)) = t2
trit_of (suc (suc (suc n))) = trit_of n

-- whether a trit is not 0
abbrev pub is_set : Trit → Bool
is_set t0 = false
is_set t1 = true
is_set t2 = true

-- 1 where the trit is not 0
abbrev pub non_zero : Trit → ℕ
non_zero t0 = 0
non_zero t1 = 1
non_zero t2 = 1

-- 1 where the trit is 1
abbrev pub one : Trit → ℕ
one t0 = 0
one t1 = 1
one t2 = 0

-- 1 where the trit is 2
abbrev pub two : Trit → ℕ
two t0 = 0
two t1 = 0
two t2 = 1

-- ---- sums and tests over the places below m

unfoldable pub sum_to : (ℕ → ℕ) → ℕ → ℕ
sum_to f zero = 0
sum_to f (suc m) = sum_to f m + f m

-- whether p holds at some place below m
unfoldable pub any_to : (ℕ → Bool) → ℕ → Bool
any_to p zero = false
any_to p (suc m) = any_to p m || p m

-- ---- a vector is a function from places, counted from 0, to trits

-- |v| of the first m places: how many of them are not 0
abbrev pub weight_v : (ℕ → Trit) → ℕ → ℕ
weight_v v m = sum_to (λ i. non_zero (v i)) m

-- how many of them are 1, and how many are 2 (request C-13, "ones and twos apart")
abbrev pub ones_v : (ℕ → Trit) → ℕ → ℕ
ones_v v m = sum_to (λ i. one (v i)) m

abbrev pub twos_v : (ℕ → Trit) → ℕ → ℕ
twos_v v m = sum_to (λ i. two (v i)) m

-- both numbers
abbrev pub counts_v : (ℕ → Trit) → ℕ → Counts
counts_v v m = record { ones = ones_v v m; twos = twos_v v m }

-- their sum, which is the weight (`counts_weight` of the laws)
abbrev pub sum_of : Counts → ℕ
sum_of c = c.ones + c.twos

-- the sum of the products of the first m places
unfoldable pub dot_v : (ℕ → Trit) → (ℕ → Trit) → ℕ → Trit
dot_v u v zero = t0
dot_v u v (suc m) = add_t (dot_v u v m) (mul_t (u m) (v m))

-- an operation place by place
abbrev pub zip_v : (Trit → Trit → Trit) → (ℕ → Trit) → (ℕ → Trit) → ℕ → Trit
zip_v op u v i = op (u i) (v i)

-- the negative, place by place
abbrev pub neg_v : (ℕ → Trit) → ℕ → Trit
neg_v v i = neg_t (v i)

-- v with the trit x at place i
abbrev pub put_v : (ℕ → Trit) → ℕ → Trit → ℕ → Trit
put_v v i x j = cond (eqb j i) x (v j)

-- the first m places of v, and 0 past them
unfoldable pub up_to : ℕ → (ℕ → Trit) → ℕ → Trit
up_to m v i = cond (ltb i m) (v i) t0

-- an operation on a stretch of n words: place k of v is joined to place 64 * a + k of u, and u's other places stay
unfoldable pub zip_at : (Trit → Trit → Trit) → (ℕ → Trit) → (ℕ → Trit) → ℕ → ℕ → ℕ → Trit
zip_at op u v a n i = cond (leb (64 * a) i && ltb i (64 * (a + n))) (op (u i) (v (i - 64 * a))) (u i)
