-- Tables of combinations: entry e is the combination of k rows that its base-3 digits count; each entry is the sum of two before it. Assumes nothing.
use mathlib.Core.Path.{◌≡◌, refl, sym, ap, ap₂, ◌∙◌}
use Prim.Native.Nat.{ℕ, zero, suc, ◌+◌, ◌*◌, ◌/◌, ◌%◌, ◌<◌}
use native.Mathlib.Decide.{ℕ_discrete}
use native.Mathlib.Omega.{arith}
use Rattle.trits.specs.Trit.{Trit, t0, t1, add_t, sub_t, mul_t, number, trit_of, put_v, dot_v}
use Rattle.trits.proofs.Products.{dot_zero}
use Rattle.trits.proofs.Arithmetic.{number_lt, trit_number}
use Rattle.matrix.specs.Linear.{Vector, Matrix, zeros}
use Rattle.matrix.specs.Blocks.{less_of, digit, pow3, base3, entry_of}
use Rattle.matrix.proofs.Field.{law4}
use Rattle.matrix.proofs.Dots.{dot_left, dot_right, dot_comm, dot_add, dot_unit, dot_split, put_same, put_other}

pub pow3_some : (j : ℕ) → 0 < pow3 j
unfolding pow3
pow3_some zero = omega arith
pow3_some (suc j) = omega (arith, pow3_some j)

pub digit_base3 : (k : ℕ) (x : Vector) (j : ℕ) → j < k → digit (base3 x k) j ≡ x j
unfolding digit base3
digit_base3 zero x j h = absurd (omega arith)
digit_base3 (suc k) x zero h =
    let n = number_lt (x 0) in
    let e : (number (x 0) + 3 * base3 (λ j. x (suc j)) k) % 3 ≡ number (x 0) = omega arith in
    ap trit_of e ∙ trit_number (x 0)
digit_base3 (suc k) x (suc j) h =
    let n = number_lt (x 0) in
    let e : (number (x 0) + 3 * base3 (λ j. x (suc j)) k) / 3 ≡ base3 (λ j. x (suc j)) k = omega arith in
    ap (λ (n : ℕ). digit n j) e ∙ digit_base3 k (λ j. x (suc j)) j (omega arith)

-- what the entry of a row's own trits has
pub entry_base3 : (k : ℕ) (b : Matrix) (x : Vector) (t : ℕ) → entry_of k b (base3 x k) t ≡ dot_v x (λ j. b j t) k
entry_base3 k b x t = dot_left k (digit (base3 x k)) x (λ j. b j t) (digit_base3 k x)

-- the number of k trits is below 3 ^ k
pub base3_lt : (k : ℕ) (x : Vector) → base3 x k < pow3 k
unfolding base3 pow3
base3_lt zero x = omega arith
base3_lt (suc k) x = omega (arith, number_lt (x 0), base3_lt k (λ j. x (suc j)))

digit_none : (i : ℕ) → digit 0 i ≡ t0
unfolding digit
digit_none zero = refl
digit_none (suc i) = digit_none i

digit_low : (a : ℕ) → a < 3 → (i : ℕ) → digit a (suc i) ≡ t0
unfolding digit
digit_low a h i = let e : a / 3 ≡ 0 = omega arith in ap (λ (n : ℕ). digit n i) e ∙ digit_none i

-- no digit is carried
pub digit_sum : (j a i : ℕ) → a < 2 * pow3 j → digit (pow3 j + a) i ≡ add_t (digit (pow3 j) i) (digit a i)
unfolding pow3 digit
digit_sum zero zero i h = go i
  where
    go : (i : ℕ) → digit (1 + 0) i ≡ add_t (digit 1 i) (digit 0 i)
    go zero = refl
    go (suc i) = digit_low 1 (omega arith) i ∙ sym (ap₂ add_t (digit_low 1 (omega arith) i) (digit_none i))
digit_sum zero (suc zero) i h = go i
  where
    go : (i : ℕ) → digit (1 + 1) i ≡ add_t (digit 1 i) (digit 1 i)
    go zero = refl
    go (suc i) = digit_low 2 (omega arith) i ∙ sym (ap₂ add_t (digit_low 1 (omega arith) i) (digit_low 1 (omega arith) i))
digit_sum zero (suc (suc a)) i h = absurd (omega arith)
digit_sum (suc j) a zero h = go
  where
    go : digit (3 * pow3 j + a) 0 ≡ add_t (digit (3 * pow3 j) 0) (digit a 0)
    go =
        let e : (3 * pow3 j + a) % 3 ≡ a % 3 = omega arith in
        let f : (3 * pow3 j) % 3 ≡ 0 = omega arith in
        ap trit_of e ∙ sym (ap (λ (n : ℕ). add_t (trit_of n) (trit_of (a % 3))) f)
digit_sum (suc j) a (suc i) h = go (digit_sum j (a / 3) i (omega arith))
  where
    go : digit (pow3 j + a / 3) i ≡ add_t (digit (pow3 j) i) (digit (a / 3) i)
        → digit (3 * pow3 j + a) (suc i) ≡ add_t (digit (3 * pow3 j) (suc i)) (digit a (suc i))
    go ih =
        let e : (3 * pow3 j + a) / 3 ≡ pow3 j + a / 3 = omega arith in
        let f : (3 * pow3 j) / 3 ≡ pow3 j = omega arith in
        ap (λ (n : ℕ). digit n i) e ∙ ih ∙ sym (ap (λ (n : ℕ). add_t (digit n i) (digit (a / 3) i)) f)

-- an entry is the sum of the row of its highest digit and an entry before it
pub entry_sum : (k : ℕ) (b : Matrix) (j a t : ℕ) → a < 2 * pow3 j → entry_of k b (pow3 j + a) t ≡ add_t (entry_of k b (pow3 j) t) (entry_of k b a t)
entry_sum k b j a t h =
    dot_left k (digit (pow3 j + a)) (λ i. add_t (digit (pow3 j) i) (digit a i)) (λ j. b j t) (λ i l. digit_sum j a i h)
    ∙ dot_comm k (λ i. add_t (digit (pow3 j) i) (digit a i)) (λ j. b j t)
    ∙ dot_add k (λ j. b j t) (digit (pow3 j)) (digit a)
    ∙ ap₂ add_t (dot_comm k (λ j. b j t) (digit (pow3 j))) (dot_comm k (λ j. b j t) (digit a))

-- entry 0 is 0
pub entry_none : (k : ℕ) (b : Matrix) (t : ℕ) → entry_of k b 0 t ≡ t0
entry_none k b t = dot_zero k (digit 0) (λ j. b j t) (λ j h. ap (λ (x : Trit). mul_t x (b j t)) (digit_none j))

unit_suc : (j i : ℕ) → put_v zeros i t1 j ≡ put_v zeros (suc i) t1 (suc j)
unit_suc j i = by (ℕ_discrete j i)
  where
    by : Dec (j ≡ i) → put_v zeros i t1 j ≡ put_v zeros (suc i) t1 (suc j)
    by (yes e) = rw e (put_same zeros i t1 ∙ sym (put_same zeros (suc i) t1))
    by (no f) = put_other zeros i t1 j f ∙ sym (put_other zeros (suc i) t1 (suc j) (λ z. f (omega arith)))

digit_pow : (j i : ℕ) → digit (pow3 j) i ≡ put_v zeros i t1 j
unfolding pow3 digit
digit_pow zero zero = refl
digit_pow zero (suc i) = digit_low 1 (omega arith) i ∙ sym (put_other zeros (suc i) t1 0 (λ z. omega arith))
digit_pow (suc j) zero = go ∙ sym (put_other zeros 0 t1 (suc j) (λ z. omega arith))
  where
    go : digit (3 * pow3 j) 0 ≡ t0
    go = let f : (3 * pow3 j) % 3 ≡ 0 = omega arith in ap trit_of f
digit_pow (suc j) (suc i) = go (digit_pow j i)
  where
    go : digit (pow3 j) i ≡ put_v zeros i t1 j → digit (3 * pow3 j) (suc i) ≡ put_v zeros (suc i) t1 (suc j)
    go ih = let f : (3 * pow3 j) / 3 ≡ pow3 j = omega arith in ap (λ (n : ℕ). digit n i) f ∙ ih ∙ unit_suc j i

-- entry 3 ^ j is row j
pub entry_unit : (k : ℕ) (b : Matrix) (j t : ℕ) → j < k → entry_of k b (pow3 j) t ≡ b j t
entry_unit k b j t h = dot_left k (digit (pow3 j)) (λ i. put_v zeros i t1 j) (λ i. b i t) (λ i l. digit_pow j i) ∙ dot_unit k j (λ i. b i t) h

-- rows that are the same make the same entries
pub entry_same : (k : ℕ) (b d : Matrix) (e t : ℕ) → ((j : ℕ) → j < k → b j t ≡ d j t) → entry_of k b e t ≡ entry_of k d e t
entry_same k b d e t z = dot_right k (digit e) (λ j. b j t) (λ j. d j t) z

-- twelve trits are three entries of four
pub less_entries : (q : ℕ → ℕ) (b : Matrix) (v : Vector) (t : ℕ)
    → sub_t (sub_t (sub_t (v t) (entry_of 4 b (base3 (λ j. v (q j)) 4) t)) (entry_of 4 (λ j. b (4 + j)) (base3 (λ j. v (q (4 + j))) 4) t))
    (entry_of 4 (λ j. b (8 + j)) (base3 (λ j. v (q (8 + j))) 4) t)
    ≡ less_of 12 q b v t
less_entries q b v t =
    ap₂ sub_t (ap₂ sub_t (ap (sub_t (v t)) (entry_base3 4 b u t)) (entry_base3 4 (λ j. b (4 + j)) (λ j. u (4 + j)) t))
    (entry_base3 4 (λ j. b (8 + j)) (λ j. u (8 + j)) t)
    ∙ law4 (λ a x y z. sub_t (sub_t (sub_t a x) y) z) (λ a x y z.
    sub_t a (add_t (add_t x y) z)) tt (v t) (dot_v u s 4) (dot_v (λ j. u (4 + j)) (λ j. s (4 + j)) 4)
    (dot_v (λ j. u (8 + j)) (λ j. s (8 + j)) 4)
    ∙ ap (sub_t (v t)) (sym (dot_split 8 4 u s ∙ ap (λ (x : Trit). add_t x (dot_v (λ j. u (8 + j)) (λ j. s (8 + j)) 4)) (dot_split 4 4 u s)))
  where
    u : Vector
    u j = v (q j)

    s : Vector
    s j = b j t
