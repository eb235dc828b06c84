-- One bit moved up so far is the power of 2 (`one_shifted`), and what is left below it is small.
-- Assumes nothing.
use Prim.Native.Nat.{ℕ, ◌+◌, ◌*◌, ◌/◌, ◌%◌, ◌^◌, ◌≤◌, ◌<◌}
use mathlib.Core.Path.{◌≡◌, ap}
use native.Mathlib.Nat.{mod-lt}
use native.Mathlib.Omega.{arith}
use lib.Pow.{pow_mono, pow_pos}
use Rattle.trits.proofs.Bits.{one_shifted}
use Rattle.placing.proofs.stream.first_trits.Goals as goal

-- the number that cuts is a power of 2
power : (n : ℕ) → n ≤ 5 → 1 * 2 ^ n % 2 ^ 64 ≡ 2 ^ n
power n h = one_shifted n (omega arith)

-- and what it leaves of a number is below 32
small : (n x : ℕ) → n ≤ 5 → x % (1 * 2 ^ n % 2 ^ 64) < 32
small n x h = omega (arith, ap (λ (d : ℕ). x % d) (power n h), mod-lt x (pow_pos n), pow_mono {i = n} {j = 5} h)

pub nonzero_rem-result-2 : goal.nonzero_rem-result-2
nonzero_rem-result-2 c = omega (arith, power c.args.count c.requires, pow_pos c.args.count)

pub nonzero_rem-result-3 : goal.nonzero_rem-result-3
nonzero_rem-result-3 c = omega (arith, power c.args.count c.requires, pow_pos c.args.count)

pub overflow_mul-result : goal.overflow_mul-result
overflow_mul-result c = omega (arith, small c.args.count (c.args.piece / 2 ^ 32) c.requires)

pub overflow_add-result : goal.overflow_add-result
overflow_add-result c =
    let a = c.args in
    omega (arith, small a.count (a.piece % 2 ^ 32) c.requires, small a.count (a.piece / 2 ^ 32) c.requires)

pub returns : goal.returns
returns c =
    let p = c.args.piece in
    ap (λ (d : ℕ). p % 2 ^ 32 % d + 2 ^ 32 * (p / 2 ^ 32 % d)) (power c.args.count c.requires)
