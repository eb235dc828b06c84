-- The entries that are read are what the bits count (`values_rule`); where no bit is in both the byte is at most 242 (`trits_lt`).
-- Assumes nothing.
use Prim.Native.Nat.{ℕ, ◌+◌, ◌*◌, ◌%◌}
use mathlib.Core.Path.{◌≡◌, ap, ap₂, ◌∙◌}
use mathlib.Core.List.{List}
use native.Mathlib.Omega.{arith}
use lib.ListN.{get_or}
use Rattle.packed.specs.Steps.{five_digits, five_trits}
use Rattle.packed.proofs.Values.{values_rule, five_lt, trits_lt}
use Rattle.packing.proofs.read.five_trits.Goals as goal

pub overflow_mul-result : goal.overflow_mul-result
overflow_mul-result c =
    -- the entry of a number's lowest five bits
    let entry : (n : ℕ) → get_or c.args.values.now (n % 32) 0 ≡ five_digits n =
    λ n. ap (λ (l : List ℕ). get_or l (n % 32) 0) c.requires.is_table ∙ values_rule n in
    omega (arith, entry c.args.y, five_lt c.args.y)

pub overflow_add-result : goal.overflow_add-result
overflow_add-result c =
    -- the entry of a number's lowest five bits
    let entry : (n : ℕ) → get_or c.args.values.now (n % 32) 0 ≡ five_digits n =
    λ n. ap (λ (l : List ℕ). get_or l (n % 32) 0) c.requires.is_table ∙ values_rule n in
    let a = c.args in
    omega (arith, entry a.x, entry a.y, trits_lt a.x a.y c.requires.apart)

pub returns : goal.returns
unfolding five_trits
returns c =
    -- the entry of a number's lowest five bits
    let entry : (n : ℕ) → get_or c.args.values.now (n % 32) 0 ≡ five_digits n =
    λ n. ap (λ (l : List ℕ). get_or l (n % 32) 0) c.requires.is_table ∙ values_rule n in
    ap₂ (λ (a b : ℕ). a + 2 * b) (entry c.args.x) (entry c.args.y)
