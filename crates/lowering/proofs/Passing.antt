-- Where the rows of a block are 0, and a block that has no pivot. Assumes nothing.
use mathlib.Core.Path.{◌≡◌, subst}
use mathlib.Core.Logic.{◌⊎◌, inl, inr}
use mathlib.Core.Bool.{false}
use Prim.Native.Nat.{ℕ, ◌*◌, ◌/◌, ◌≤◌, ◌<◌}
use native.Mathlib.Omega.{arith}
use Rattle.trits.specs.Trit.{t0}
use Rattle.matrix.specs.Linear.{Matrix}
use Rattle.matrix.specs.Steps.{has_pivot}
use Rattle.matrix.specs.Blocks.{Block, Advanced}
use Rattle.matrix.proofs.Blocks.{advanced_none}

-- the words before that of the column c, and those from v on
pub outside_zero : {A : Matrix} {r at c : ℕ} (v : ℕ) → ((i t : ℕ) → at ≤ i → i < r → t < c → A i t ≡ t0)
    → ((i t : ℕ) → at ≤ i → i < r → 64 * v ≤ t → A i t ≡ t0)
    → (i t : ℕ) → at ≤ i → i < r → (t < 64 * (c / 64)) ⊎ (64 * v ≤ t) → A i t ≡ t0
outside_zero v low past i t h l (inl o) = low i t h l (omega arith)
outside_zero v low past i t h l (inr o) = past i t h l o

pub no_block : {r at c m k : ℕ} {A M : Matrix} → Block r at c m k A M → (k ≡ 0 → has_pivot r at c A ≡ false) → k ≡ 0 → Advanced r at c m 0 A M
no_block {r} {at} {c} {m} {k} {A} {M} g n e = subst (λ (j : ℕ). Advanced r at c m j A M) e (advanced_none g n e)
