-- The two parities are their definitions, at x - 1 and x + 1 modulo 5.
-- Assumes nothing.
use Prim.Native.Nat.{ℕ}
use mathlib.Core.Path.{ap, ap₂, ◌∙◌}
use lib.Bits.{bit_xor}
use Rattle.keccak.specs.Keccak.{rotated, two_parities}
use Rattle.keccak.proofs.steps.two_parities.Goals as goal

pub returns : goal.returns
unfolding two_parities
returns c =
    ap₂ bit_xor c.parity.ensures (c.rotate.ensures ∙ ap (λ (p : ℕ). rotated p 1) c.parity-2.ensures)
