-- Where the length ends with a byte nothing is past it (`last_full`); else the last byte is held against a power of 3 (`last_tells`).
-- Assumes nothing.
use Prim.Native.Nat.{ℕ, zero, suc, ◌/◌, ◌<◌, ◌^◌}
use mathlib.Core.Path.{sym, ap, ◌∙◌}
use native.Mathlib.Nat.{mod-lt, zero-lt-suc}
use native.Mathlib.Omega.{arith}
use lib.Dec.{leb, lit<}
use lib.ListN.{get_or}
use Rattle.packed.proofs.Past.{last_full, last_tells}
use Rattle.packing.proofs.faults.packed_past_end.Goals as goal

-- below 5 a power of 3 is a byte
small : (n : ℕ) → n < 5 → 3 ^ n < 2 ^ 8
small zero h = lit< tt
small (suc zero) h = lit< tt
small (suc (suc zero)) h = lit< tt
small (suc (suc (suc zero))) h = lit< tt
small (suc (suc (suc (suc zero)))) h = lit< tt
small (suc (suc (suc (suc (suc n))))) h = absurd (omega arith)

pub returns-then-used-eq0 : goal.returns-then-used-eq0
returns-then-used-eq0 c =
    sym (last_full c.args.m c.args.bytes.now c.requires.0 c.if-used-eq0.true)

pub pow-requires : goal.pow-requires
pow-requires c =
    small _ (mod-lt c.args.m (zero-lt-suc 4))

pub returns : goal.returns
returns c =
    let bytes = c.args.bytes.now in
    ap (λ (power : ℕ). leb power (get_or bytes (c.args.m / 5) 0)) c.pow.ensures
    ∙ last_tells c.args.m bytes c.requires.0 c.requires.1 c.if-used-eq0.false
