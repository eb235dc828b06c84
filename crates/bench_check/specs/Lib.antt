-- How often ones and twos were worked out. Assumes nothing.
use Rattle.std.specs.Prelude.{ℕ, zero, suc}
use Rattle.trits.specs.declared.Counts.{Counts}

-- what was worked out so many times: 0 and 0 before the first
unfoldable pub after : ℕ → Counts → Counts
after zero c = record { ones = 0; twos = 0 }
after (suc n) c = c
