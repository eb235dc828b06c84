-- What request C-13 leaves as it was: a check refuses, and says yes, as it did when it answered the weight alone. Assumes nothing.
use Rattle.std.specs.Prelude.{◌≡◌, ℕ, ◌+◌}
use Rattle.trits.specs.Trit.{Trit, weight_v}
use Rattle.trits.specs.Planes.{trit_at}
use Rattle.trits.specs.declared.Counts.{Counts}
use Rattle.packed.specs.Packed.{packed_row}
use Rattle.verdict.specs.Verdict.{full_word}
use Rattle.held_key.specs.Held.{row_trits, held_key}
use Rattle.check_tests.specs.declared.Checked.{Checked}
use Rattle.check_tests.specs.Check.{Check, PackedCheck, check_refusal, check_packed_refusal, answered}

-- how a word of m trits is counted: `counts_v` now, and before it the weight as one number
abbrev pub CountRule : Type 0
CountRule = (ℕ → Trit) → ℕ → Counts

abbrev pub weight_alone : CountRule
weight_alone v m = record { ones = weight_v v m; twos = 0 }

-- the full word of a check, of n - k and k trits
abbrev pub check_word : Check → ℕ → Trit
check_word c =
    let h = c.held in
    full_word (row_trits h) h.k (held_key h c.ones c.twos) (trit_at c.y_ones c.y_twos) (trit_at c.s_ones c.s_twos)

abbrev pub check_packed_word : PackedCheck → ℕ → Trit
check_packed_word c =
    let h = c.held in
    full_word (row_trits h) h.k (held_key h c.ones c.twos) (packed_row c.y) (packed_row c.s)

-- the answer of a check that counts its full word so
abbrev pub check_by : CountRule → Check → Checked
check_by count c = answered (check_refusal c) (count (check_word c) (row_trits c.held + c.held.k)) c.held.w

abbrev pub check_packed_by : CountRule → PackedCheck → Checked
check_packed_by count c = answered (check_packed_refusal c) (count (check_packed_word c) (row_trits c.held + c.held.k)) c.held.w

-- two answers that refuse alike and say yes alike, and whose numbers add up alike
pub record SameVerdict (new old : Checked) : Type 0 where
  pub same_refusal : new.refusal ≡ old.refusal
  pub same_yes : new.yes ≡ old.yes
  pub same_sum : new.ones + new.twos ≡ old.ones + old.twos
