-- Two tests, each with its number.
-- Assumes nothing.
use mathlib.Core.Path.{sym, ◌∙◌}
use Rattle.packed.proofs.Turned.{bytes_bad, bytes_past, bytes_good}
use Rattle.packing.proofs.faults.test_bytes.Goals as goal

pub returns-then-bad_byte : goal.returns-then-bad_byte
returns-then-bad_byte c =
    bytes_bad _ _ (sym c.bad_byte.ensures ∙ c.if-bad_byte.true)

pub packed_past_end-requires : goal.packed_past_end-requires
packed_past_end-requires c =
    (c.requires, sym c.bad_byte.ensures ∙ c.if-bad_byte.false)

pub returns-then-packed_past_end : goal.returns-then-packed_past_end
returns-then-packed_past_end c =
    bytes_past _ _ (sym c.bad_byte.ensures ∙ c.if-bad_byte.false) (sym c.packed_past_end.ensures ∙ c.if-packed_past_end.true)

pub returns : goal.returns
returns c =
    bytes_good _ _ (sym c.bad_byte.ensures ∙ c.if-bad_byte.false) (sym c.packed_past_end.ensures ∙ c.if-packed_past_end.false)
