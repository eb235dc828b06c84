-- A bit past the length is told first, then a bit in both planes: what `planes_refusal` tells of such planes.
-- Assumes nothing.
use mathlib.Core.Path.{sym, ◌∙◌}
use Rattle.trits.proofs.Refusals.{past_told, both_told, neither_told}
use Rattle.planes.proofs.faults.test_planes.Goals as goal

pub returns-then-rows_past_end : goal.returns-then-rows_past_end
returns-then-rows_past_end c =
    record { refusal = sym (past_told _ _ _ _ (sym c.rows_past_end.ensures ∙ c.if-rows_past_end.true)); readable = tt }

pub returns-then-both_set : goal.returns-then-both_set
returns-then-both_set c =
    let none = sym c.rows_past_end.ensures ∙ c.if-rows_past_end.false in
    record { refusal = sym (both_told _ _ _ _ none (sym c.both_set.ensures.found ∙ c.if-both_set.true)); readable = tt }

pub returns : goal.returns
returns c =
    let none = sym c.rows_past_end.ensures ∙ c.if-rows_past_end.false in
    let p = c.requires in
    record {
      refusal = sym (neither_told _ _ _ _ none (sym c.both_set.ensures.found ∙ c.if-both_set.false));
      readable = record { same = p.twos_size ∙ sym p.ones_size; apart = c.both_set.ensures.apart c.if-both_set.false };
    }
