-- Each arm is what the two tests say.
-- Assumes nothing.
use Rattle.shake.proofs.Bytes.{pad_both, pad_last, pad_first, pad_none}
use Rattle.shake.proofs.padding.pad.Goals as goal

pub returns-in-true-true : goal.returns-in-true-true
returns-in-true-true c = let t = c.in-true-true in pad_both _ _ t.is-1 t.is-0

pub returns-in-true-false : goal.returns-in-true-false
returns-in-true-false c = let t = c.in-true-false in pad_first _ _ t.is-1 t.is-0

pub returns-in-false-true : goal.returns-in-false-true
returns-in-false-true c = let t = c.in-false-true in pad_last _ _ t.is-1 t.is-0

pub returns-in-false-false : goal.returns-in-false-false
returns-in-false-false c = let t = c.in-false-false in pad_none _ _ t.is-1 t.is-0
