-- Key and formula, ones and twos, and yes or no, one after another (`verdict_wrote`).
-- Assumes nothing.
use lib.Dec.{eqb}
use Rattle.text.proofs.Written.{verdict_wrote}
use Rattle.text.proofs.answers.put_verdict.Goals as goal

pub returns : goal.returns
returns c =
    let a = c.args in
    let w =
    verdict_wrote a.out.now c.requires a.key a.formula a.counts.ones a.counts.twos (eqb a.yes 1)
    (c.put_pair-a.ensures.value, c.put_pair-a.ensures.out_after) (c.put_counts-b.ensures.value, c.put_counts-b.ensures.out_after)
    (c.put_byte-c.ensures.value, c.put_byte-c.ensures.out_after) (c.put_word.ensures.value, c.put_word.ensures.out_after) in
    record { value = w.0; out_after = w.1 }
