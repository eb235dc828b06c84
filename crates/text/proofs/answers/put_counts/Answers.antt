-- Three stretches, one after another (`counts_wrote`).
-- Assumes nothing.
use Rattle.text.proofs.Written.{twenty_digits, counts_wrote}
use Rattle.text.proofs.answers.put_counts.Goals as goal

pub returns : goal.returns
returns c =
    let a = c.args in
    let w =
    counts_wrote a.out.now a.at a.ones a.twos c.requires (twenty_digits _ c.ranges.ones.fits) (twenty_digits _ c.ranges.twos.fits)
    (c.put_decimal-a.ensures.value, c.put_decimal-a.ensures.out_after) (c.put_byte-b.ensures.value, c.put_byte-b.ensures.out_after)
    (c.put_decimal.ensures.value, c.put_decimal.ensures.out_after) in
    record { value = w.0; out_after = w.1 }
