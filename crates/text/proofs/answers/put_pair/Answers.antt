-- Four stretches, one after another (`pair_wrote`), of at most 42 bytes.
-- Assumes nothing.
use Rattle.text.proofs.Written.{twenty_digits, pair_wrote}
use Rattle.text.proofs.answers.put_pair.Goals as goal

pub returns : goal.returns
returns c =
    let a = c.args in
    let w =
    pair_wrote a.out.now a.key a.formula c.requires (twenty_digits _ c.ranges.key.fits) (twenty_digits _ c.ranges.formula.fits)
    (c.put_decimal-a.ensures.value, c.put_decimal-a.ensures.out_after) (c.put_byte-b.ensures.value, c.put_byte-b.ensures.out_after)
    (c.put_decimal-c.ensures.value, c.put_decimal-c.ensures.out_after) (c.put_byte.ensures.value, c.put_byte.ensures.out_after) in
    record { value = w.0; out_after = w.1 }
