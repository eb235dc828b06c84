-- Three stretches, one after another (`refused_wrote`).
-- Assumes nothing.
use Rattle.text.proofs.Written.{twenty_digits, refused_wrote}
use Rattle.text.proofs.answers.put_refused.Goals as goal

pub returns : goal.returns
returns c =
    let a = c.args in
    let w =
    refused_wrote a.out.now a.at a.refusal c.requires (twenty_digits _ c.ranges.refusal.fits)
    (c.put_bytes-a.ensures.value, c.put_bytes-a.ensures.out_after) (c.put_decimal-b.ensures.value, c.put_decimal-b.ensures.out_after)
    (c.put_byte.ensures.value, c.put_byte.ensures.out_after) in
    record { value = w.0; out_after = w.1 }
