-- Key and formula, and then what every refused line ends in (`sign_wrote`).
-- Assumes nothing.
use Rattle.text.proofs.Written.{twenty_digits, sign_wrote}
use Rattle.text.proofs.answers.put_sign_refused.Goals as goal

pub returns : goal.returns
returns c =
    let a = c.args in
    let w =
    sign_wrote a.out.now c.requires a.key a.formula a.refusal (twenty_digits _ c.ranges.refusal.fits)
    (c.put_pair-a.ensures.value, c.put_pair-a.ensures.out_after) (c.put_refused.ensures.value, c.put_refused.ensures.out_after) in
    record { value = w.0; out_after = w.1 }
