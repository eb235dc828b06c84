-- Two dashes, and then what every refused line ends in (`line_wrote`).
-- Assumes nothing.
use Rattle.text.proofs.Written.{twenty_digits, line_wrote}
use Rattle.text.proofs.answers.put_line_refused.Goals as goal

pub returns : goal.returns
returns c =
    let w =
    line_wrote c.args.out.now c.requires c.args.refusal (twenty_digits _ c.ranges.refusal.fits)
    (c.put_bytes-a.ensures.value, c.put_bytes-a.ensures.out_after) (c.put_refused.ensures.value, c.put_refused.ensures.out_after) in
    record { value = w.0; out_after = w.1 }
