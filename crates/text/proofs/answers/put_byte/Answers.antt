-- One byte is one store (`put_one`).
-- Assumes nothing.
use mathlib.Core.Path.{refl}
use Rattle.text.proofs.Written.{put_one}
use Rattle.text.proofs.answers.put_byte.Goals as goal

pub returns : goal.returns
returns c =
    record {
      value = refl;
      out_after = put_one c.args.out.now c.args.at c.args.b c.requires;
    }
