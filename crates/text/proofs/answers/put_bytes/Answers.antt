-- The bytes are written to the part that begins at their place (`put_part`).
use native.Mathlib.Omega.{arith}
use Rattle.text.proofs.Written.{put_part}
use Rattle.text.proofs.answers.put_bytes.Goals as goal

pub returns-clause-out_after : goal.returns-clause-out_after
returns-clause-out_after c = put_part c.args.at c.args.bytes.now c.args.out.now (omega arith) c.copy_from_slice.ensures.after
