-- What a write takes follows what was written.
use Rattle.std.proofs.Common.{◌-◌, length, drop, arith}
use Rattle.std.proofs.lemmas.List.{length-take}
use Rattle.check_lines.proofs.Answered.{appends_then, appends_as, taken_on}
use Rattle.check_lines.proofs.print.Goals as goal

pub loop-done-preserved : goal.loop-done-preserved
loop-done-preserved g c =
    let l = c.loop-done in
    let n = c.in-Ok.n in
    let bytes = c.args.bytes.now in
    let h = length-take (length bytes - l.done) (drop l.done bytes) in
    record {
      in_range = omega (arith, l.invariant.in_range, c.in-Ok.ensures.bound, h);
      written =
          appends_as _ _ (taken_on l.done n (length bytes) bytes (omega (arith, c.in-Ok.ensures.bound, h)))
          (appends_then _ _ _ _ _ l.invariant.written c.in-Ok.ensures.bytes);
    }
