-- Where no bytes came the machine is as it was, and nothing was taken or written.
use Rattle.std.proofs.Common.{ℕ, [], subst, take, arith}
use Rattle.std.specs.Io.KnownBytes.{Consumes}
use Rattle.check_lines.proofs.After.{after_none}
use Rattle.check_lines.proofs.Answered.{printed_none, printed_as_taken}
use Rattle.check_lines.proofs.read_some.Goals as goal

pub returns-in-Err : goal.returns-in-Err
returns-in-Err g c = record {
  reached = ([], after_none _);
  printed = ([], after_none _, printed_none _ _ _ _ c.in-Err.ensures.bytes);
}

pub returns-in-Ok-eq0 : goal.returns-in-Ok-eq0
returns-in-Ok-eq0 g c =
    let z = c.in-Ok-eq0.field-0-test in
    let p = rw c.in-Ok-eq0.is at c.read.ensures.bytes in
    let r = g.R.Read.remaining c.args.input.now in
    let q = g.R.Read.remaining c.read.new.self in
    let w = g.W.Write.contents c.args.output.now in
    let k : Consumes r q [] = subst (λ (k : ℕ). Consumes r q (take k c.read.new.buf)) z p.0 in
    record {
      reached = ([], after_none _);
      printed = (([], after_none _, printed_as_taken r q w _ k), p.1 z (omega (arith, c.read.auto.buf)));
    }
