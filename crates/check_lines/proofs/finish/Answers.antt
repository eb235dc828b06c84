-- What the end of the text prints stands at the front of the buffer.
use Rattle.std.proofs.Common.{ap, ◌∙◌, take}
use Rattle.check_lines.proofs.Answered.{front_put, end_printed}
use Rattle.check_lines.proofs.finish.Goals as goal

pub returns : goal.returns
returns g c =
    let a = c.args in
    let e = c.end-last.ensures in
    let n = c.end-last.result.count in
    rw c.in_ok-state.was (end_printed _ _ a.line.now a.ones.now a.twos.now c.in_ok-state.state c.print.result _ c.print.ensures
    (ap (take n) e.out_after ∙ front_put a.out.now _ n e.count_value))
