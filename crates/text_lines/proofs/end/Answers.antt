-- A last line that is not empty counts, and an empty one does not.
-- Assumes nothing.
use mathlib.Core.Path.{ap, ◌∙◌}
use native.Mathlib.Omega.{arith}
use lib.ListN.{length}
use Rattle.text_lines.specs.Machine.{machine}
use Rattle.text_line.proofs.Lines.{none_put}
use Rattle.trits.specs.Rows.{put_words}
use Rattle.text_lines.proofs.Bytes.{end_none, end_some}
use Rattle.text_lines.proofs.end.Goals as goal

pub returns-then-state-eq0 : goal.returns-then-state-eq0
returns-then-state-eq0 c =
    let m = machine c.args.state c.args.line.now c.args.ones.now c.args.twos.now in
    let q = end_none m (omega (arith, c.if-state-eq0.true)) in
    record {
      twos_after = q.0;
      count_value = ap length q.1;
      out_after = none_put c.args.out.now ∙ ap (put_words 0 c.args.out.now) q.1;
    }

pub returns : goal.returns
returns c =
    let a = c.args in
    let m = machine a.state a.line.now a.ones.now a.twos.now in
    let q = end_some m c.if-state-eq0.false in
    let p = c.end_line.ensures in
    record {
      twos_after = p.twos_after ∙ q.0;
      count_value = p.count_value ∙ ap length q.1;
      out_after = p.out_after ∙ ap (put_words 0 a.out.now) q.1;
    }
