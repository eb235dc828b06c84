-- Byte 10 ends the line, and any other byte is put into the buffer while there is room.
-- Assumes nothing.
use mathlib.Core.Path.{ap, ◌∙◌}
use native.Mathlib.Omega.{arith}
use lib.ListN.{length}
use Rattle.text_lines.specs.Machine.{machine}
use Rattle.text_line.proofs.Lines.{none_put}
use Rattle.trits.specs.Rows.{put_words}
use Rattle.text_lines.proofs.Bytes.{step_end, step_none, step_more, step_full}
use Rattle.text_lines.proofs.step.Goals as goal

pub returns-then-byte-eq-LINE_END : goal.returns-then-byte-eq-LINE_END
returns-then-byte-eq-LINE_END c =
    let a = c.args in
    let m = machine a.state a.line.now a.ones.now a.twos.now in
    let q = step_end m a.byte c.if-byte-eq-LINE_END.true in
    let p = c.end_line.ensures in
    record {
      twos_after = p.twos_after ∙ q.0;
      count_value = p.count_value ∙ ap length q.1;
      out_after = p.out_after ∙ ap (put_words 0 a.out.now) q.1;
    }

pub returns-then-len-lt1025 : goal.returns-then-len-lt1025
returns-then-len-lt1025 c =
    let m = machine c.args.state c.args.line.now c.args.ones.now c.args.twos.now in
    let f = c.if-byte-eq-LINE_END.false in
    let z = step_none m c.args.byte f in record {
      twos_after = step_more m c.args.byte f (omega (arith, c.if-len-lt1025.true));
      count_value = ap length z;
      out_after = none_put c.args.out.now ∙ ap (put_words 0 c.args.out.now) z;
    }

pub returns : goal.returns
returns c =
    let m = machine c.args.state c.args.line.now c.args.ones.now c.args.twos.now in
    let f = c.if-byte-eq-LINE_END.false in
    let z = step_none m c.args.byte f in
    record {
      twos_after = step_full m c.args.byte f c.if-len-lt1025.false;
      count_value = ap length z;
      out_after = none_put c.args.out.now ∙ ap (put_words 0 c.args.out.now) z;
    }
