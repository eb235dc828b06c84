-- A line above 1,024 bytes is none of the forms; any other is the first bytes of the buffer.
-- Assumes nothing.
use mathlib.Core.Path.{refl, ap, ◌∙◌}
use Prim.Native.Nat.{ℕ}
use lib.ListN.{length}
use Rattle.text_line.specs.Answer.{line_prints, line_prints_under, line_kept_under}
use Rattle.text_lines.specs.Machine.{machine}
use Rattle.trits.specs.Rows.{put_words}
use Rattle.text.specs.Forms.{Line}
use Rattle.text.specs.Answers.{line_refused}
use Rattle.text_lines.proofs.Bytes.{gathered_long, gathered_short, ended_as}
use Rattle.text_lines.proofs.end_line.Goals as goal

pub returns-then-len-gt1024 : goal.returns-then-len-gt1024
unfolding line_kept_under line_prints_under
returns-then-len-gt1024 c =
    let a = c.args in
    let m = machine a.state a.line.now a.ones.now a.twos.now in
    let e = gathered_long m c.if-len-gt1024.true in
    let p = c.put_line_refused.ensures in record {
      twos_after = ended_as m e refl;
      count_value = p.value ∙ ap (λ (r : ℕ). length (line_refused r)) c.from.ensures ∙ ap (λ (x : Line). length (line_prints m.kept x)) e;
      out_after = p.out_after ∙ ap (λ (r : ℕ). put_words 0 a.out.now (line_refused r)) c.from.ensures
          ∙ ap (λ (x : Line). put_words 0 a.out.now (line_prints m.kept x)) e;
    }

pub returns : goal.returns
returns c =
    let a = c.args in
    let m = machine a.state a.line.now a.ones.now a.twos.now in
    let e = gathered_short m c.if-len-gt1024.false in
    let p = c.handle-count.ensures in record {
      twos_after = ended_as m e p.twos_after;
      count_value = p.count_value ∙ ap (λ (x : Line). length (line_prints m.kept x)) e;
      out_after = p.out_after ∙ ap (λ (x : Line). put_words 0 a.out.now (line_prints m.kept x)) e;
    }
