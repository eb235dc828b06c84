-- The check's answer is printed.
use mathlib.Core.Path.{ap, ◌∙◌}
use lib.ListN.{length}
use Rattle.trits.specs.Rows.{put_words}
use Rattle.text_line.specs.Answer.{sign_prints}
use Rattle.text_line.proofs.handle.handle_sign.Goals as goal

pub returns : goal.returns
returns c =
    let a = c.args in
    let e = ap (sign_prints a.number a.formula) c.check_digits.ensures in
    let q = c.print_sign.ensures in
    record {
      value = q.value ∙ ap length e;
      out_after = q.out_after ∙ ap (put_words 0 a.out.now) e;
    }
