-- Nothing is written where nothing is refused.
use mathlib.Core.Path.{refl, ap, ◌∙◌}
use native.Mathlib.Omega.{arith}
use lib.ListN.{length}
use Rattle.trits.specs.Rows.{put_words}
use Rattle.trits.specs.Refusal.{number_of}
use Rattle.trits.proofs.Refusals.{number_positive}
use Rattle.text.specs.Answers.{line_refused}
use Rattle.text_line.proofs.Lines.{none_put, printed_none, printed_refusal}
use Rattle.text_line.proofs.handle.print_changed.Goals as goal

pub returns-in-Ok : goal.returns-in-Ok
returns-in-Ok c =
    let e = printed_none 0 refl in
    rw c.in-Ok.is (record {
      held_value = refl;
      count_value = ap length e;
      out_after = none_put c.args.out.now ∙ ap (put_words 0 c.args.out.now) e;
    })

pub returns-in-Err : goal.returns-in-Err
returns-in-Err c =
    let r = c.in-Err.refusal in
    let e = ap line_refused c.from.ensures ∙ printed_refusal (number_of r) (λ z. omega (arith, number_positive r, z)) in
    let p = c.put_line_refused.ensures in
    rw c.in-Err.is (record {
      held_value = refl;
      count_value = p.value ∙ ap length e;
      out_after = p.out_after ∙ ap (put_words 0 c.args.out.now) e;
    })
