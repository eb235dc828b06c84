-- The row is stored, and its refusal printed.
use mathlib.Core.Path.{ap, ◌∙◌}
use lib.ListN.{length}
use Rattle.trits.specs.Rows.{put_words}
use Rattle.text_line.specs.Answer.{refusal_prints, holding}
use Rattle.text_line.proofs.handle.handle_row.Goals as goal

pub returns : goal.returns
returns c =
    let p = c.store_digits.ensures in
    let q = c.print_changed.ensures in
    let e = ap refusal_prints p.refusal in
    record {
      twos_after = (λ i. holding (q.held_value i) c.store_digits.new.ones c.store_digits.new.twos) ∙ p.kept;
      count_value = q.count_value ∙ ap length e;
      out_after = q.out_after ∙ ap (put_words 0 c.args.out.now) e;
    }
