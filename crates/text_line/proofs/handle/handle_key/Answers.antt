-- The key is begun, and its refusal printed.
use mathlib.Core.Path.{ap, ◌∙◌}
use lib.ListN.{length}
use Rattle.trits.specs.Rows.{put_words}
use Rattle.text_line.specs.Answer.{refusal_prints}
use Rattle.text_line.proofs.handle.handle_key.Goals as goal

pub returns : goal.returns
returns c =
    let p = c.begin_key.ensures in
    let q = c.print_changed.ensures in
    let e = ap refusal_prints p.refusal in
    record {
      held_value = q.held_value ∙ p.state;
      count_value = q.count_value ∙ ap length e;
      out_after = q.out_after ∙ ap (put_words 0 c.args.out.now) e;
    }
