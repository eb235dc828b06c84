-- Each form's answer is that of the line it was read from (`line_kept_law`, `line_prints_here`).
use Rattle.std.proofs.Common.{◌≡◌, ℕ, List, length, ap, ◌∙◌}
use Rattle.trits.specs.Rows.{put_words}
use Rattle.text.specs.Forms.{Line}
use Rattle.text.specs.Steps.{bounded}
use Rattle.held_key.specs.Load.{Holding}
use Rattle.text_line.specs.Answer.{refusal_prints, line_prints, line_prints_under, line_kept_under, holding, read_line}
use Rattle.text_line.proofs.Lines.{line_kept_law, line_prints_here}
use Rattle.text_line.proofs.handle.handle.Goals as goal

-- what is printed for the form is printed for the line
module _ (kept : Holding) (l : Line) {f : Line} (e : f ≡ bounded l) where
  told : (count : ℕ) → count ≡ length (line_prints kept f) → count ≡ length (line_prints kept l)
  told count p = p ∙ ap length (line_prints_here kept l e)

  printed : (old new : List ℕ) → new ≡ put_words 0 old (line_prints kept f) → new ≡ put_words 0 old (line_prints kept l)
  printed old new p = p ∙ ap (put_words 0 old) (line_prints_here kept l e)

pub returns-in-Some-Key : goal.returns-in-Some-Key
unfolding line_kept_under line_prints_under
returns-in-Some-Key c =
    let a = c.args in
    let k = holding a.held a.ones.now a.twos.now in
    let l = read_line a.line.now in
    let e = rw c.in-Some-Key.field-0-is at c.in-Some-Key.ensures.result_value in
    let p = c.handle_key.ensures in
    record {
      twos_after = (λ i. holding (p.held_value i) a.ones.now a.twos.now) ∙ line_kept_law k l e;
      count_value = told k l e _ p.count_value;
      out_after = printed k l e _ _ p.out_after;
    }

pub returns-in-Some-Row : goal.returns-in-Some-Row
unfolding line_kept_under line_prints_under
returns-in-Some-Row c =
    let a = c.args in
    let k = holding a.held a.ones.now a.twos.now in
    let l = read_line a.line.now in
    let e = rw c.in-Some-Row.field-0-is at c.in-Some-Row.ensures.result_value in
    let p = c.handle_row.ensures in
    record {
      twos_after = p.twos_after ∙ line_kept_law k l e;
      count_value = told k l e _ p.count_value;
      out_after = printed k l e _ _ p.out_after;
    }

pub returns-in-Some-Sign : goal.returns-in-Some-Sign
unfolding line_kept_under line_prints_under
returns-in-Some-Sign c =
    let a = c.args in
    let k = holding a.held a.ones.now a.twos.now in
    let l = read_line a.line.now in
    let e = rw c.in-Some-Sign.field-0-is at c.in-Some-Sign.ensures.result_value in
    let p = c.handle_sign.ensures in
    record {
      twos_after = line_kept_law k l e;
      count_value = told k l e _ p.value;
      out_after = printed k l e _ _ p.out_after;
    }

pub returns-in-None : goal.returns-in-None
unfolding line_kept_under line_prints_under refusal_prints
returns-in-None c =
    let a = c.args in
    let k = holding a.held a.ones.now a.twos.now in
    let l = read_line a.line.now in
    let e = c.in-None.ensures.result_value in
    let p = c.print_changed.ensures in
    record {
      twos_after = (λ i. holding (p.held_value i) a.ones.now a.twos.now) ∙ line_kept_law k l e;
      count_value = told k l e _ p.count_value;
      out_after = printed k l e _ _ p.out_after;
    }
