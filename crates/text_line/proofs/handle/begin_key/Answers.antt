-- An n above 256 is refused, and any other is the checker's to judge.
use mathlib.Core.Path.{◌∙◌}
use native.Mathlib.Omega.{arith}
use Rattle.text_line.proofs.Lines.{key_long, key_short}
use Rattle.text_line.proofs.handle.begin_key.Goals as goal

pub returns-then-n-gt-MOST_PLACES : goal.returns-then-n-gt-MOST_PLACES
returns-then-n-gt-MOST_PLACES c =
    let a = c.args in
    let q = key_long a.held a.number a.n a.k a.w (omega (arith, c.if-n-gt-MOST_PLACES.true)) in
    record { refusal = q.0; state = q.1 }

pub returns : goal.returns
returns c =
    let a = c.args in
    let q = key_short a.held a.number a.n a.k a.w c.if-n-gt-MOST_PLACES.false in
    let p = c.begin.ensures in
    record {
      refusal = p.refusal ∙ q.0;
      state = p.state ∙ q.1;
    }
