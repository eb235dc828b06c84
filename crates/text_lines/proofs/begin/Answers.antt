-- The header is written, and the state is all zero.
use Rattle.text_lines.specs.Machine.{no_line}
use Rattle.text_lines.specs.Print.{no_key}
use Rattle.text_lines.proofs.begin.Goals as goal

pub returns-clause-state_value : goal.returns-clause-state_value
unfolding no_key no_line
returns-clause-state_value c =
    let (len, (begun, (number, (n, (k, (w, rows)))))) = c.default.ensures in
    λ i. record { len = len i; held = record { begun = begun i; number = number i; n = n i; k = k i; w = w i; rows = rows i } }
