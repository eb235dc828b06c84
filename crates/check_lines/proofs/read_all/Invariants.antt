-- Each read takes the machine further by some bytes, and what they print is written.
use Rattle.text_lines.specs.Machine.{machine}
use Rattle.check_lines.specs.{PrintedTo}
use Rattle.check_lines.proofs.read_all.Given as goal

abbrev pub invariant-loop : goal.invariant-loop
invariant-loop g l = PrintedTo (g.R.Read.remaining l.initial.input) (g.R.Read.remaining l.input) (g.W.Write.contents l.initial.output)
    (g.W.Write.contents l.output) (machine l.initial.state l.initial.line l.initial.ones l.initial.twos) l.line l.ones l.twos l.state
