-- Each byte is one step of the machine, and what it prints is written.
use Rattle.std.proofs.Common.{◌≡◌, take}
use Rattle.std.specs.Io.KnownBytes.{Appends}
use Rattle.text_lines.specs.Machine.{machine}
use Rattle.check_lines.specs.{after, shown}
use Rattle.check_lines.proofs.chunk.Given as goal

abbrev pub invariant-loop-byte : goal.invariant-loop-byte
invariant-loop-byte g l = record {
  reached : machine l.state l.line l.ones l.twos
      ≡ after (take l.byte-index l.bytes) (machine l.initial.state l.initial.line l.initial.ones l.initial.twos);
  written : Appends (g.W.Write.contents l.initial.output) (g.W.Write.contents l.output)
      (shown (take l.byte-index l.bytes) (machine l.initial.state l.initial.line l.initial.ones l.initial.twos));
}
