-- Each number follows the one before, and its byte is written in its turn.
-- Assumes nothing.
use mathlib.Core.Path.{◌≡◌}
use lib.ListN.{take}
use Rattle.sign_lines.specs.{number_after, packed_after}
use Rattle.sign_lines.proofs.samples.fill_bytes.Given as goal

abbrev pub invariant-loop-byte : goal.invariant-loop-byte
invariant-loop-byte l =
    (l.state ≡ number_after l.byte-index l.x) × (take l.byte-index l.bytes ≡ packed_after l.byte-index l.x)
