-- After each byte the row is written with the stream's first trits, as many as the bytes read so far give (`Stands`, `next_trits`).
-- Assumes nothing.
use lib.ListN.{length}
use Rattle.packed.specs.Stream.{stream_row}
use Rattle.packed.proofs.Putting.{Stands}
use Rattle.placing.specs.Steps.{Written}
use Rattle.placing.proofs.stream.put_stream.Given as goal

abbrev pub invariant-loop-b : goal.invariant-loop-b
invariant-loop-b l =
    Stands l.m l.bytes l.w.at l.b-index × Written (stream_row l.m l.bytes) (length l.initial.ones) l.ones l.twos l.w
