-- After each byte the row is written with the output's first trits, as many as the bytes read so far give (`Stands`, `byte_trits`).
-- Assumes nothing.
use lib.ListN.{length}
use Rattle.packed.specs.Stream.{stream_row}
use Rattle.packed.proofs.Putting.{Stands}
use Rattle.placing.specs.Steps.{Written}
use Rattle.keccak.specs.Lanes.{lane_at}
use Rattle.shake.specs.Output.{Gives}
use Rattle.syndrome.specs.Steps.{output_for}
use Rattle.syndrome.proofs.reading.put_output.Given as goal

abbrev pub invariant-loop-read : goal.invariant-loop-read
invariant-loop-read l =
    Stands l.m (output_for l.m l.fn.a) l.w.at l._read × Written (stream_row l.m (output_for l.m l.fn.a)) (length l.initial.ones) l.ones l.twos l.w
    × Gives (lane_at l.fn.a) l._read l.output.state l.output.block l.output.place
