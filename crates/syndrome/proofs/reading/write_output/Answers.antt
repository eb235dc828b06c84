-- All of the output's trits are written, and past them the row is 0 (`stream_read`).
-- Assumes nothing.
use Rattle.placing.proofs.Writing.{stream_read}
use Rattle.syndrome.specs.Steps.{output_for}
use Rattle.syndrome.proofs.reading.write_output.Goals as goal

pub returns : goal.returns
returns c =
    let place = c.put_output-all.ensures.at_value in
    let w = c.put_output-all.ensures.written in
    stream_read c.args.m (output_for c.args.m c.args.a) c.requires.ones_size place w c.finish.ensures
