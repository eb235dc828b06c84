-- What stands at each place of the table is what the walk puts there: antt computes the 25 offsets and compares them (`lane_of`).
-- Assumes nothing.
use Rattle.keccak.specs.Keccak.{walk, offset_before, offset}
use Rattle.keccak.specs.Lanes.{lane_at, sheet_of, lanes_of}
use Rattle.keccak.proofs.Lanes.{lane_of}
use Rattle.keccak.proofs.tables.offset.Goals as goal

pub returns : goal.returns
unfolding lane_at lanes_of offset offset_before sheet_of walk
returns c =
    lane_of offset c.args.x c.args.y c.requires.0 c.requires.1
