-- The planes of a row, exchanged, are those of its negative (`read_exchanged`).
-- Assumes nothing.
use mathlib.Core.Path.{sym}
use Rattle.trits.proofs.Reading.{row_exchanged, read_exchanged}
use Rattle.rows.proofs.negate_row.Goals as goal

pub swap_with_slice-requires : goal.swap_with_slice-requires
swap_with_slice-requires c = sym c.requires.same

pub returns : goal.returns
returns c =
    let e = c.swap_with_slice.ensures in
    let after = e.after in
    let other = e.other_after in
    rw (after, other) (record { row = row_exchanged c.requires; size = c.requires.same; trits = read_exchanged c.requires })
