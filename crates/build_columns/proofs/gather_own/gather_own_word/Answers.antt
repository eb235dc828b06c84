-- The picked word of each row is made in the working words and stored (`own_word`).
-- Assumes nothing.
use Prim.Native.Nat.{◌+◌, ◌-◌, ◌*◌}
use native.Mathlib.Omega.{arith}
use lib.ListN.{length}
use Rattle.build_columns.specs.Steps.{columns_of}
use Rattle.build_columns.proofs.Columns.{columns_below}
use Rattle.build_columns.proofs.Planes.{own_word}
use Rattle.build_columns.proofs.gather_own.gather_own_word.Goals as goal

pub returns : goal.returns
returns c =
    let a = c.args in
    let order = a.places.order.now in
    let p = c.requires.plane_of in
    own_word a.plane.now (columns_of a.places.half a.places.hw order) a.w a.r a.i a.e (length order) a.c
    (a.r * a.w + 243 * a.w - a.r * a.w) (omega arith) p.room c.requires.rows c.requires.column (columns_below p.halves)
    c.turn_own_pick.ensures c.store_block.ensures
