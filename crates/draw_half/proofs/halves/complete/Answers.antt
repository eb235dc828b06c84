-- Each step leaves every row but rows t and e, which end as they are to (`is_complete`).
-- Assumes nothing.
use Prim.Native.Nat.{◌+◌, ◌*◌}
use Rattle.trits.specs.Planes.{trit_at}
use Rattle.trits.specs.Rows.{matrix_at}
use Rattle.grid.proofs.Cells.{grid_of}
use Rattle.draw_half.proofs.HalfWords.{is_complete}
use Rattle.draw_half.proofs.halves.complete.Goals as goal

pub returns : goal.returns
returns c =
    let a = c.args in
    let p = c.requires in
    let g = c.take_from.ensures in
    grid_of g.rows (is_complete (matrix_at a.w a.ones.now a.twos.now) (64 * a.w) a.half.r a.half.order.now (a.half.r + a.half.gap)
    (trit_at a.v.ones.now a.v.twos.now) a.at.x a.at.t a.at.e p.t_past p.x_apart p.t_apart p.rows_apart c.supply.ensures.cells
    c.mark.ensures.cells c.solve_pivots.ensures.cells c.place_back.ensures.cells g.cells)
