-- All words of row d become those of row i (`within_whole`).
-- Assumes nothing.
use mathlib.Core.Path.{ap}
use Rattle.trits.specs.Rows.{matrix_at}
use Rattle.grid.specs.Steps.{put_row}
use Rattle.grid.proofs.Cells.{grid_to}
use Rattle.grid.proofs.Words.{within_whole}
use Rattle.grid.proofs.sums.copy_row.Goals as goal

pub returns : goal.returns
returns c =
    let a = c.args in
    let A = matrix_at a.w a.ones.now a.twos.now in
    grid_to c.copy_words.ensures (ap (λ v. put_row a.d v A) (within_whole a.w a.ones.now a.twos.now a.d a.i))
