-- Each turn exchanges the trits of one row more (`exchanged_turn`); past the rows every trit is 0.
-- Assumes nothing.
use mathlib.Core.Path.{◌≡◌, ap, sym, ◌∙◌}
use native.Mathlib.Omega.{arith}
use Rattle.trits.specs.Rows.{matrix_at}
use Rattle.grid.proofs.Cells.{cell_none}
use Rattle.arranging.proofs.Exchanges.{exchanged_to, exchanged_all}
use Rattle.arranging.proofs.columns.exchange_columns.Goals as goal

pub returns : goal.returns
returns c =
    let a = c.args in
    let l = c.loop-i in
    let e : l.i ≡ a.rows = omega arith in
    let z = cell_none c.requires.grid in
    record {
      rows = l.invariant.rows;
      cells = exchanged_all a.a a.b (matrix_at a.w a.ones.now a.twos.now) a.rows (l.invariant.cells
          ∙ ap (λ i. exchanged_to a.a a.b i (matrix_at a.w a.ones.now a.twos.now)) e)
          (λ k t u h. z k t h ∙ sym (z k u h));
    }
