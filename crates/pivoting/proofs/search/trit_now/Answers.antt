-- Each turn takes one row of the block more from the trit, by numbers (`now_turn`).
-- Assumes nothing.
use Prim.Native.Nat.{◌+◌}
use mathlib.Core.Path.{ap, ◌∙◌}
use native.Mathlib.Omega.{arith}
use Rattle.trits.specs.Trit.{number}
use Rattle.trits.specs.Rows.{matrix_at}
use Rattle.matrix.specs.Blocks.{basis, from}
use Rattle.matrix.proofs.BasisRows.{basis_in}
use Rattle.pivoting.proofs.Numbers.{now_none, now_turn}
use Rattle.pivoting.proofs.search.trit_now.Goals as goal

pub loop-j-init : goal.loop-j-init
loop-j-init c =
    let a = c.args in
    let A = matrix_at a.w a.m.ones.now a.m.twos.now in
    now_none (from a.c) (basis a.r A) (A a.i) (a.c + a.k) c.number_of-t.ensures

pub number_of-b-requires : goal.number_of-b-requires
number_of-b-requires c =
    record {
      grid = c.requires.grid;
      small = c.requires.small;
      i_in = omega (arith, c.basis_row-p.ensures, basis_in c.args.r c.loop-j.j (omega (arith, c.requires.few)), c.requires.room);
      column = c.requires.column;
    }

pub loop-j-preserved : goal.loop-j-preserved
loop-j-preserved c =
    let a = c.args in
    let A = matrix_at a.w a.m.ones.now a.m.twos.now in
    now_turn (from a.c) (basis a.r A) (A a.i) (a.c + a.k) c.loop-j.j c.loop-j.invariant c.number_of-a.ensures
    (c.number_of-b.ensures ∙ ap (λ p. number (A p (a.c + a.k))) c.basis_row-p.ensures)
