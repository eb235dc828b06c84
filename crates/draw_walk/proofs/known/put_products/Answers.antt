-- Each turn gives one row more its product (`products_turn`); row e, which is past them, is read as it was.
-- Assumes nothing.
use native.Mathlib.Omega.{arith}
use Rattle.trits.specs.Rows.{matrix_at}
use Rattle.draw_walk.proofs.Products.{products_turn}
use Rattle.draw_walk.proofs.known.put_products.Goals as goal

pub loop-i-preserved : goal.loop-i-preserved
loop-i-preserved c =
    let A = matrix_at c.args.w c.args.ones.now c.args.twos.now in
    let H = matrix_at c.args.w c.args.h.ones.now c.args.h.twos.now in
    let a = c.args in
    let l = c.loop-i in
    products_turn H A a.m a.e (omega (arith, c.requires.e_past)) l.invariant c.lent_dot-t.ensures c.put_at.ensures
