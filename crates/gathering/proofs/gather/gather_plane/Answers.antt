-- Each turn gathers up to 64 rows more (`plane_turn`).
-- Assumes nothing.
use mathlib.Core.Path.{◌≡◌}
use native.Mathlib.Omega.{arith}
use Rattle.std.specs.Prelude.{min}
use Rattle.gathering.proofs.Planes.{plane_none, plane_to}
use Rattle.gathering.proofs.gather.gather_plane.Goals as goal

pub loop-i-init : goal.loop-i-init
loop-i-init c =
    let a = c.args in
    let e : min 0 a.r ≡ 0 = omega arith in
    rw e (plane_none a.w a.r a.h.now a.order.now a.m a.plane.now)

pub loop-i-preserved : goal.loop-i-preserved
loop-i-preserved c =
    let l = c.loop-i in
    plane_to _ (min l.i c.args.r) l.invariant (omega arith) c.gather_rows.ensures c.end_of.ensures

pub returns : goal.returns
returns c =
    let l = c.loop-i in
    let e : min l.i c.args.r ≡ c.args.r = omega arith in
    rw e at l.invariant

-- the last rows
pub returns-2 : goal.returns-2
returns-2 c =
    let l = c.loop-i in
    plane_to c.args.r (min l.i c.args.r) l.invariant (omega arith) c.gather_rows.ensures (omega (arith, c.end_of.ensures))
