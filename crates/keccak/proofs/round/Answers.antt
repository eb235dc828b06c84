-- Each step works on the arrays that the step before made (`round_made`).
-- Assumes nothing.
use Rattle.keccak.proofs.Lanes.{round_made}
use Rattle.keccak.proofs.round.Goals as goal

pub returns : goal.returns
returns c =
    let a = c.args in
    round_made a.constant a.a c.theta-mixed.ensures c.rho-rotated.ensures c.pi-moved.ensures c.chi-chosen.ensures c.iota.ensures
