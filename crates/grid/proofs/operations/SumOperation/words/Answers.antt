-- The masks are those of the sum (`add_op`).
-- Assumes nothing.
use Rattle.trits.proofs.WordOps.{add_op, op_apart, op_trit}
use Rattle.grid.proofs.operations.SumOperation.words.Goals as goal

pub returns : goal.returns
returns c =
    let n = c.args in
    record { apart = λ p q. op_apart add_op n.a n.b n.c n.d p q; trits = λ p q k. op_trit add_op n.a n.b n.c n.d p q k }
