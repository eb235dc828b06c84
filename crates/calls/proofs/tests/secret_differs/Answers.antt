-- Each test is one of the definition (`secret_differs_in_turn`).
-- Assumes nothing.
use native.Mathlib.Omega.{arith}
use Rattle.std.proofs.Common.{rules}
use Rattle.calls.proofs.Bounds.{bounds, words}
use Rattle.calls.proofs.Secrets.{secret_differs_in_turn}
use Rattle.calls.proofs.tests.secret_differs.Goals as goal

pub overflow_mul-s : goal.overflow_mul-s
overflow_mul-s c =
    let z = c.args.z in
    rw c.shape-s.ensures (omega (arith, (words z.sizes (bounds z.sizes z.fit)).u))

pub overflow_mul-s-else-pair_differs : goal.overflow_mul-s-else-pair_differs
overflow_mul-s-else-pair_differs c =
    let z = c.args.z in
    rw c.shape-s.ensures (omega (arith, (words z.sizes (bounds z.sizes z.fit)).v))

pub returns-then-pair_differs-3 : goal.returns-then-pair_differs-3
returns-then-pair_differs-3 c =
    secret_differs_in_turn c.args.z.sizes _ _ _ _ _ _ _ _ c.shape-s.ensures c.pair_differs.result c.if-pair_differs.value c.if-pair_differs-2.value
    (search rules) (search rules) (search rules) (search rules)

pub returns-else-pair_differs-3 : goal.returns-else-pair_differs-3
returns-else-pair_differs-3 c =
    secret_differs_in_turn c.args.z.sizes _ _ _ _ _ _ _ _ c.shape-s.ensures c.pair_differs.result c.if-pair_differs.value c.if-pair_differs-2.value
    (search rules) (search rules) (search rules) (search rules)
