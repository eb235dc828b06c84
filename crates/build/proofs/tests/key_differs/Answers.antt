-- Each test is one of the definition (`key_differs_in_turn`).
-- Assumes nothing.
use native.Mathlib.Omega.{arith}
use Rattle.std.proofs.Common.{rules}
use Rattle.calls.proofs.Bounds.{bounds}
use Rattle.build_ranks.proofs.Lengths.{products}
use Rattle.build_release.proofs.Released.{row_words}
use Rattle.build.proofs.Answers.{key_differs_in_turn}
use Rattle.build.proofs.tests.key_differs.Goals as goal

pub overflow_add-k : goal.overflow_add-k
overflow_add-k c =
    let b = bounds c.args.z.sizes c.args.z.fit in
    omega (arith, b.high, b.ku, b.kv)

pub overflow_mul-k : goal.overflow_mul-k
overflow_mul-k c =
    let z = c.args.z in
    rw (row_words z.sizes c.shape-half.ensures c.div_ceil.ensures) (omega (arith, (products z.sizes (bounds z.sizes z.fit)).key))

pub overflow_add-rows-else-pair_differs-2 : goal.overflow_add-rows-else-pair_differs-2
overflow_add-rows-else-pair_differs-2 c =
    let z = c.args.z in
    rw c.shape-half.ensures (omega (arith, (bounds z.sizes z.fit).high))

pub overflow_mul-rows : goal.overflow_mul-rows
overflow_mul-rows c =
    let z = c.args.z in
    rw c.shape-half.ensures (omega (arith, (products z.sizes (bounds z.sizes z.fit)).work))

pub returns-then-pair_differs-2 : goal.returns-then-pair_differs-2
returns-then-pair_differs-2 c =
    key_differs_in_turn c.args.z.sizes c.shape-half.ensures _ _ _ _ _ _ c.pair_differs.result c.if-pair_differs.value
    (search rules) (search rules) (search rules)

pub returns-else-pair_differs-2 : goal.returns-else-pair_differs-2
returns-else-pair_differs-2 c =
    key_differs_in_turn c.args.z.sizes c.shape-half.ensures _ _ _ _ _ _ c.pair_differs.result c.if-pair_differs.value
    (search rules) (search rules) (search rules)
