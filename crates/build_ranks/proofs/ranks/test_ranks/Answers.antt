-- Each rank is compared with the number of rows, that of H_U first.
-- Assumes nothing.
use native.Mathlib.Omega.{arith}
use borrow.Author.Rules.{rules}
use Rattle.calls.proofs.Bounds.{bounds}
use Rattle.build_ranks.proofs.Lengths.{products, lacks_u, lacks_v, lacks_none}
use Rattle.build_ranks.proofs.ranks.test_ranks.Goals as goal

pub rank_of-requires : goal.rank_of-requires
rank_of-requires c =
    let b = bounds c.args.z.sizes c.args.z.fit in
    let p = products c.args.z.sizes b in
    rw c.shape-half.ensures
    (record {
      grid = c.requires.hu_grid;
      small = omega (arith, p.u_room, p.work);
      narrow = omega (arith, b.high);
      some = omega (arith, b.low);
      columns = omega arith;
      work_ones = omega (arith, p.u_room, c.requires.work_ones);
      work_twos = omega (arith, p.u_room, c.requires.work_twos);
    })

pub rank_of-requires-2 : goal.rank_of-requires-2
rank_of-requires-2 c =
    let b = bounds c.args.z.sizes c.args.z.fit in
    let p = products c.args.z.sizes b in
    rw c.shape-half.ensures
    (record {
      grid = search rules;
      small = omega (arith, p.v_room, p.work);
      narrow = omega (arith, b.high);
      some = omega (arith, b.low);
      columns = omega arith;
      work_ones = omega (arith, p.v_room, c.requires.work_ones);
      work_twos = omega (arith, p.v_room, c.requires.work_twos);
    })

pub returns-then-rank_of-ru : goal.returns-then-rank_of-ru
returns-then-rank_of-ru c =
    let e = c.shape-half.ensures in
    lacks_u _ _ (rw e at c.rank_of.ensures) (rw e at c.if-rank_of-ru.true)

pub returns-then-rank_of-rv : goal.returns-then-rank_of-rv
returns-then-rank_of-rv c =
    let e = c.shape-half.ensures in
    lacks_v _ _ (rw e at c.rank_of.ensures) (rw e at c.if-rank_of-ru.false) (rw e at c.rank_of-2.ensures) (rw e at c.if-rank_of-rv.true)

pub returns : goal.returns
returns c =
    let e = c.shape-half.ensures in
    lacks_none _ _ (rw e at c.rank_of.ensures) (rw e at c.if-rank_of-ru.false) (rw e at c.rank_of-2.ensures) (rw e at c.if-rank_of-rv.false)
