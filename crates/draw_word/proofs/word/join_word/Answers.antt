-- By what joining and weighing say of the two rows (`word_joined`).
-- Assumes nothing.
use native.Mathlib.Omega.{arith}
use Rattle.calls.specs.Lent.{half_words}
use Rattle.calls.proofs.Bounds.{bounds}
use Rattle.draw_word.specs.Steps.{pairs_of}
use Rattle.draw_word.proofs.Stages.{word_joined}
use Rattle.draw_word.proofs.word.join_word.Goals as goal

pub overflow_add-rows : goal.overflow_add-rows
overflow_add-rows c = omega (arith, c.requires.small)

pub overflow_add-v : goal.overflow_add-v
overflow_add-v c = omega (arith, c.requires.small)

pub overflow_add-u : goal.overflow_add-u
overflow_add-u c = omega (arith, c.requires.small)

pub overflow_add-l : goal.overflow_add-l
overflow_add-l c = omega (arith, c.requires.small)

pub join_halves-requires : goal.join_halves-requires
join_halves-requires c =
    rw c.shape-s.ensures (record {
      grid = c.requires.grid;
      b_row = c.requires.b_row;
      c_row = c.requires.c_row;
      u_in = omega arith;
      v_in = omega arith;
      t_in = omega arith;
      u_apart = λ w. omega arith;
      v_apart = λ w. omega arith;
      b_size_here = c.requires.b_size_here;
      c_size_here = c.requires.c_size_here;
    })

pub pair_weight-requires : goal.pair_weight-requires
pair_weight-requires c =
    let b = bounds c.args.z.sizes c.args.z.fit in
    let e = c.shape-s.ensures in
    rw e (record {
      grid = (rw e at c.join_halves.ensures).rows;
      few = omega (arith, c.requires.small);
      narrow = omega (arith, b.high);
      u_in = omega arith;
      v_in = omega arith;
    })

pub returns : goal.returns
returns c =
    let a = c.args in
    let e = c.shape-s.ensures in
    let j = rw e at c.join_halves.ensures in (
      j.rows,
      word_joined a.l (pairs_of a.b.ones.now a.b.twos.now a.c.ones.now a.c.twos.now) (half_words a.z.sizes) _ _ _ _ j,
      rw e at c.pair_weight.ensures,
    )
