-- V is solved first, and its row is kept while U is solved (`halves_solved`).
-- Assumes nothing.
use Prim.Native.Nat.{◌+◌}
use mathlib.Core.Path.{◌∙◌}
use native.Mathlib.Omega.{arith}
use lib.Dec.{lit<}
use Rattle.calls.specs.Lent.{planes_of, half_words, secret_of}
use Rattle.calls.proofs.Bounds.{bounds, prod}
use Rattle.matrix.proofs.Orders.{order_own}
use Rattle.draw_word.specs.Steps.{choices_lent}
use Rattle.draw_word.proofs.Stages.{ends_own, ends_to, told_v, told_u, kept_x, kept_u, halves_solved, unsolved}
use Rattle.draw_word.proofs.word.solve_halves.Goals as goal

pub overflow_add-rows : goal.overflow_add-rows
overflow_add-rows c = omega (arith, c.requires.small)

pub overflow_add-t : goal.overflow_add-t
overflow_add-t c = omega (arith, c.requires.small)

pub overflow_add-v : goal.overflow_add-v
overflow_add-v c = omega (arith, c.requires.small)

pub overflow_add-rows_v : goal.overflow_add-rows_v
overflow_add-rows_v c = omega (arith, c.requires.small)

pub overflow_add-rows_u : goal.overflow_add-rows_u
overflow_add-rows_u c = omega (arith, c.requires.small)

pub draw_v-requires : goal.draw_v-requires
draw_v-requires c =
    let z = c.args.z.sizes in
    let m = c.requires in
    let b = bounds z c.args.z.fit in
    -- the working space has few words
    let few = prod (c.args.l + 5) (half_words z) 8440 128 (omega (arith, m.small)) (omega (arith, b.high)) in
    rw c.shape-s.ensures (record {
      grid = m.grid;
      h_grid = m.secret.hv;
      v_row = m.v_row;
      is_order = order_own m.v_is_order;
      small = omega (arith, m.grid.size, few);
      narrow = omega (arith, b.high);
      places_fit = omega (arith, m.v_is_order.size);
      front = omega (arith, m.v_is_order.size, b.gv, b.kv);
      v_room = omega (arith, m.v_is_order.size, m.v_size_here, b.kv);
      x_past = omega (arith, m.v_few);
      x_in = omega arith;
      t_past = omega (arith, m.v_few);
      t_in = omega arith;
      e_past = omega (arith, m.v_few);
      e_in = omega arith;
      apart = λ w. omega arith;
      t_apart = λ w. omega arith;
      rows_apart = λ w. omega arith;
      x_ends = ends_own m.v_is_order m.v_ends;
      e_zero = m.ev_zero;
    })

pub returns-then-not-draw_v : goal.returns-then-not-draw_v
returns-then-not-draw_v c =
    let a = c.args in
    let z = a.z.sizes in
    let s = secret_of z (planes_of a.secret) in
    let ch = choices_lent a.choices in
    let m = c.requires in
    let v = rw c.shape-s.ensures at c.draw_v.ensures in
    (rw (told_v z a.l s ch m.v_is_order.size v.value c.if-not-draw_v.true), v.rows, unsolved (lit< tt))

pub draw_u-requires : goal.draw_u-requires
draw_u-requires c =
    let a = c.args in
    let z = a.z.sizes in
    let s = secret_of z (planes_of a.secret) in
    let ch = choices_lent a.choices in
    let m = c.requires in
    let k = m.secret in
    let b = bounds z a.z.fit in
    -- the working space has few words
    let few = prod (a.l + 5) (half_words z) 8440 128 (omega (arith, m.small)) (omega (arith, b.high)) in
    let v = rw c.shape-s.ensures at c.draw_v.ensures in
    let hv = v.solved_where.solved c.if-not-draw_v.false in
    rw c.shape-s.ensures (record {
      grid = v.rows;
      h_grid = k.hu;
      b_row = k.b;
      c_row = k.c;
      u_row = m.u_row;
      is_order = order_own m.u_is_order;
      small = omega (arith, v.rows.size, few);
      narrow = omega (arith, b.high);
      places_fit = omega (arith, m.u_is_order.size);
      front = omega (arith, m.u_is_order.size, b.gu, b.ku);
      u_room = omega (arith, m.u_is_order.size, m.u_size_here, b.ku);
      b_room = omega (arith, m.u_is_order.size, k.b_size);
      c_room = omega (arith, m.u_is_order.size, k.c_size);
      x_past = m.u_few;
      x_in = omega arith;
      t_past = omega (arith, m.u_few);
      t_in = omega arith;
      e_past = omega (arith, m.u_few);
      e_in = omega arith;
      apart = λ w. omega arith;
      t_apart = λ w. omega arith;
      rows_apart = λ w. omega arith;
      ev_past = omega (arith, m.u_few);
      ev_in = omega arith;
      ev_apart = λ w. omega arith;
      ev_t_apart = λ w. omega arith;
      x_ends = ends_own m.u_is_order (ends_to (kept_x z a.l s ch m.v_is_order.size hv m.v_few) m.u_ends);
      e_zero = kept_u z a.l s ch m.v_is_order.size hv m.v_few ∙ m.eu_zero;
    })

pub returns-then-not-draw_u : goal.returns-then-not-draw_u
returns-then-not-draw_u c =
    let a = c.args in
    let z = a.z.sizes in
    let s = secret_of z (planes_of a.secret) in
    let ch = choices_lent a.choices in
    let m = c.requires in
    let v = rw c.shape-s.ensures at c.draw_v.ensures in
    let u = rw c.shape-s.ensures at c.draw_u.ensures in (
      rw (told_v z a.l s ch m.v_is_order.size v.value c.if-not-draw_v.false, told_u z a.l s ch m.u_is_order.size u.value c.if-not-draw_u.true),
      u.rows,
      unsolved (lit< tt),
    )

pub returns : goal.returns
returns c =
    let a = c.args in
    let z = a.z.sizes in
    let s = secret_of z (planes_of a.secret) in
    let ch = choices_lent a.choices in
    let m = c.requires in
    let v = rw c.shape-s.ensures at c.draw_v.ensures in
    let u = rw c.shape-s.ensures at c.draw_u.ensures in (
      rw (told_v z a.l s ch m.v_is_order.size v.value c.if-not-draw_v.false, told_u z a.l s ch m.u_is_order.size u.value c.if-not-draw_u.false),
      u.rows,
      halves_solved z a.l s ch m.v_is_order.size (v.solved_where.solved c.if-not-draw_v.false) m.v_few m.u_is_order.size
          m.u_few (u.solved_where.solved c.if-not-draw_u.false),
    )
