-- The stages one after another; the weight of both rows is that of the word (`ending_fourteen`, `ending_none`).
-- Assumes nothing.
use Prim.Native.Nat.{◌*◌}
use mathlib.Core.Path.{refl, sym}
use native.Mathlib.Omega.{arith}
use lib.Dec.{lit<}
use Rattle.trits.proofs.Outcomes.{handed_on, refused_positive}
use Rattle.calls.specs.Lent.{half_words}
use Rattle.calls.proofs.Bounds.{bounds}
use Rattle.draw_tests.specs.Steps.{given_lent}
use Rattle.draw_word.proofs.Stages.{upto_row, ending_ranks, ending_fourteen, ending_none, made, unmade}
use Rattle.draw_word.proofs.word.make_word.Goals as goal

pub part_word-requires : goal.part_word-requires
part_word-requires c =
    let r = c.requires.ready in
    let k = r.secret in record {
      b_row = k.b;
      c_row = k.c;
      b_size_here = k.b_size;
      c_size_here = k.c_size;
      is_order = r.choices.p;
      y_size_here = r.choices.y_size;
      y_twos_here = r.choices.y.same;
      small = c.requires.small;
      work_ones_size = c.requires.work_ones_size;
      work_twos_size = c.requires.work_twos_size;
    }

pub solve_halves-requires : goal.solve_halves-requires
solve_halves-requires c =
    let r = c.requires.ready in
    let t = c.part_word.ensures.parted in record {
      secret = r.secret;
      v_is_order = r.choices.order_v;
      u_is_order = r.choices.order_u;
      v_row = r.choices.v;
      u_row = r.choices.u;
      v_size_here = r.choices.v_size;
      u_size_here = r.choices.u_size;
      u_few = c.requires.u_few;
      v_few = c.requires.v_few;
      small = c.requires.small;
      grid = c.part_word.ensures.rows;
      u_ends = upto_row _ t.left;
      v_ends = upto_row _ t.right;
      ev_zero = t.empty_v;
      eu_zero = t.empty_u;
    }

pub returns-in_err-solve_halves : goal.returns-in_err-solve_halves
returns-in_err-solve_halves c =
    let r = c.from_residual.ensures in
    let h = refused_positive _ r.0 in (
      ending_ranks c.args.z.sizes (given_lent c.args.secret c.args.p.now c.args.y c.args.choices) (handed_on _ _ r.1 c.in_err-solve_halves.ensures.0)
          (λ q. omega (arith, q, h)),
      c.solve_halves.ensures.1,
      unmade h,
    )

pub join_word-requires : goal.join_word-requires
join_word-requires c =
    let k = c.requires.ready.secret in record {
      b_row = k.b;
      c_row = k.c;
      b_size_here = k.b_size;
      c_size_here = k.c_size;
      small = c.requires.small;
      grid = c.solve_halves.ensures.1;
    }

pub returns-then-join_word-z : goal.returns-then-join_word-z
returns-then-join_word-z c =
    let z = c.args.z.sizes in
    let i = given_lent c.args.secret c.args.p.now c.args.y c.args.choices in
    let h = (bounds z c.args.z.fit).high in
    let (ranks, rows, solved) = c.in_ok-solve_halves.ensures in
    let (grid, joined, weight) = c.join_word.ensures in (
      ending_fourteen z i (sym ranks) c.args.l c.requires.ready c.part_word.ensures.parted refl solved joined (64 * half_words z) (omega (arith, h)) weight
          c.if-join_word-z.true,
      grid,
      unmade (lit< tt),
    )

pub returns : goal.returns
returns c =
    let z = c.args.z.sizes in
    let i = given_lent c.args.secret c.args.p.now c.args.y c.args.choices in
    let h = (bounds z c.args.z.fit).high in
    let (ranks, rows, solved) = c.in_ok-solve_halves.ensures in
    let (grid, joined, weight) = c.join_word.ensures in (
      ending_none z i (sym ranks) c.args.l c.requires.ready c.part_word.ensures.parted refl solved joined (64 * half_words z) (omega (arith, h)) weight
          c.if-join_word-z.false,
      grid,
      made z i (sym ranks) c.args.l c.requires.ready c.part_word.ensures.parted refl solved joined,
    )
