-- Each return has the number of the first test that applies: past the tests that passed, those that are left decide.
-- Assumes nothing.
use mathlib.Core.Path.{sym, ap, ◌∙◌}
use native.Mathlib.Omega.{arith}
use Rattle.scheme.specs.declared.sizes.Shape.{Shape}
use Rattle.trits.specs.Refusal.{refuse}
use Rattle.trits.proofs.Outcomes.{handed_on, refused_positive}
use Rattle.trits.proofs.Refusals.{first_stops}
use Rattle.matrix.proofs.Orders.{order_test}
use Rattle.scheme.specs.Sizes.{half, places}
use Rattle.scheme.proofs.Zeros.{no_zero_of}
use Rattle.calls.proofs.Bounds.{bounds}
use Rattle.draw_tests.specs.Steps.{chosen_lent}
use Rattle.draw_tests.proofs.Choices.{failed, order_told, y_told, from_zeros, from_u, from_u_order, from_v, from_v_order, from_y}
use Rattle.draw_tests.proofs.Choices.{from_p, past_p, past_y, past_v_order, past_v, past_u_order, past_u}
use Rattle.draw_tests.proofs.tests.test_choices.Goals as goal

pub is_order-requires : goal.is_order-requires
is_order-requires c =
    let b = bounds c.args.z.sizes c.args.z.fit in
    omega (arith, b.high, b.even, c.requires.order)

pub returns-then-not-is_order-clause-refusal : goal.returns-then-not-is_order-clause-refusal
returns-then-not-is_order-clause-refusal c =
    let a = c.args in
    let z = a.z.sizes in
    let i = chosen_lent a.p.now a.y a.choices in
    let l = c.requires in
    failed (from_y z i) (order_told _ _ l.order c.is_order.ensures c.if-not-is_order.true)
    ∙ from_p z i

pub test_planes-requires : goal.test_planes-requires
test_planes-requires c =
    let b = bounds c.args.z.sizes c.args.z.fit in
    let ru_is = ap (λ (s : Shape). s.ru) c.shape-shape.ensures in
    let rv_is = ap (λ (s : Shape). s.rv) c.shape-shape.ensures in
    record {
      ones_size = omega (arith, ru_is, rv_is, c.requires.y_ones);
      twos_size = omega (arith, ru_is, rv_is, c.requires.y_twos);
      small = omega
          (arith, ru_is, rv_is, b.high);
    }

pub returns-in_err-test_planes-clause-refusal : goal.returns-in_err-test_planes-clause-refusal
returns-in_err-test_planes-clause-refusal c =
    let a = c.args in
    let z = a.z.sizes in
    let i = chosen_lent a.p.now a.y a.choices in
    let l = c.requires in
    let r = c.from_residual.ensures in
    first_stops (from_v_order z i) (handed_on _ _ r.1 (y_told z i c.shape-shape.ensures c.in_err-test_planes.ensures.refusal)) (λ q. omega
    (arith, q, refused_positive _ r.0))
    ∙ past_p z i (order_told _ _ l.order c.is_order.ensures c.if-not-is_order.false)

pub is_order-requires-2 : goal.is_order-requires-2
is_order-requires-2 c =
    let b = bounds c.args.z.sizes c.args.z.fit in
    omega (arith, b.high, c.requires.order_v)

pub returns-then-not-is_order-2-clause-refusal : goal.returns-then-not-is_order-2-clause-refusal
returns-then-not-is_order-2-clause-refusal c =
    let a = c.args in
    let z = a.z.sizes in
    let i = chosen_lent a.p.now a.y a.choices in
    let l = c.requires in
    failed (from_v z i) (order_told _ _ l.order_v c.is_order-2.ensures c.if-not-is_order-2.true)
    ∙ past_y z i (order_told _ _ l.order c.is_order.ensures c.if-not-is_order.false) (y_told z i c.shape-shape.ensures c.in_ok-test_planes.ensures.refusal)

pub test_planes-requires-2 : goal.test_planes-requires-2
test_planes-requires-2 c =
    let b = bounds c.args.z.sizes c.args.z.fit in
    record { ones_size = omega (arith, c.requires.v_ones); twos_size = omega (arith, c.requires.v_twos); small = omega (arith, b.high, b.kv) }

pub returns-in_err-test_planes-2-clause-refusal : goal.returns-in_err-test_planes-2-clause-refusal
returns-in_err-test_planes-2-clause-refusal c =
    let a = c.args in
    let z = a.z.sizes in
    let i = chosen_lent a.p.now a.y a.choices in
    let l = c.requires in
    let r = c.from_residual-in_err-test_planes-2.ensures in
    first_stops (from_u_order z i) (handed_on _ _ r.1 c.in_err-test_planes-2.ensures.refusal) (λ q. omega (arith, q, refused_positive _ r.0))
    ∙ past_v_order z i (order_told _ _ l.order c.is_order.ensures c.if-not-is_order.false)
    (y_told z i c.shape-shape.ensures c.in_ok-test_planes.ensures.refusal) (order_told _ _ l.order_v c.is_order-2.ensures c.if-not-is_order-2.false)

pub is_order-requires-3 : goal.is_order-requires-3
is_order-requires-3 c =
    let b = bounds c.args.z.sizes c.args.z.fit in
    omega (arith, b.high, c.requires.order_u)

pub returns-then-not-is_order-3-clause-refusal : goal.returns-then-not-is_order-3-clause-refusal
returns-then-not-is_order-3-clause-refusal c =
    let a = c.args in
    let z = a.z.sizes in
    let i = chosen_lent a.p.now a.y a.choices in
    let l = c.requires in
    failed (from_u z i) (order_told _ _ l.order_u c.is_order-3.ensures c.if-not-is_order-3.true)
    ∙ past_v z i (order_told _ _ l.order c.is_order.ensures c.if-not-is_order.false) (y_told z i c.shape-shape.ensures c.in_ok-test_planes.ensures.refusal)
    (order_told _ _ l.order_v c.is_order-2.ensures c.if-not-is_order-2.false) c.in_ok-test_planes-2.ensures.refusal

pub test_planes-requires-3 : goal.test_planes-requires-3
test_planes-requires-3 c =
    let b = bounds c.args.z.sizes c.args.z.fit in
    record { ones_size = omega (arith, c.requires.u_ones); twos_size = omega (arith, c.requires.u_twos); small = omega (arith, b.high, b.ku) }

pub returns-in_err-test_planes-3-clause-refusal : goal.returns-in_err-test_planes-3-clause-refusal
returns-in_err-test_planes-3-clause-refusal c =
    let a = c.args in
    let z = a.z.sizes in
    let i = chosen_lent a.p.now a.y a.choices in
    let l = c.requires in
    let r = c.from_residual-in_err-test_planes-3.ensures in
    first_stops (from_zeros z i) (handed_on _ _ r.1 c.in_err-test_planes-3.ensures.refusal) (λ q. omega (arith, q, refused_positive _ r.0))
    ∙ past_u_order z i (order_told _ _ l.order c.is_order.ensures c.if-not-is_order.false)
    (y_told z i c.shape-shape.ensures c.in_ok-test_planes.ensures.refusal) (order_told _ _ l.order_v c.is_order-2.ensures c.if-not-is_order-2.false)
    c.in_ok-test_planes-2.ensures.refusal (order_told _ _ l.order_u c.is_order-3.ensures c.if-not-is_order-3.false)

pub overflow_sub-ku : goal.overflow_sub-ku
overflow_sub-ku c = omega (arith, (bounds c.args.z.sizes c.args.z.fit).gu)

pub has_zero-requires : goal.has_zero-requires
has_zero-requires c =
    let b = bounds c.args.z.sizes c.args.z.fit in
    record {
      twos_size = omega (arith, c.requires.u_ones, c.requires.u_twos);
      trits_fit = omega (arith, c.requires.u_ones, b.gu);
      stretch_small = omega (arith, b.gu, b.ku, b.high);
    }

pub returns-then-has_zero-clause-refusal : goal.returns-then-has_zero-clause-refusal
returns-then-has_zero-clause-refusal c =
    let a = c.args in
    let z = a.z.sizes in
    let i = chosen_lent a.p.now a.y a.choices in
    let l = c.requires in
    ap (λ t. refuse t 8 0) (sym c.if-has_zero.true ∙ c.has_zero.ensures)
    ∙ past_u z i (order_told _ _ l.order c.is_order.ensures c.if-not-is_order.false) (y_told z i c.shape-shape.ensures c.in_ok-test_planes.ensures.refusal)
    (order_told _ _ l.order_v c.is_order-2.ensures c.if-not-is_order-2.false) c.in_ok-test_planes-2.ensures.refusal
    (order_told _ _ l.order_u c.is_order-3.ensures c.if-not-is_order-3.false) c.in_ok-test_planes-3.ensures.refusal

pub returns-clause-refusal : goal.returns-clause-refusal
returns-clause-refusal c =
    let a = c.args in
    let z = a.z.sizes in
    let i = chosen_lent a.p.now a.y a.choices in
    let l = c.requires in
    ap (λ t. refuse t 8 0) (sym c.if-has_zero.false ∙ c.has_zero.ensures)
    ∙ past_u z i (order_told _ _ l.order c.is_order.ensures c.if-not-is_order.false) (y_told z i c.shape-shape.ensures c.in_ok-test_planes.ensures.refusal)
    (order_told _ _ l.order_v c.is_order-2.ensures c.if-not-is_order-2.false) c.in_ok-test_planes-2.ensures.refusal
    (order_told _ _ l.order_u c.is_order-3.ensures c.if-not-is_order-3.false) c.in_ok-test_planes-3.ensures.refusal

pub returns-clause-readable : goal.returns-clause-readable
returns-clause-readable c =
    let a = c.args in
    let z = a.z.sizes in
    let l = c.requires in
    record {
      p = order_test (places z) a.p.now (order_told _ _ l.order c.is_order.ensures c.if-not-is_order.false);
      y = c.in_ok-test_planes.ensures.readable;
      y_size = l.y_ones;
      order_v = order_test (half z) a.choices.v_order.now (order_told _ _ l.order_v c.is_order-2.ensures c.if-not-is_order-2.false);
      v = c.in_ok-test_planes-2.ensures.readable;
      v_size = l.v_ones;
      order_u = order_test (half z) a.choices.u_order.now (order_told _ _ l.order_u c.is_order-3.ensures c.if-not-is_order-3.false);
      u = c.in_ok-test_planes-3.ensures.readable;
      u_size = l.u_ones;
      values = no_zero_of _ _ (sym c.has_zero.ensures ∙ c.if-has_zero.false);
    }
