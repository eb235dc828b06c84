-- Each turn takes in one digit (`value_next`); a value that has become too large stays so (`value_le`).
-- Assumes nothing.
use Prim.Native.Nat.{ℕ, ◌+◌, ◌-◌, ◌*◌}
use mathlib.Core.Path.{refl, sym, ap, ◌∙◌}
use native.Mathlib.Omega.{arith}
use lib.ListN.{get_or, drop}
use Rattle.text.specs.Steps.{at_most_large}
use Rattle.text.specs.Numbers.{value_from, value}
use Rattle.text.proofs.Numbers.{value_le, value_next, value_end, value_small, value_large}
use Rattle.text.proofs.fields.read_value.Goals as goal

pub loop-b-init : goal.loop-b-init
unfolding value
loop-b-init c =
    (omega arith, refl)

pub returns-then-v-ge-LARGE : goal.returns-then-v-ge-LARGE
unfolding value
returns-then-v-ge-LARGE c =
    let l = c.loop-b in
    let f = c.args.field.now in
    let e = c.from.ensures ∙ c.saturating_sub.ensures in
    let v = 10 * l.v + (get_or f l.b-index 0 - 48) in
    let n = sym (value_next f l.b-index l.v (omega arith)) ∙ l.invariant.1 in
    value_large (value_from 0 f) (omega (arith, n, value_le (drop (l.b-index + 1) f) v, c.if-v-ge-LARGE.true, e))

pub loop-b-preserved : goal.loop-b-preserved
loop-b-preserved c =
    let l = c.loop-b in
    let f = c.args.field.now in
    let e = c.from.ensures ∙ c.saturating_sub.ensures in (
      c.if-v-ge-LARGE.false,
      ap (λ (x : ℕ). value_from (10 * l.v + x) (drop (l.b-index + 1) f)) e ∙ sym (value_next f l.b-index l.v (omega arith))
          ∙ l.invariant.1,
    )

pub returns : goal.returns
unfolding value
returns c =
    let l = c.loop-b in
    let f = c.args.field.now in
    value_small l.v l.invariant.0 ∙ ap at_most_large (sym (value_end f l.b-index l.v (omega arith)) ∙ l.invariant.1)
