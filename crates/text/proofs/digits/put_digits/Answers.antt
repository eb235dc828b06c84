-- Each turn puts one digit's trit at the next place (`digit_put`).
use mathlib.Core.Path.{◌≡◌, refl}
use native.Mathlib.Omega.{arith}
use lib.ListN.{length}
use Rattle.text.specs.Digits.{digit_at, digit_row}
use Rattle.text.proofs.Rows.{digit_range, digit_put}
use Rattle.trits.proofs.Ends.{zeros_hold}
use Rattle.trits.proofs.Reading.{reads_holds}
use Rattle.text.proofs.digits.put_digits.Goals as goal

pub loop-i-init : goal.loop-i-init
loop-i-init c =
    let p = c.requires in
    (zeros_hold (digit_at c.args.field.now) p.ones_zero p.twos_zero refl, λ j. (c.type_inv.ones j).fits, λ j. (c.type_inv.twos j).fits)

pub overflow_sub-digit : goal.overflow_sub-digit
overflow_sub-digit c =
    omega (arith, digit_range c.args.field.now c.requires.are_digits c.loop-i.i (omega arith))

pub put_trit-requires : goal.put_trit-requires
put_trit-requires c =
    record {
      row = c.loop-i.invariant.0.row;
      place = omega arith;
      trit = omega (arith, digit_range c.args.field.now c.requires.are_digits c.loop-i.i (omega arith));
    }

pub loop-i-preserved : goal.loop-i-preserved
loop-i-preserved c =
    let l = c.loop-i in
    (digit_put c.args.field.now l.i l.invariant.0 l.auto.ones c.put_trit.ensures, λ j. (c.type_inv.ones j).fits, λ j. (c.type_inv.twos j).fits)

pub returns : goal.returns
unfolding digit_row
returns c =
    let l = c.loop-i in
    let e : l.i ≡ length c.args.field.now = omega arith in
    reads_holds l.ones l.twos _ _ (rw (← e) l.invariant.0) l.invariant.1 l.invariant.2
