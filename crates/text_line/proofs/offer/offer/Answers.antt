-- The planes hold the digits' row (`offered`); a wrong count offers no words.
use Prim.Native.Nat.{◌+◌, ◌/◌}
use mathlib.Core.Path.{◌≡◌, refl, sym, ap, ◌∙◌}
use native.Mathlib.Omega.{arith}
use lib.ListN.{length}
use Rattle.text_line.proofs.Lent.{offered_none, offered}
use Rattle.trits.specs.Planes.{zero_words}
use Rattle.trits.proofs.Lists.{length_zeros}
use Rattle.text_line.proofs.offer.offer.Goals as goal

pub returns-then-digits-m : goal.returns-then-digits-m
returns-then-digits-m c =
    let p = offered_none c.args.m c.args.digits.now c.if-digits-m.true in
    record { upper_bound = omega arith; ones_after = p.0; twos_after = p.1 }

pub put_digits-requires : goal.put_digits-requires
put_digits-requires c =
    let e : length c.args.ones.now ≡ 16 = ap length c.requires.ones_zero ∙ length_zeros 16 in record {
      are_digits = c.requires.are_digits;
      ones_zero = c.requires.ones_zero ∙ ap zero_words (sym e);
      twos_zero = c.requires.twos_zero ∙ ap zero_words (sym e);
      room = omega (arith, e, c.requires.short);
    }

pub returns : goal.returns
returns c =
    let a = c.args in
    let e : length a.ones.now ≡ 16 = ap length c.requires.ones_zero ∙ length_zeros 16 in
    let d = a.digits.now in
    let p = offered a.m d ((length d + 63) / 64) c.if-digits-m.false refl (omega (arith, c.requires.short)) (rw e at c.put_digits.ensures) in
    record { upper_bound = omega (arith, c.requires.short); ones_after = p.0; twos_after = p.1 }
