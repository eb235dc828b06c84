-- The planes are written once the output is known to give m trits (`hashed_decides`, `row_hashed`).
-- Assumes nothing.
use mathlib.Core.Path.{sym, ◌∙◌}
use lib.Dec.{lit<}
use Rattle.trits.proofs.Refusals.{exit_kept, exit_new}
use Rattle.trits.proofs.Reading.{reads_words}
use Rattle.packed.proofs.Turned.{stream_long}
use Rattle.syndrome.proofs.Made.{hashed_decides, row_hashed}
use native.Mathlib.Omega.{arith}
use Rattle.syndrome.proofs.make.Goals as goal

pub returns-then-too_short : goal.returns-then-too_short
returns-then-too_short c =
    let s = c.args in
    let made = c.absorb-a.ensures in
    let e = hashed_decides s.m s.salt.now s.text.now made (sym c.if-too_short.true ∙ c.too_short.ensures) in
    (e, exit_kept _ _ e (lit< tt), exit_kept _ _ e (lit< tt))

pub write_output-requires : goal.write_output-requires
write_output-requires c =
    record {
      small = c.requires.small;
      twos_size = c.requires.twos_size;
      ones_size = c.requires.ones_size;
      enough = stream_long c.args.m _ (sym c.too_short.ensures ∙ c.if-too_short.false);
    }

pub returns : goal.returns
returns c =
    let a = c.args in
    let made = c.absorb-a.ensures in
    let z = hashed_decides a.m a.salt.now a.text.now made (sym c.if-too_short.false ∙ c.too_short.ensures) in
    let r = rw (row_hashed a.m a.salt.now a.text.now made) at c.write_output.ensures in
    let w = reads_words r c.requires.ones_size (λ j. omega (arith, c.type_inv.ones j)) (λ j. omega (arith, c.type_inv.twos j)) in
    (z, w.ones_are ∙ exit_new _ _ (sym z), w.twos_are ∙ exit_new _ _ (sym z))
