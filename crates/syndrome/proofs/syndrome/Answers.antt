-- Each return has the number of the first test that applies; then making the row decides (`made_passed`).
-- Assumes nothing.
use mathlib.Core.Path.{◌≡◌, sym, ◌∙◌}
use native.Mathlib.Omega.{arith}
use lib.Dec.{lit<}
use Rattle.trits.proofs.Refusals.{exit_kept}
use Rattle.syndrome.specs.Syndrome.{syndrome_of, syndrome_refusal, syndrome_ones, syndrome_twos}
use Rattle.syndrome.proofs.Made.{made_size, made_ones, made_twos, made_salt, made_passed}
use Rattle.syndrome.proofs.syndrome.Goals as goal
use Rattle.syndrome.proofs.syndrome.Goals.{then-ones-words-via-then-ones-words, then-ones-words-via-else-ones-words+then-twos-words}
use Rattle.syndrome.proofs.syndrome.Goals.{then-ones-words-via-else-ones-words+else-twos-words+then-salt-ne-SALT_LEN}

pub returns-then-m-gt16384 : goal.returns-then-m-gt16384
unfolding syndrome_ones syndrome_twos
returns-then-m-gt16384 c =
    let e = made_size _ _ _ _ _ c.if-m-gt16384.true in
    (e, exit_kept _ _ e (lit< tt), exit_kept _ _ e (lit< tt))

pub returns-then-ones-words : goal.returns-then-ones-words
unfolding syndrome_ones syndrome_twos
returns-then-ones-words c =
    let fits = c.if-m-gt16384.false in
    let a = c.args in
    let e : 2 ≡ syndrome_refusal (syndrome_of a.m a.salt.now a.text.now a.ones.now a.twos.now) = elim c.then-ones-words.branch [
      | then-ones-words-via-then-ones-words w ↦ made_ones _ _ _ _ _ fits w.if-ones-words.true
      | then-ones-words-via-else-ones-words+then-twos-words w ↦ made_twos _ _ _ _ _ fits w.if-ones-words.false w.if-twos-words.true
      | then-ones-words-via-else-ones-words+else-twos-words+then-salt-ne-SALT_LEN w ↦
          made_salt _ _ _ _ _ fits w.if-ones-words.false w.if-twos-words.false w.if-salt-ne-SALT_LEN.true
    ] in
    (e, exit_kept _ _ e (lit< tt), exit_kept _ _ e (lit< tt))

pub make-requires : goal.make-requires
make-requires c =
    record {
      small = c.if-m-gt16384.false;
      twos_size = c.if-twos-words.false ∙ sym c.if-ones-words.false;
      ones_size = c.if-ones-words.false;
      message = record { short = omega (arith, c.if-salt-ne-SALT_LEN.false); fits = omega arith };
    }

pub returns : goal.returns
unfolding syndrome_ones syndrome_twos
returns c =
    let a = c.args in
    let p = made_passed a.m a.salt.now a.text.now a.ones.now a.twos.now c.if-m-gt16384.false c.if-ones-words.false c.if-twos-words.false
    c.if-salt-ne-SALT_LEN.false in
    rw p at c.make.ensures
