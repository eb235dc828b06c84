-- What the parts hold as a row is known word by word, since each word fits.
-- Assumes nothing.
use native.Mathlib.Omega.{arith}
use Rattle.trits.proofs.Reading.{reads_words}
use Rattle.held_key.proofs.key.write_part.Goals as goal

pub write_packed-requires : goal.write_packed-requires
write_packed-requires c =
    record {
      ones_size = c.requires.ones_size;
      twos_size = omega arith;
      bytes_size = c.requires.bytes_size;
      small = omega arith;
      not_refused = c.requires.not_refused;
    }

pub returns : goal.returns
returns c =
    reads_words c.write_packed.ensures c.requires.ones_size (λ j. omega (arith, c.type_inv.ones j))
    (λ j. omega (arith, c.type_inv.twos j))
