-- The source with its planes exchanged is its negative (`read_exchanged`), so adding it subtracts.
-- Assumes nothing.
use Prim.Native.Nat.{ℕ}
use mathlib.Core.Path.{ap}
use borrow.Author.Rules.{rules}
use native.Mathlib.Omega.{arith}
use Rattle.trits.specs.Trit.{Trit, add_t, zip_v}
use Rattle.trits.specs.Planes.{trit_at}
use Rattle.trits.proofs.Reading.{row_exchanged, read_exchanged, reads_to}
use Rattle.rows.proofs.sub_row.Goals as goal

pub add_row-requires : goal.add_row-requires
add_row-requires c =
    let r = row_exchanged c.requires.source in
    let e = c.requires.source.same in record {
      row = search rules;
      source = search rules;
      size = omega arith;
    }

pub returns : goal.returns
returns c =
    reads_to c.add_row.ensures (ap (λ (v : ℕ → Trit). zip_v add_t (trit_at c.args.ones.now c.args.twos.now) v)
    (read_exchanged c.requires.source))
