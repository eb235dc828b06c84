-- Trits whose planes are exchanged are the negative ones (`neg_op`).
-- Assumes nothing.
use Prim.Native.Nat.{ℕ}
use mathlib.Core.Path.{◌≡◌, ap, ◌∙◌}
use lib.Bits.{bit_and}
use Rattle.std.proofs.lemmas.Nat.{and_comm}
use Rattle.trits.specs.Trit.{add_t, neg_t}
use Rattle.trits.specs.Planes.{bit, trit}
use Rattle.trits.proofs.WordOps.{neg_op, op_trit}
use Rattle.grid.proofs.operations.DifferenceOperation.words.Goals as goal

exchanged : (c d k : ℕ) → bit_and c d ≡ 0 → trit (bit k d) (bit k c) ≡ neg_t (trit (bit k c) (bit k d))
exchanged c d k p = op_trit neg_op c d c d p p k

pub returns : goal.returns
returns c =
    let n = c.args in
    record {
      apart = λ p q. c.words.ensures.apart p (and_comm n.d n.c ∙ q);
      trits = λ p q k. c.words.ensures.trits p (and_comm n.d n.c ∙ q) k ∙ ap (add_t (trit (bit k n.a) (bit k n.b))) (exchanged n.c n.d k q);
    }
