-- The planes of the key are tested as k rows of n-k trits.
-- Assumes nothing.
use native.Mathlib.Omega.{arith}
use Prim.Native.Nat.{ℕ, ◌*◌}
use mathlib.Core.Path.{sym, ap, ◌∙◌}
use Rattle.trits.specs.Planes.{words_for}
use Rattle.held_key.proofs.Sizes.{sizes}
use Rattle.check_tests.proofs.test_rows.Goals as goal

pub test_planes-requires : goal.test_planes-requires
test_planes-requires c =
    let h = c.args.begun.held in
    let e = c.row_trits.ensures in record {
      ones_size = c.requires.ones_size ∙ ap (λ (m : ℕ). h.k * words_for m) (sym e);
      twos_size = c.requires.twos_size ∙ ap (λ (m : ℕ). h.k * words_for m) (sym e);
      small = omega (arith, sizes h c.requires.is_sound, e);
    }
