-- The working space is made y, which is 0 past its length; then it is weighed.
-- Assumes nothing.
use Prim.Native.Nat.{ℕ}
use mathlib.Core.Path.{ap, ◌∙◌}
use native.Mathlib.Omega.{arith}
use Rattle.trits.specs.Trit.{Trit}
use Rattle.packed.specs.Packed.{packed_row, packed_refusal}
use Rattle.packed.proofs.Turned.{packed_out}
use Rattle.held_key.specs.Held.{row_trits}
use Rattle.held_key.proofs.Sizes.{sizes}
use Rattle.check_tests.specs.Check.{held_counts}
use Rattle.check_tests.proofs.Passed.{packed_fitted, packed_contents_law}
use Rattle.checker.proofs.weighing.weigh_packed.Goals as goal

pub write_packed-requires : goal.write_packed-requires
write_packed-requires c =
    let p = c.requires in
    let f = packed_fitted _ _ _ p.lengths in
    let n = sizes _ c.args.begun.sound in record {
      ones_size = omega (arith, f, p, c.row_trits.ensures, n);
      twos_size = omega (arith, f, p, c.row_trits.ensures, n);
      bytes_size = omega (arith, f, p, c.row_trits.ensures, n);
      small = omega (arith, f, p, c.row_trits.ensures, n);
      not_refused = ap (λ (m : ℕ). packed_refusal m c.args.y.now) c.row_trits.ensures ∙ (packed_contents_law _ _ _ _ _ p.contents).1;
    }

pub weigh_made-requires : goal.weigh_made-requires
weigh_made-requires c =
    let p = c.requires in
    let (key_tested, y_tested, s_tested) = packed_contents_law _ _ _ _ _ p.contents in
    let u = c.write_packed.ensures in record {
      whole = p.whole;
      key_tested = key_tested;
      s_size = (packed_fitted _ _ _ p.lengths).1;
      s_tested = s_tested;
      work = record { row = u.row; size = u.size ∙ p.work_ones };
      ended = λ q l. ap (λ (v : ℕ → Trit). v q) u.trits ∙ packed_out (row_trits c.args.begun.held) c.args.y.now y_tested q l;
    }

pub returns : goal.returns
returns c =
    let a = c.args in
    c.weigh_made.ensures
    ∙ ap (λ (y : ℕ → Trit). held_counts a.begun.held a.key.ones.now a.key.twos.now y (packed_row a.s.now))
    c.write_packed.ensures.trits
