-- After i turns the first i rows, each times its trit of s, are taken.
-- Assumes nothing.
use Prim.Native.Nat.{ℕ}
use mathlib.Core.Path.{◌≡◌, refl, ap, ◌∙◌}
use native.Mathlib.Omega.{arith}
use Rattle.trits.specs.Trit.{sub_t, zip_v, trit_of}
use Rattle.trits.specs.Planes.{trit_at}
use Rattle.trits.proofs.Reading.{reads_to}
use Rattle.trits.proofs.Arithmetic.{number_lt, trit_number}
use Rattle.verdict.specs.Verdict.{times_key}
use Rattle.held_key.specs.Held.{held_key}
use Rattle.checker.proofs.Product.{taken_none, turn_reads}
use Rattle.checker.proofs.weighing.take_rows.Goals as goal

pub loop-i-init : goal.loop-i-init
loop-i-init c =
    let a = c.args in
    record {
      row = c.requires.work.row;
      size = refl;
      trits = taken_none (trit_at a.work_ones.now a.work_twos.now) (held_key a.held a.key.ones.now a.key.twos.now)
          (trit_at a.s.ones.now a.s.twos.now);
    }

pub trit_at-t-requires : goal.trit_at-t-requires
trit_at-t-requires c =
    let p = c.requires in
    record {
      twos_len = p.s_twos;
      i_bound = omega (arith, p.s_trits, p.whole.all_rows);
    }

pub take_row-requires : goal.take_row-requires
take_row-requires c =
    let v = c.loop-i.invariant in record {
      whole = c.requires.whole;
      readable = c.requires.readable;
      work = record { row = v.row; size = v.size ∙ c.requires.work.size };
      row_in = omega (arith, c.requires.whole.all_rows);
      trit = omega (arith, c.trit_at-t.ensures, number_lt (trit_at c.args.s.ones.now c.args.s.twos.now c.loop-i.i));
    }

pub loop-i-preserved : goal.loop-i-preserved
loop-i-preserved c =
    -- the trit read is that of s
    let trit_read : let a = c.args in trit_of c.trit_at-t.result ≡ trit_at a.s.ones.now a.s.twos.now c.loop-i.i =
    ap trit_of c.trit_at-t.ensures ∙ trit_number _ in
    let a = c.args in
    let v = c.loop-i.invariant in
    turn_reads (trit_at a.work_ones.now a.work_twos.now) (held_key a.held a.key.ones.now a.key.twos.now)
    (trit_at a.s.ones.now a.s.twos.now) c.loop-i.i (trit_of c.trit_at-t.result) trit_read v.size v c.take_row.ensures

pub returns : goal.returns
returns c =
    let a = c.args in
    let l = c.loop-i in
    let e : l.i ≡ a.held.k = omega (arith, c.requires.whole.all_rows) in
    reads_to l.invariant (ap (λ (x : ℕ). zip_v sub_t (trit_at a.work_ones.now a.work_twos.now)
    (times_key x (held_key a.held a.key.ones.now a.key.twos.now) (trit_at a.s.ones.now a.s.twos.now))) e)
