-- After i turns the first i rows, each times its trit of s, are taken, and `counts` has the ones and twos of these trits.
-- Assumes nothing.
use Prim.Native.Nat.{ℕ, ◌/◌, ◌%◌, ◌<◌}
use mathlib.Core.Path.{◌≡◌, refl, ap, ◌∙◌}
use native.Mathlib.Omega.{arith}
use lib.ListN.{get_or}
use Rattle.trits.specs.Trit.{sub_t, zip_v, trit_of, counts_v, sum_of, sum_to}
use Rattle.trits.specs.Planes.{trit_at}
use Rattle.trits.proofs.Reading.{reads_to}
use Rattle.trits.proofs.Counted.{same_counts}
use Rattle.trits.proofs.Counting.{counts_le}
use Rattle.packed.specs.Packed.{packed_row}
use Rattle.packed.proofs.Digits.{digit_lt}
use Rattle.packed.proofs.Keeping.{bytes_small}
use Rattle.packed.proofs.Turned.{bytes_passed}
use Rattle.verdict.specs.Verdict.{times_key}
use Rattle.held_key.specs.Held.{held_key}
use Rattle.held_key.proofs.Sizes.{sizes}
use Rattle.checker.proofs.Product.{taken_none, turn_reads, turn_counts}
use Rattle.packed.proofs.Digits.{packed_trit}
use Rattle.checker.proofs.weighing.take_by_table.Goals as goal

pub loop-i-init : goal.loop-i-init
unfolding sum_to
loop-i-init c =
    let a = c.args in (
      same_counts c.default-counts.ensures.0 c.default-counts.ensures.1,
      record {
        row = c.requires.work.row;
        size = refl;
        trits = taken_none (trit_at a.work_ones.now a.work_twos.now) (held_key a.held a.key.ones.now a.key.twos.now)
            (packed_row a.s.now);
      },
    )

pub bounds-s-i : goal.bounds-s-i
bounds-s-i c =
    let p = c.requires in
    omega (arith, p.s_size, p.whole.all_rows)

pub trit-t-requires : goal.trit-t-requires
trit-t-requires c =
    let s = c.args.s.now in
    let b = bytes_small s (bytes_passed _ s c.requires.s_tested).0 (c.loop-i.i / 5)
    (omega (arith, c.requires.s_size, c.requires.whole.all_rows)) in record {
      is_table = c.requires.is_table;
      byte = omega (arith, b);
      digit = omega (arith, b);
    }

pub count_trit-counts-requires : goal.count_trit-counts-requires
count_trit-counts-requires c =
    -- and below 3
    let trit_lt : c.trit-t.result < 3 =
    let s = c.args.s.now in
    omega (arith, c.trit-t.ensures, digit_lt (get_or s (c.loop-i.i / 5) 0) (c.loop-i.i % 5)) in
    let v = packed_row c.args.s.now in (
      omega (
        arith,
        ap sum_of c.loop-i.invariant.0,
        counts_le v c.loop-i.i,
        sizes c.args.held c.requires.whole.is_sound,
        c.requires.whole.all_rows,
      ),
      trit_lt,
    )

pub take_row-requires : goal.take_row-requires
take_row-requires c =
    -- and below 3
    let trit_lt : c.trit-t.result < 3 =
    let s = c.args.s.now in
    omega (arith, c.trit-t.ensures, digit_lt (get_or s (c.loop-i.i / 5) 0) (c.loop-i.i % 5)) in
    let v = c.loop-i.invariant.1 in record {
      whole = c.requires.whole;
      readable = c.requires.readable;
      work = record { row = v.row; size = v.size ∙ c.requires.work.size };
      row_in = omega (arith, c.requires.whole.all_rows);
      trit = trit_lt;
    }

pub loop-i-preserved : goal.loop-i-preserved
loop-i-preserved c =
    -- the trit read is that of s
    let trit_read : let a = c.args in trit_of c.trit-t.result ≡ packed_row a.s.now c.loop-i.i =
    let a = c.args in
    packed_trit a.s.now c.loop-i.i c.trit-t.result c.trit-t.ensures in
    let a = c.args in
    let v = c.loop-i.invariant.1 in (
      turn_counts (packed_row a.s.now) c.loop-i.i (trit_of c.trit-t.result) trit_read
          c.loop-i.invariant.0 c.count_trit-counts.ensures,
      turn_reads (trit_at a.work_ones.now a.work_twos.now) (held_key a.held a.key.ones.now a.key.twos.now) (packed_row a.s.now)
          c.loop-i.i (trit_of c.trit-t.result) trit_read v.size v c.take_row.ensures,
    )

pub returns : goal.returns
returns c =
    let a = c.args in
    let l = c.loop-i in
    let e : l.i ≡ a.held.k = omega (arith, c.requires.whole.all_rows) in record {
      value = l.invariant.0 ∙ ap (counts_v (packed_row a.s.now)) e;
      reads = reads_to l.invariant.1 (ap (λ (x : ℕ). zip_v sub_t (trit_at a.work_ones.now a.work_twos.now)
          (times_key x (held_key a.held a.key.ones.now a.key.twos.now) (packed_row a.s.now))) e);
    }
