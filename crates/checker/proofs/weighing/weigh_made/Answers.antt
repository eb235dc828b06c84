-- The working space is y less the rows that s names; its ones and twos with those of s are the full word's (`weighed`).
-- Assumes nothing.
use mathlib.Core.Path.{refl, sym, ap, ◌∙◌}
use native.Mathlib.Omega.{arith}
use lib.ListN.{length}
use Rattle.trits.specs.Trit.{sum_of}
use Rattle.trits.specs.Planes.{trit_at, Reads}
use Rattle.trits.proofs.Counting.{counts_le}
use Rattle.packed.specs.Packed.{packed_row}
use Rattle.held_key.specs.Held.{row_trits}
use Rattle.held_key.proofs.Sizes.{sizes}
use Rattle.checker.proofs.Weighed.{weighed, at_most}
use Rattle.checker.proofs.weighing.weigh_made.Goals as goal

pub take_packed_rows-taken-requires : goal.take_packed_rows-taken-requires
take_packed_rows-taken-requires c =
    let p = c.requires in
    let h = c.args.begun.held in
    record {
      whole = p.whole;
      readable = c.readable.ensures h.k (row_trits h) p.key_tested (p.whole.twos_size ∙ sym p.whole.ones_size);
      work = p.work;
      s_size = p.s_size;
      s_tested = p.s_tested;
    }

pub count-first-requires : goal.count-first-requires
count-first-requires c =
    let r = c.take_packed_rows-taken.ensures.reads in
    record {
      row = r.row;
      ones_len_bound = omega (arith, r.size, c.requires.work.size, sizes c.args.begun.held c.requires.whole.is_sound);
    }

pub add_counts-requires : goal.add_counts-requires
add_counts-requires c =
    let a = c.args in
    let few = sizes a.begun.held c.requires.whole.is_sound in
    let counted = c.take_packed_rows-taken.ensures.value in
    let taken = c.take_packed_rows-taken.ensures.reads in (
      omega (arith, at_most taken c.count-first.ensures, c.requires.work.size, few),
      omega (arith, ap sum_of counted, counts_le (packed_row a.s.now) a.begun.held.k, few),
    )

pub returns : goal.returns
returns c =
    let a = c.args in
    let p = c.requires in
    let counted = c.take_packed_rows-taken.ensures.value in
    let taken = c.take_packed_rows-taken.ensures.reads in
    let y = trit_at a.work_ones.now a.work_twos.now in
    let held-y : Reads a.work_ones.now a.work_twos.now (length a.work_ones.now) y = record { row = p.work.row; size = refl; trits = refl } in
    c.add_counts.ensures
    ∙ weighed y (packed_row a.s.now) p.whole p.key_tested p.ended held-y p.work.size taken c.count-first.ensures counted
